-- The theorems on what specs/Order.antt defines. Assumes nothing.
use Rattle.std.specs.Prelude.{◌≡◌, refl, Bool, true, false, not, ◌&&◌, ◌||◌, List, [], ◌∷◌, Option, None, Some, ℕ, leb}
use Rattle.std.proofs.Common.{subst}
use Rattle.answer.specs.Answer.{gives, bound, same_given}
use Rattle.answer.specs.Order.{Test, first_of, bare, InOrder, order_past, order_bind}
use Rattle.answer.specs.Tools.{neither}
use Rattle.answer.specs.Lists.{order_either, order_under, order_skip, order_map}
use Rattle.tree.specs.Order.{no_hse, no_output}
use Rattle.pll32.specs.declared.Part.{Part}
use Rattle.pll32.specs.declared.Source.{Source}
use Rattle.pll32.specs.declared.Source.TheVariants as from
use Rattle.divider.specs.declared.Frequency.{Frequency}
use Rattle.tree.specs.Tree.{hse_frequency_of}
use Rattle.pll32.specs.Pll.{too_wide, pll_output_of}
use Rattle.pll32.specs.Order.{from_hse, over32}
use Rattle.pll32.proofs.Order.{pll_order, codes_order, configured_where, decoded_clocks_in_order}
use Rattle.v1.specs.declared.Chip.{Chip}
use Rattle.v1.specs.declared.PllPreDiv.{PllPreDiv}
use Rattle.v1.specs.declared.PllPreDiv.TheVariants.{Div1, Div2}
use Rattle.v1.specs.declared.Pll.{Pll}
use Rattle.v1.specs.declared.Config.{Config}
use Rattle.v1.specs.declared.Fields.{Fields}
use Rattle.v1.specs.V1.{part_of, setting_of, wide_pll, wide_config, configured_pll_of, check_of, setting_in, decode_of, wide_fields, written_of, fields_of}
use Rattle.v1.specs.Order.{check_tests, decode_tests, fields_tests, has_pll, mul_code, pll_hz}

-- the PLL's part, once its code is in its field
abbrev pll_tests : Part → Option ℕ → Source → Option Pll → List Test
pll_tests part h source p = (3, has_pll p && (from_hse source && no_hse h)) ∷ (24, has_pll p && over32 (pll_hz part h source p)) ∷ []

by_prediv : (part : Part) (h : Option ℕ) (source : Source) (prediv : PllPreDiv) (mul : ℕ) → leb 16 mul ≡ false →
    let p : Option Pll = Some (record { prediv = prediv; mul = mul }) in
    InOrder (pll_tests part h source p) (configured_pll_of part h source p)
unfolding configured_pll_of
by_prediv part h source Div1 mul narrow =
    order_map Some (pll_output_of part h (setting_of source Div1 mul)) (order_skip narrow (pll_order part h (setting_of source Div1 mul)))
by_prediv part h source Div2 mul narrow =
    order_map Some (pll_output_of part h (setting_of source Div2 mul)) (order_skip narrow (pll_order part h (setting_of source Div2 mul)))

pll_part : (part : Part) (h : Option ℕ) (source : Source) (p : Option Pll) → wide_pll p ≡ false →
    InOrder (pll_tests part h source p) (configured_pll_of part h source p)
unfolding configured_pll_of
pll_part part h source None narrow = record { goes = refl }
pll_part part h source (Some p) narrow = by_prediv part h source p.prediv p.mul narrow

-- there is an output where a PLL is configured
pll_there_lem : (part : Part) (h : Option ℕ) (source : Source) (p : Option Pll) {out : Option Frequency} → configured_pll_of part h source p ≡ gives out → no_output out ≡ not (has_pll p)
unfolding configured_pll_of
pll_there_lem part h source None e = subst (λ (o : Option Frequency). no_output o ≡ true) (same_given e) refl
pll_there_lem part h source (Some p) e =
    subst (λ (o : Option Frequency). no_output o ≡ false) (same_given (bound (pll_output_of part h (setting_of source p.prediv p.mul)) _ e).after) refl

wide_pll_lem : (p : Option Pll) → wide_pll p ≡ leb 16 (mul_code p)
wide_pll_lem None = refl
wide_pll_lem (Some p) = refl

check_order : (chip : Chip) (c : Config) → InOrder (check_tests chip c) (check_of chip c)
unfolding check_of wide_config
check_order chip c =
    let h = hse_frequency_of c.hse in
    let codes = too_wide c.sys c.ahb_pre c.apb1_pre c.apb2_pre in
    let all = order_past 28 (wide_pll c.pll || codes) (λ wide.
    let narrow = neither (wide_pll c.pll) codes wide in
    order_bind (configured_pll_of (part_of chip) h c.pll_src c.pll) (pll_part (part_of chip) h c.pll_src c.pll narrow.0) (λ out e.
    configured_where (part_of chip) h out c.sys c.ahb_pre c.apb1_pre c.apb2_pre
    (pll_there_lem (part_of chip) h c.pll_src c.pll e) narrow.1)) in
    rw (← wide_pll_lem c.pll)
    (order_under (wide_pll c.pll) (codes_order c.sys c.ahb_pre c.apb1_pre c.apb2_pre) (order_either (wide_pll c.pll) codes all))

pub check_in_order : (chip : Chip) (c : Config) → bare (check_of chip c) ≡ first_of (check_tests chip c)
check_in_order chip c = (check_order chip c).goes

pub fields_in_order : (chip : Chip) (c : Config) (f : Fields) → bare (fields_of chip c f) ≡ first_of (fields_tests chip c f)
unfolding fields_of wide_fields
fields_in_order chip c f =
    let codes = too_wide f.sws f.hpre f.ppre1 f.ppre2 in
    let all = order_past 28 (leb 16 f.pllmul || codes) (λ e. order_map (λ k. written_of c f) (check_of chip c) (check_order chip c)) in
    (order_under (leb 16 f.pllmul) (codes_order f.sws f.hpre f.ppre1 f.ppre2) (order_either (leb 16 f.pllmul) codes all)).goes

by_bits : (chip : Chip) (sws mul hpre ppre1 ppre2 : ℕ) (h : Option ℕ) (pllsrc pllxtpre hsipre : Bool) →
    let f : Fields =
    record { sws = sws; pllsrc = pllsrc; pllxtpre = pllxtpre; pllmul = mul; hpre = hpre; ppre1 = ppre1; ppre2 = ppre2; hsipre = hsipre } in
    bare (decode_of chip f h) ≡ first_of (decode_tests chip f h)
unfolding decode_of setting_in
by_bits chip sws mul hpre ppre1 ppre2 h true true hsipre = decoded_clocks_in_order (part_of chip) h (record { source = from.Hse; prediv = 1; mul = mul }) sws hpre ppre1 ppre2
by_bits chip sws mul hpre ppre1 ppre2 h true false hsipre = decoded_clocks_in_order (part_of chip) h (record { source = from.Hse; prediv = 0; mul = mul }) sws hpre ppre1 ppre2
by_bits chip sws mul hpre ppre1 ppre2 h false pllxtpre true = decoded_clocks_in_order (part_of chip) h (record { source = from.Hsi; prediv = 0; mul = mul }) sws hpre ppre1 ppre2
by_bits chip sws mul hpre ppre1 ppre2 h false pllxtpre false = decoded_clocks_in_order (part_of chip) h (record { source = from.Hsi; prediv = 1; mul = mul }) sws hpre ppre1 ppre2

pub decode_in_order : (chip : Chip) (f : Fields) (h : Option ℕ) → bare (decode_of chip f h) ≡ first_of (decode_tests chip f h)
decode_in_order chip f h = by_bits chip f.sws f.pllmul f.hpre f.ppre1 f.ppre2 h f.pllsrc f.pllxtpre f.hsipre
