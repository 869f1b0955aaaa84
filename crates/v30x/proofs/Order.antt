-- The theorems on what specs/Order.antt defines. Assumes nothing.
use Rattle.std.specs.Prelude.{◌≡◌, refl, Bool, true, false, not, ◌&&◌, ◌||◌, List, [], ◌∷◌, Option, None, Some, ℕ, ◌+◌, ◌/◌, eqb, leb}
use Rattle.std.proofs.Common.{subst}
use Rattle.answer.specs.Answer.{Answer, gives, bound, passed, followed, same_given, refuses_gives}
use Rattle.answer.specs.Order.{Test, first_of, bare, InOrder, order_gives, order_refuse, order_past, order_bind, order_then, order_else}
use Rattle.answer.specs.Tools.{neither}
use Rattle.answer.specs.Lists.{order_either, order_under, order_skip, order_not, order_map}
use Rattle.divider.specs.Frequency.{over}
use Rattle.tree.specs.Order.{no_hse, no_output}
use Rattle.pll32.specs.declared.Part.TheVariants as part
use Rattle.pll32.specs.declared.Source.{Source}
use Rattle.pll32.specs.declared.Source.TheVariants as from
use Rattle.divider.specs.declared.Frequency.{Frequency}
use Rattle.tree.specs.Tree.{hse_frequency_of}
use Rattle.pll32.specs.Pll.{too_wide, wide_setting, pll_output_of}
use Rattle.pll32.specs.Order.{from_hse, source_hz, over32, codes_tests}
use Rattle.pll32.proofs.Order.{source_else, pll_order, codes_order, configured_where, decoded_order}
use Rattle.v30x.specs.declared.PllSource.{PllSource}
use Rattle.v30x.specs.declared.PllSource.TheVariants as source
use Rattle.v30x.specs.declared.Pll.{Pll}
use Rattle.v30x.specs.declared.Config.{Config}
use Rattle.v30x.specs.declared.Fields.{Fields}
use Rattle.v30x.specs.V30x.{wide_pll, wide_hs_pll, wide_config, from_hsi, setting_of, pll_from_oscillator_of, configured_pll_of, reference_allowed, usbhs_of, sources_of, check_of, setting_in, wide_fields, decode_of, written_of, fields_of}
use Rattle.v30x.specs.Order.{check_tests, decode_tests, fields_tests, has_pll, has_usbhs, in_use_tests, mul_code, pll_from_hse, pll_from_hsi, pll_from_pll2, pll_hz, prediv_code, usbhs_code}

-- the PLL's part, once its codes are in their fields
abbrev pll_tests : Option ℕ → PllSource → Option Pll → List Test
pll_tests h s p =
    (27, has_pll p && pll_from_pll2 s)
    ∷ (3, has_pll p && (pll_from_hse s && no_hse h))
    ∷ (24, has_pll p && over32 (pll_hz h s p))
    ∷ (25, has_pll p && (pll_from_hsi s && leb 2 (prediv_code p)))
    ∷ []

pll_part : (h : Option ℕ) (s : PllSource) (p : Option Pll) → wide_pll p ≡ false → InOrder (pll_tests h s p) (configured_pll_of h s p)
unfolding configured_pll_of pll_from_oscillator_of
pll_part h s None narrow = record { goes = refl }
pll_part h source.Pll2 (Some p) narrow = record { goes = refl }
pll_part h source.Hsi (Some p) narrow =
    order_not
    (order_bind (pll_output_of part.V30x h (setting_of from.Hsi p.prediv p.mul)) (order_skip narrow (pll_order part.V30x h (setting_of from.Hsi p.prediv p.mul))) (λ x e.
    order_past 25 (leb 2 p.prediv) (λ e. order_gives)))
pll_part h source.Hse (Some p) narrow =
    order_not
    (order_bind (pll_output_of part.V30x h (setting_of from.Hse p.prediv p.mul)) (order_skip narrow (pll_order part.V30x h (setting_of from.Hse p.prediv p.mul))) (λ x e.
    order_past 25 false (λ e. order_gives)))

-- USBHS's
abbrev usbhs_tests : Option ℕ → Source → Option ℕ → List Test
usbhs_tests h s p =
    (3, has_usbhs p && (from_hse s && no_hse h))
    ∷ (8, has_usbhs p && not (reference_allowed (source_hz s h / (usbhs_code p + 1))))
    ∷ []

usbhs_part : (h : Option ℕ) (s : Source) (p : Option ℕ) → InOrder (usbhs_tests h s p) (usbhs_of h s p)
unfolding usbhs_of over
usbhs_part h s None = record { goes = refl }
usbhs_part h s (Some pre) =
    order_else (source_else s h) (λ x e. rw e (order_refuse 8 (not (reference_allowed (source_hz s h / (pre + 1))))))

-- there is an output where a PLL is configured
fed_there : (h : Option ℕ) (s : Source) (prediv mul : ℕ) {out : Option Frequency} → pll_from_oscillator_of h s prediv mul ≡ gives out → no_output out ≡ false
unfolding pll_from_oscillator_of
fed_there h s prediv mul e =
    let made = bound (pll_output_of part.V30x h (setting_of s prediv mul)) _ e in
    let tested = passed 25 (from_hsi s && leb 2 prediv) (gives (Some made.value)) made.after in
    subst (λ (o : Option Frequency). no_output o ≡ false) (same_given tested.after) refl

pll_there_lem : (h : Option ℕ) (s : PllSource) (p : Option Pll) {out : Option Frequency} → configured_pll_of h s p ≡ gives out → no_output out ≡ not (has_pll p)
unfolding configured_pll_of
pll_there_lem h s None e = subst (λ (o : Option Frequency). no_output o ≡ true) (same_given e) refl
pll_there_lem h source.Hsi (Some p) e = fed_there h from.Hsi p.prediv p.mul e
pll_there_lem h source.Hse (Some p) e = fed_there h from.Hse p.prediv p.mul e
pll_there_lem h source.Pll2 (Some p) e = refuses_gives e

sources_there : (h : Option ℕ) (c : Config) {out : Option Frequency} → sources_of h c ≡ gives out → no_output out ≡ not (has_pll c.pll)
unfolding sources_of
sources_there h c e =
    let main = bound (configured_pll_of h c.pll_src c.pll) _ (passed 27 c.pllx _ e).after in
    let usbhs = followed (usbhs_of h c.hspll_src c.hspll) _ main.after in
    subst (λ (o : Option Frequency). no_output o ≡ not (has_pll c.pll)) (same_given usbhs.after) (pll_there_lem h c.pll_src c.pll main.gave)

wide_pll_lem : (p : Option Pll) → wide_pll p ≡ (leb 16 (prediv_code p) || leb 16 (mul_code p))
wide_pll_lem None = refl
wide_pll_lem (Some p) = refl

wide_usbhs : (p : Option ℕ) → wide_hs_pll p ≡ leb 8 (usbhs_code p)
wide_usbhs None = refl
wide_usbhs (Some pre) = refl

check_order : (c : Config) → InOrder (check_tests c) (check_of c)
unfolding check_of sources_of wide_config
check_order c =
    let h = hse_frequency_of c.hse in
    let pll = wide_pll c.pll in
    let usbhs = wide_hs_pll c.hspll in
    let codes = too_wide c.sys c.ahb_pre c.apb1_pre c.apb2_pre in
    let all = order_past 28 (pll || usbhs || codes) (λ wide.
    let narrow = neither (pll || usbhs) codes wide in
    order_bind (sources_of h c)
    (order_past 27 c.pllx (λ e.
    order_bind (configured_pll_of h c.pll_src c.pll) (pll_part h c.pll_src c.pll (neither pll usbhs narrow.0).0) (λ out e.
    order_then (usbhs_of h c.hspll_src c.hspll) (usbhs_part h c.hspll_src c.hspll) (λ u e. order_gives)))) (λ out e.
    configured_where part.V30x h out c.sys c.ahb_pre c.apb1_pre c.apb2_pre (sources_there h c e) narrow.1)) in
    let split = order_either pll usbhs (order_either (pll || usbhs) codes all) in
    let by_code = order_under pll (order_under usbhs (codes_order c.sys c.ahb_pre c.apb1_pre c.apb2_pre)) split in
    order_either (leb 16 (prediv_code c.pll)) (leb 16 (mul_code c.pll)) (rw (← wide_pll_lem c.pll, ← wide_usbhs c.hspll) by_code)

pub check_in_order : (c : Config) → bare (check_of c) ≡ first_of (check_tests c)
check_in_order c = (check_order c).goes

-- the codes of fields
fields_codes : {A : Type 0} {m : Answer A} {l : List Test} (f : Fields) → InOrder ((28, wide_fields f) ∷ l) m →
    InOrder ((28, leb 16 f.prediv1) ∷ (28, leb 16 f.pllmul) ∷ codes_tests f.sws f.hpre f.ppre1 f.ppre2 l) m
unfolding wide_fields
fields_codes f h =
    let pll = wide_setting f.prediv1 f.pllmul in
    order_either (leb 16 f.prediv1) (leb 16 f.pllmul)
    (order_under pll (codes_order f.sws f.hpre f.ppre1 f.ppre2) (order_either pll (too_wide f.sws f.hpre f.ppre1 f.ppre2) h))

-- they come first; behind them stands the check, whatever it refuses by
fields_first : {l : List Test} (c : Config) (f : Fields) → InOrder l (check_of c) → InOrder ((28, wide_fields f) ∷ l) (fields_of c f)
unfolding fields_of
fields_first c f h = order_past 28 (wide_fields f) (λ e. order_map (λ k. written_of c f) (check_of c) h)

pub fields_in_order : (c : Config) (f : Fields) → bare (fields_of c f) ≡ first_of (fields_tests c f)
fields_in_order c f = (fields_codes f (fields_first c f (check_order c))).goes

mul_narrow : (prediv1 mul : ℕ) (codes : Bool) → (wide_setting prediv1 mul || codes) ≡ false → (leb 16 mul || codes) ≡ false
mul_narrow prediv1 mul codes h =
    let both = neither (wide_setting prediv1 mul) codes h in
    rw (neither (leb 16 prediv1) (leb 16 mul) both.0).1 both.1

by_bits : (sws prediv1 mul hpre ppre1 ppre2 : ℕ) (h : Option ℕ) (prediv1src pllsrc hsipre : Bool) →
    let f : Fields = record {
      sws = sws;
      pllsrc = pllsrc;
      prediv1 = prediv1;
      prediv1src = prediv1src;
      pllmul = mul;
      hpre = hpre;
      ppre1 = ppre1;
      ppre2 = ppre2;
      hsipre = hsipre;
    } in
    InOrder ((28, wide_fields f) ∷ in_use_tests f h) (decode_of f h)
unfolding decode_of wide_fields setting_in
by_bits sws prediv1 mul hpre ppre1 ppre2 h pll2 true hsipre =
    order_past 28 (wide_setting prediv1 mul || too_wide sws hpre ppre1 ppre2) (λ narrow.
    order_past 27 (eqb sws 2 && true && pll2) (λ e.
    order_skip narrow (decoded_order part.V30x h (record { source = from.Hse; prediv = prediv1; mul = mul }) sws hpre ppre1 ppre2)))
by_bits sws prediv1 mul hpre ppre1 ppre2 h pll2 false true =
    order_past 28 (wide_setting prediv1 mul || too_wide sws hpre ppre1 ppre2) (λ narrow.
    order_past 27 (eqb sws 2 && false && pll2) (λ e.
    order_skip (mul_narrow prediv1 mul (too_wide sws hpre ppre1 ppre2) narrow) (decoded_order part.V30x h (record { source = from.Hsi; prediv = 0; mul = mul }) sws hpre ppre1 ppre2)))
by_bits sws prediv1 mul hpre ppre1 ppre2 h pll2 false false =
    order_past 28 (wide_setting prediv1 mul || too_wide sws hpre ppre1 ppre2) (λ narrow.
    order_past 27 (eqb sws 2 && false && pll2) (λ e.
    order_skip (mul_narrow prediv1 mul (too_wide sws hpre ppre1 ppre2) narrow) (decoded_order part.V30x h (record { source = from.Hsi; prediv = 1; mul = mul }) sws hpre ppre1 ppre2)))

pub decode_in_order : (f : Fields) (h : Option ℕ) → bare (decode_of f h) ≡ first_of (decode_tests f h)
decode_in_order f h =
    (fields_codes f (by_bits f.sws f.prediv1 f.pllmul f.hpre f.ppre1 f.ppre2 h f.prediv1src f.pllsrc f.hsipre)).goes
