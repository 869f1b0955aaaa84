-- The theorems on what specs/Order.antt defines. Assumes nothing.
use Rattle.std.specs.Prelude.{◌≡◌, refl, Bool, true, false, cond, ◌&&◌, ◌||◌, Option, None, Some, List, [], ◌∷◌, ℕ, eqb, leb}
use Rattle.std.proofs.Common.{◌∙◌, sym, ap, subst, eqb-true}
use Rattle.answer.specs.Answer.{Answer}
use Rattle.answer.specs.Order.{Test, first_of, bare, InOrder, only, order_gives, order_past, order_bind, order_else, OrElse, else_gives, else_not, else_order}
use Rattle.answer.specs.Tools.{neither}
use Rattle.answer.specs.Lists.{order_either, order_under, order_skip, order_map, only_none, only_all}
use Rattle.divider.specs.declared.Frequency.{Frequency}
use Rattle.divider.specs.Frequency.{whole, over}
use Rattle.tree.specs.Tree.{clocks_of}
use Rattle.tree.specs.Order.{no_hse, no_output, clocks_else}
use Rattle.pll32.specs.declared.Part.{Part}
use Rattle.pll32.specs.declared.Source.{Source}
use Rattle.pll32.specs.declared.Source.TheVariants as source
use Rattle.pll32.specs.declared.Setting.{Setting}
use Rattle.pll32.specs.Pll.{hsi_of, too_wide, wide_setting, family_of, needed_hse_of, source_frequency_of, multiplied_of, pll_output_of, pll_as_sysclk_of, sysclk_of, configured_clocks_of, decoded_sysclk_of, decoded_clocks_of}
use Rattle.pll32.specs.Order.{codes_tests, configured_tests, decoded_tests, in_use_tests, over32, pll_output_tests, pll_tests, product_hz, source_hz, source_tests, sysclk_tests}

pub source_else : (s : Source) (h : Option ℕ) → OrElse (source_tests s h) (whole (source_hz s h)) (source_frequency_of s h)
source_else source.Hsi h = else_not else_gives
source_else source.Hse None = record { is = refl }
source_else source.Hse (Some hz) = else_not else_gives

pub source_in_order : (s : Source) (h : Option ℕ) → bare (source_frequency_of s h) ≡ first_of (source_tests s h)
source_in_order s h = (else_order (source_else s h)).goes

-- once its codes are in their fields
pub pll_order : (part : Part) (h : Option ℕ) (s : Setting) → InOrder ((28, wide_setting s.prediv s.mul) ∷ pll_tests part h s) (pll_output_of part h s)
unfolding pll_output_of multiplied_of over
pll_order part h s =
    order_past 28 (wide_setting s.prediv s.mul) (λ narrow.
    order_else (source_else s.source h) (λ x e. rw e (order_past 24 (over32 (product_hz part h s)) (λ fits. order_gives))))

pub pll_output_in_order : (part : Part) (h : Option ℕ) (s : Setting) → bare (pll_output_of part h s) ≡ first_of (pll_output_tests part h s)
pll_output_in_order part h s = (order_either (leb 16 s.prediv) (leb 16 s.mul) (pll_order part h s)).goes

-- SYSCLK: 3 where it is HSE, what the PLL refuses by where it is the PLL.

apart : (sys : ℕ) → eqb sys 1 ≡ true → eqb sys 2 ≡ false
apart sys e = rw (eqb-true sys 1 e) refl

chosen_order : (one two : Bool) {l : List Test} {m : Answer Frequency} → (one ≡ true → two ≡ false) → (h : Option ℕ) → InOrder l m →
    InOrder ((3, one && no_hse h) ∷ only two l) (cond one (needed_hse_of h) (cond two m hsi_of))
chosen_order true two e None k = record { goes = refl }
chosen_order true two {l} e (Some hz) k = record { goes = sym (only_none l) ∙ ap (λ (b : Bool). first_of (only b l)) (sym (e refl)) }
chosen_order false true {l} e h k = record { goes = k.goes ∙ sym (only_all l) }
chosen_order false false {l} e h k = record { goes = sym (only_none l) }

pub codes_order : {A : Type 0} {l : List Test} {m : Answer A} (sys ahb apb1 apb2 : ℕ) → InOrder ((28, too_wide sys ahb apb1 apb2) ∷ l) m →
    InOrder (codes_tests sys ahb apb1 apb2 l) m
codes_order sys ahb apb1 apb2 h =
    order_either (leb 4 sys) (leb 16 ahb)
    (order_either (leb 4 sys || leb 16 ahb) (leb 8 apb1) (order_either (leb 4 sys || leb 16 ahb || leb 8 apb1) (leb 8 apb2) h))

-- the six clocks below a SYSCLK, once these codes are in their fields
six_order : (part : Part) (x : Frequency) (sys ahb apb1 apb2 : ℕ) → too_wide sys ahb apb1 apb2 ≡ false → InOrder [] (clocks_of (family_of part) x ahb apb1 apb2)
six_order part x sys ahb apb1 apb2 narrow =
    let three = neither (leb 4 sys || leb 16 ahb || leb 8 apb1) (leb 8 apb2) narrow in
    let two = neither (leb 4 sys || leb 16 ahb) (leb 8 apb1) three.0 in
    let one = neither (leb 4 sys) (leb 16 ahb) two.0 in
    order_skip three.1 (order_skip two.1 (order_skip one.1 (else_order (clocks_else (family_of part) x ahb apb1 apb2))))

as_sysclk : (out : Option Frequency) → InOrder ((26, no_output out) ∷ []) (pll_as_sysclk_of out)
as_sysclk None = record { goes = refl }
as_sysclk (Some x) = record { goes = refl }

configured_order : (part : Part) (h : Option ℕ) (out : Option Frequency) (sys ahb apb1 apb2 : ℕ) →
    InOrder ((28, too_wide sys ahb apb1 apb2) ∷ sysclk_tests h (no_output out) sys) (configured_clocks_of part h out sys ahb apb1 apb2)
unfolding configured_clocks_of sysclk_of
configured_order part h out sys ahb apb1 apb2 =
    order_past 28 (too_wide sys ahb apb1 apb2) (λ narrow.
    order_bind (sysclk_of h out sys) (order_past 20 (eqb sys 3) (λ e. chosen_order (eqb sys 1) (eqb sys 2) (apart sys) h (as_sysclk out))) (λ x e.
    order_map _ (clocks_of (family_of part) x ahb apb1 apb2) (six_order part x sys ahb apb1 apb2 narrow)))

-- once its codes are in their fields, and it is known whether a PLL is configured
pub configured_where : (part : Part) (h : Option ℕ) (out : Option Frequency) (sys ahb apb1 apb2 : ℕ) {absent : Bool} → no_output out ≡ absent →
    too_wide sys ahb apb1 apb2 ≡ false → InOrder (sysclk_tests h absent sys) (configured_clocks_of part h out sys ahb apb1 apb2)
configured_where part h out sys ahb apb1 apb2 is narrow =
    subst (λ (b : Bool). InOrder (sysclk_tests h b sys) (configured_clocks_of part h out sys ahb apb1 apb2)) is
    (order_skip narrow (configured_order part h out sys ahb apb1 apb2))

pub configured_clocks_in_order : (part : Part) (h : Option ℕ) (out : Option Frequency) (sys ahb apb1 apb2 : ℕ) →
    bare (configured_clocks_of part h out sys ahb apb1 apb2) ≡ first_of (configured_tests h out sys ahb apb1 apb2)
configured_clocks_in_order part h out sys ahb apb1 apb2 = (codes_order sys ahb apb1 apb2 (configured_order part h out sys ahb apb1 apb2)).goes

pub decoded_order : (part : Part) (h : Option ℕ) (s : Setting) (sws hpre ppre1 ppre2 : ℕ) →
    InOrder ((28, wide_setting s.prediv s.mul || too_wide sws hpre ppre1 ppre2) ∷ in_use_tests part h s sws) (decoded_clocks_of part h s sws hpre ppre1 ppre2)
unfolding decoded_clocks_of decoded_sysclk_of
decoded_order part h s sws hpre ppre1 ppre2 =
    order_past 28 (wide_setting s.prediv s.mul || too_wide sws hpre ppre1 ppre2) (λ wide.
    let narrow = neither (wide_setting s.prediv s.mul) (too_wide sws hpre ppre1 ppre2) wide in
    order_bind (decoded_sysclk_of part h s sws) (chosen_order (eqb sws 1) (eqb sws 2) (apart sws) h (order_skip narrow.0 (pll_order part h s))) (λ x e.
    six_order part x sws hpre ppre1 ppre2 narrow.1))

pub decoded_clocks_in_order : (part : Part) (h : Option ℕ) (s : Setting) (sws hpre ppre1 ppre2 : ℕ) →
    bare (decoded_clocks_of part h s sws hpre ppre1 ppre2) ≡ first_of (decoded_tests part h s sws hpre ppre1 ppre2)
decoded_clocks_in_order part h s sws hpre ppre1 ppre2 =
    let wide = wide_setting s.prediv s.mul in
    let split = order_either wide (too_wide sws hpre ppre1 ppre2) (decoded_order part h s sws hpre ppre1 ppre2) in
    (order_either (leb 16 s.prediv) (leb 16 s.mul) (order_under wide (codes_order sws hpre ppre1 ppre2) split)).goes
