-- The order of refusals of CH32H4: 28 for each code too wide for its field. FPRE can't be.
-- Assumes nothing.
use Rattle.std.specs.Prelude.{◌≡◌, List, [], ◌∷◌, ℕ, leb}
use Rattle.answer.specs.Order.{Test, first_of, bare, order_gives, order_past, order_bind, else_order}
use Rattle.answer.specs.Lists.{order_map}
use Rattle.divider.specs.declared.Family.TheVariants.{H4}
use Rattle.divider.specs.declared.Frequency.{Frequency}
use Rattle.divider.specs.Frequency.{over}
use Rattle.divider.specs.Divide.{fpre_divisor, by_ahb_of, apb_quotient_of}
use Rattle.divider.specs.Laws.{by_ahb_else, apb_quotient_else, by_apb_quotient}
use Rattle.tree.specs.declared.Clocks.{Clocks}
use Rattle.tree.specs.Tree.{below_of}
use Rattle.tree.specs.Order.{below_else}
use Rattle.h4.specs.declared.Prescale.{Prescale}
use Rattle.h4.specs.H4.{pclk_of, doubled_of, prescaled_of}

pub ahb_in_order : (sysclk : Frequency) (hpre : ℕ) → bare (by_ahb_of H4 sysclk hpre) ≡ first_of ((28, leb 16 hpre) ∷ [])
ahb_in_order sysclk hpre = (else_order (by_ahb_else H4 sysclk hpre)).goes

abbrev pub pclk_tests : ℕ → List Test
pclk_tests ppre = (28, leb 8 ppre) ∷ []

pub pclk_in_order : (hclk : Frequency) (ppre : ℕ) → bare (pclk_of hclk ppre) ≡ first_of (pclk_tests ppre)
unfolding pclk_of
pclk_in_order hclk ppre =
    rw (by_apb_quotient hclk ppre)
    (order_map {B = Frequency × ℕ} (λ (pclk : Frequency). (pclk, pclk.hz)) _
    (order_map (λ (q : ℕ × Frequency). q.1) (apb_quotient_of hclk ppre) (else_order (apb_quotient_else hclk ppre)))).goes

pub doubled_in_order : (position : ℕ) → bare (doubled_of position) ≡ first_of ((28, leb 32 position) ∷ [])
unfolding doubled_of
doubled_in_order position = (order_past 28 (leb 32 position) (λ e. order_gives)).goes

abbrev pub prescaled_tests : Prescale → List Test
prescaled_tests p = (28, leb 16 p.hpre) ∷ (28, leb 8 p.ppre1) ∷ (28, leb 8 p.ppre2) ∷ []

pub prescaled_in_order : (sysclk : Frequency) (p : Prescale) → bare (prescaled_of sysclk p) ≡ first_of (prescaled_tests p)
unfolding prescaled_of
prescaled_in_order sysclk p =
    (order_bind {B = ℕ × Clocks} (by_ahb_of H4 sysclk p.hpre) (else_order (by_ahb_else H4 sysclk p.hpre)) (λ ahb e.
    order_map {B = ℕ × Clocks} (λ (k : Clocks). (ahb.hz, k)) (below_of H4 sysclk (over ahb (fpre_divisor p.fpre)) p.ppre1 p.ppre2)
    (else_order (below_else H4 sysclk (over ahb (fpre_divisor p.fpre)) p.ppre1 p.ppre2)))).goes
