-- The order of refusals of the calls of CH32H4 through lent words: 32, then 28 for each code.
-- Assumes nothing.
use Rattle.std.specs.Prelude.{◌≡◌, List, ◌∷◌, ℕ, ltb, length}
use Rattle.answer.specs.Order.{first_of, bare, InOrder, order_past}
use Rattle.answer.specs.Lists.{order_map}
use Rattle.divider.specs.Frequency.{whole}
use Rattle.layout.specs.Lent.{written}
use Rattle.capi_give.specs.Given.{two_words, seven_words}
use Rattle.h4.specs.declared.Prescale.{Prescale}
use Rattle.h4.specs.H4.{pclk_of, prescaled_of}
use Rattle.h4.specs.Order.{pclk_tests, pclk_in_order, prescaled_tests, prescaled_in_order}
use Rattle.capi_h4.specs.Calls.{bus_words_of, clocks_ahb_of}

abbrev codes : ℕ → ℕ → ℕ → ℕ → Prescale
codes hpre fpre ppre1 ppre2 = record { hpre = hpre; fpre = fpre; ppre1 = ppre1; ppre2 = ppre2 }

pub clocks_call_in_order : (sysclk hpre fpre ppre1 ppre2 : ℕ) (out : List ℕ) →
    bare (written 7 (seven_words (clocks_ahb_of sysclk hpre fpre ppre1 ppre2)) out) ≡ first_of ((32, ltb (length out) 7) ∷ prescaled_tests (codes hpre fpre ppre1 ppre2))
unfolding clocks_ahb_of
clocks_call_in_order sysclk hpre fpre ppre1 ppre2 out =
    let own : InOrder (prescaled_tests (codes hpre fpre ppre1 ppre2)) (prescaled_of (whole sysclk) (codes hpre fpre ppre1 ppre2)) =
    record { goes = prescaled_in_order (whole sysclk) (codes hpre fpre ppre1 ppre2) } in
    (order_past 32 (ltb (length out) 7) (λ e.
    order_map _ (seven_words (clocks_ahb_of sysclk hpre fpre ppre1 ppre2))
    (order_map _ (clocks_ahb_of sysclk hpre fpre ppre1 ppre2)
    (order_map _ (prescaled_of (whole sysclk) (codes hpre fpre ppre1 ppre2))
    own)))).goes

pub pclk_call_in_order : (hclk ppre : ℕ) (out : List ℕ) → bare (written 2 (two_words (bus_words_of hclk ppre)) out) ≡ first_of ((32, ltb (length out) 2) ∷ pclk_tests ppre)
unfolding bus_words_of
pclk_call_in_order hclk ppre out =
    let own : InOrder (pclk_tests ppre) (pclk_of (whole hclk) ppre) = record { goes = pclk_in_order (whole hclk) ppre } in
    (order_past 32 (ltb (length out) 2) (λ e.
    order_map _ (two_words (bus_words_of hclk ppre))
    (order_map _ (bus_words_of hclk ppre) (order_map _ (pclk_of (whole hclk) ppre) own)))).goes
