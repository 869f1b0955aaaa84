-- The order of the rules' refusals: a flat list for each rule, and that the rule refuses by the first of its list, or else gives its plain number.
-- The theorems stand in proofs/Order.antt. Assumes nothing.
use Rattle.std.specs.Prelude.{Bool, not, ◌&&◌, ◌||◌, Option, List, [], ◌∷◌, ℕ, ◌+◌, ◌*◌, ◌/◌, ltb, leb, eqb}
use Rattle.answer.specs.Order.{Test}
use Rattle.divider.specs.declared.Family.TheVariants.{V4x7}
use Rattle.divider.specs.declared.Frequency.{Frequency}
use Rattle.divider.specs.Divide.{ahb_divisor, apb_divisor}
use Rattle.tree.specs.Order.{no_hse, hse_hz, no_output}
use Rattle.v4x7_rules.specs.Plain.{outside, main_pll_hz}

-- HSE needed: 3, then 4
abbrev pub used_hse_tests : Option ℕ → List Test
used_hse_tests h = (3, no_hse h) ∷ (4, outside 5000000 32000000 (hse_hz h)) ∷ []

-- the main PLL: 28; 3, 4 where its source is HSE; 5
abbrev pub main_pll_tests : Option ℕ → Bool → ℕ → List Test
main_pll_tests h source mul =
    (28, leb 32 mul)
    ∷ (3, source && no_hse h)
    ∷ (4, source && outside 5000000 32000000 (hse_hz h))
    ∷ (5, outside 100000000 400000000 (main_pll_hz h source mul))
    ∷ []

-- the ETH PLL: 3, 4, 6
abbrev pub eth_pll_tests : Option ℕ → List Test
eth_pll_tests h = (3, no_hse h) ∷ (4, outside 5000000 32000000 (hse_hz h)) ∷ (6, not (eqb (hse_hz h) 25000000)) ∷ []

-- SYSPLL's input: 28; 9 where its source is the main PLL and there is none; 19
abbrev pub sys_pll_tests : ℕ → Option Frequency → List Test
sys_pll_tests source main =
    (28, leb 8 source)
    ∷ (9, eqb source 6 && no_output main)
    ∷ (19, eqb source 4 || eqb source 5 || eqb source 7)
    ∷ []

-- the six clocks: 28 for each code, then 12
abbrev pub buses_tests : Frequency → ℕ → ℕ → ℕ → List Test
buses_tests sys ahb apb1 apb2 =
    (28, leb 16 ahb)
    ∷ (28, leb 8 apb1)
    ∷ (28, leb 8 apb2)
    ∷ (12, ltb 200000000 (sys.hz / ahb_divisor V4x7 ahb))
    ∷ []

-- the ADC's whole divisor
abbrev pub total_divisor : ℕ → ℕ → ℕ → ℕ
total_divisor first ppre2 adcpre = first * apb_divisor ppre2 * (2 * (adcpre + 1))

-- the ADC on the USBHS PLL: 28 for each code, then 14
abbrev pub adc_from_usb_hs_tests : ℕ → ℕ → ℕ → List Test
adc_from_usb_hs_tests d ppre2 adcpre = (28, leb 4 adcpre) ∷ (28, leb 8 ppre2) ∷ (14, outside 1 32 d) ∷ []
