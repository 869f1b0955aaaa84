-- The rules that the V4x7 check and the V4x7 decoder of document 01 share. Each code too wide for its field: 28 before anything else.
-- Assumes nothing.
use Rattle.std.specs.Prelude.{Bool, cond, not, ◌||◌, Option, None, Some, List, [], ◌∷◌, ℕ, ◌+◌, ◌*◌, ltb, leb, eqb, get_or}
use Rattle.answer.specs.Answer.{Answer, gives, refuses, refuse, ◌>>=◌, ◌>>◌}
use Rattle.divider.specs.declared.Family.TheVariants.{V4x7}
use Rattle.divider.specs.Divide.{ahb_of, apb_of}
use Rattle.divider.specs.declared.Frequency.{Frequency}
use Rattle.divider.specs.Frequency.{whole, times, over}
use Rattle.tree.specs.declared.Clocks.{Clocks}
use Rattle.tree.specs.Tree.{clocks_of, product_of}

-- HSE outside 5,000,000..32,000,000: 4
unfoldable pub hse_in_range : ℕ → Answer (Unit {0})
hse_in_range hz = refuse 4 (ltb hz 5000000 || ltb 32000000 hz)

-- HSE needed, no frequency: 3; then its range. The check has asked for the range of an HSE that is there before anything needs it
unfoldable pub used_hse_of : Option ℕ → Answer Frequency
used_hse_of None = refuses 3
used_hse_of (Some hz) = do
  hse_in_range hz
  gives (whole hz)

-- PLL multipliers, doubled, codes 0 to 31: 16 18 20 22, 24 to 40 by ones, 42 44 48 52 56 60 64 68 72 76 80
abbrev pub doubled : List ℕ
doubled =
    16 ∷ 18 ∷ 20 ∷ 22 ∷ 24 ∷ 25 ∷ 26 ∷ 27 ∷ 28 ∷ 29 ∷ 30 ∷ 31 ∷ 32 ∷ 33 ∷ 34 ∷ 35 ∷ 36 ∷ 37 ∷ 38 ∷ 39 ∷ 40 ∷ 42 ∷ 44 ∷ 48
    ∷ 52 ∷ 56 ∷ 60 ∷ 64 ∷ 68 ∷ 72 ∷ 76 ∷ 80 ∷ []

-- the main PLL's input: HSE where the source bit is set, else HSI, 20 MHz
unfoldable pub main_pll_input : Option ℕ → Bool → Answer Frequency
main_pll_input hse source = cond source (used_hse_of hse) (gives (whole 20000000))

-- its output = input x doubled / 2, product first; outside 100..400 MHz: 5
unfoldable pub main_pll_of : Option ℕ → Bool → ℕ → Answer Frequency
main_pll_of hse source mul = do
  refuse 28 (leb 32 mul)
  input ← main_pll_input hse source
  refuse 5 (ltb (product_of input (get_or doubled mul 0)).hz 100000000 || ltb 400000000 (product_of input (get_or doubled mul 0)).hz)
  gives (product_of input (get_or doubled mul 0))

-- ETH PLL needed, HSE not 25 MHz: 6
unfoldable pub eth_pll_of : Option ℕ → Answer (Unit {0})
eth_pll_of hse = do
  input ← used_hse_of hse
  refuse 6 (not (eqb input.hz 25000000))

-- allowed USBHS references: 25, 20, 24, 32 MHz, codes 0, 1, 2, 3; else 8
unfoldable pub reference_code_of : ℕ → Answer ℕ
reference_code_of hz =
    cond (eqb hz 25000000) (gives 0)
    (cond (eqb hz 20000000) (gives 1)
    (cond (eqb hz 24000000) (gives 2)
    (cond (eqb hz 32000000) (gives 3)
    (refuses 8))))

-- PLL sources: USBHS 480 MHz, ETH 500 MHz, two thirds of USBHS, two thirds of ETH, main PLL, not configured 9; 4, 5 or 7: 19
unfoldable pub two_thirds : ℕ → Frequency
two_thirds hz = over (times (whole hz) 2) 3

abbrev pub main_output : Option Frequency → Answer Frequency
main_output None = refuses 9
main_output (Some main) = gives main

unfoldable pub sys_pll_of : ℕ → Option Frequency → Answer Frequency
sys_pll_of source main = do
  refuse 28 (leb 8 source)
  cond (eqb source 0) (gives (whole 480000000))
      (cond (eqb source 1) (gives (whole 500000000))
      (cond (eqb source 2) (gives (two_thirds 480000000))
      (cond (eqb source 3) (gives (two_thirds 500000000))
      (cond (eqb source 6) (main_output main)
      (refuses 19)))))

-- the six clocks; HCLK above 200 MHz: 12
unfoldable pub buses_of : Frequency → ℕ → ℕ → ℕ → Answer Clocks
buses_of sys ahb apb1 apb2 = do
  k ← clocks_of V4x7 sys ahb apb1 apb2
  refuse 12 (ltb 200000000 k.hclk)
  gives k

-- total ADC divisor = (AHB divisor, or USBHS divisor) x APB2 divisor x (2, 4, 6 or 8)
unfoldable pub total_of : ℕ → ℕ → ℕ → Answer ℕ
total_of first ppre2 adcpre = do
  refuse 28 (leb 4 adcpre)
  p ← apb_of ppre2
  gives (first * p * (2 * (adcpre + 1)))

-- what the ADC divides, and by how much: SYSCLK, with the AHB divisor
unfoldable pub adc_from_hclk_of : ℕ → ℕ → ℕ → ℕ → Answer (ℕ × ℕ)
adc_from_hclk_of sys hpre ppre2 adcpre = do
  a ← ahb_of V4x7 hpre
  total ← total_of a ppre2 adcpre
  gives (sys, total)

-- or 480 MHz, with the USBHS divisor; that outside 1..32: 14
unfoldable pub adc_from_usb_hs_of : ℕ → ℕ → ℕ → Answer (ℕ × ℕ)
adc_from_usb_hs_of d ppre2 adcpre = do
  total ← total_of d ppre2 adcpre
  refuse 14 (ltb d 1 || ltb 32 d)
  gives (480000000, total)
