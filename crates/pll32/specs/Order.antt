-- The order of refusals that V1, L1 and V30x share: document 01, "V1 and V30x", each part as a flat list of tests over what it takes.
-- The theorems stand in proofs/Order.antt. Assumes nothing.
use Rattle.std.specs.Prelude.{Bool, true, false, cond, ◌&&◌, Option, List, [], ◌∷◌, ℕ, ◌+◌, ◌*◌, ◌/◌, eqb, leb, ltb}
use Rattle.answer.specs.Order.{Test}
use Rattle.divider.specs.declared.Frequency.{Frequency}
use Rattle.tree.specs.Order.{no_hse, hse_hz, no_output}
use Rattle.pll32.specs.declared.Part.{Part}
use Rattle.pll32.specs.declared.Source.{Source}
use Rattle.pll32.specs.declared.Source.TheVariants as source
use Rattle.pll32.specs.declared.Setting.{Setting}
use Rattle.pll32.specs.Pll.{factor}

abbrev pub from_hse : Source → Bool
from_hse source.Hsi = false
from_hse source.Hse = true

-- what feeds a PLL: HSE, or HSI 8 MHz
abbrev pub source_hz : Source → Option ℕ → ℕ
source_hz s h = cond (from_hse s) (hse_hz h) 8000000

-- the PLL's product: what feeds it, after the predivider, by the multiplier (13 where it is 6.5)
abbrev pub product_hz : Part → Option ℕ → Setting → ℕ
product_hz part h s = source_hz s.source h / (s.prediv + 1) * factor part s.mul

-- over 32 bits
abbrev pub over32 : ℕ → Bool
over32 = ltb 4294967295

-- The frequency of a source: 3.

abbrev pub source_tests : Source → Option ℕ → List Test
source_tests s h = (3, from_hse s && no_hse h) ∷ []

-- A PLL's output: 28, 3, 24.

abbrev pub pll_tests : Part → Option ℕ → Setting → List Test
pll_tests part h s = (3, from_hse s.source && no_hse h) ∷ (24, over32 (product_hz part h s)) ∷ []

abbrev pub pll_output_tests : Part → Option ℕ → Setting → List Test
pll_output_tests part h s = (28, leb 16 s.prediv) ∷ (28, leb 16 s.mul) ∷ pll_tests part h s

-- The codes of SYSCLK, AHB, APB1 and APB2: 28.

abbrev pub codes_tests : ℕ → ℕ → ℕ → ℕ → List Test → List Test
codes_tests sys ahb apb1 apb2 l = (28, leb 4 sys) ∷ (28, leb 16 ahb) ∷ (28, leb 8 apb1) ∷ (28, leb 8 apb2) ∷ l

-- The end of a check: 28; 20, 3, 26.

abbrev pub sysclk_tests : Option ℕ → Bool → ℕ → List Test
sysclk_tests h absent sys = (20, eqb sys 3) ∷ (3, eqb sys 1 && no_hse h) ∷ (26, eqb sys 2 && absent) ∷ []

abbrev pub configured_tests : Option ℕ → Option Frequency → ℕ → ℕ → ℕ → ℕ → List Test
configured_tests h out sys ahb apb1 apb2 = codes_tests sys ahb apb1 apb2 (sysclk_tests h (no_output out) sys)

-- The end of a decoder: 28; 3, 24 where the clock in use needs it.

abbrev pub in_use_tests : Part → Option ℕ → Setting → ℕ → List Test
in_use_tests part h s sws =
    (3, eqb sws 1 && no_hse h)
    ∷ (3, eqb sws 2 && (from_hse s.source && no_hse h))
    ∷ (24, eqb sws 2 && over32 (product_hz part h s))
    ∷ []

abbrev pub decoded_tests : Part → Option ℕ → Setting → ℕ → ℕ → ℕ → ℕ → List Test
decoded_tests part h s sws hpre ppre1 ppre2 =
    (28, leb 16 s.prediv) ∷ (28, leb 16 s.mul) ∷ codes_tests sws hpre ppre1 ppre2 (in_use_tests part h s sws)
