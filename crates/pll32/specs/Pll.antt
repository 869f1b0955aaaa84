-- What CH32V1, CH32L1 and CH32V30x share of document 01, "V1 and V30x": the PLL's product, the system clock, the USB divisor.
-- Assumes nothing.
use Rattle.std.specs.Prelude.{Bool, true, false, cond, ◌||◌, Option, None, Some, ℕ, ◌+◌, ◌*◌, eqb, leb, ltb}
use Rattle.answer.specs.Answer.{Answer, gives, refuses, refuse, ◌>>=◌, ◌>>◌}
use Rattle.divider.specs.declared.Frequency.{Frequency}
use Rattle.divider.specs.Frequency.{whole, times, over}
use Rattle.divider.specs.declared.Family.{Family}
use Rattle.divider.specs.declared.Family.TheVariants as family
use Rattle.tree.specs.declared.Clocks.{Clocks}
use Rattle.tree.specs.Tree.{clocks_of}
use Rattle.pll32.specs.declared.Part.{Part}
use Rattle.pll32.specs.declared.Part.TheVariants.{V1, L1, V30x}
use Rattle.pll32.specs.declared.Source.{Source}
use Rattle.pll32.specs.declared.Source.TheVariants as source
use Rattle.pll32.specs.declared.Setting.{Setting}
use Rattle.pll32.specs.declared.ClockRecord.{ClockRecord}

-- the row of a part in the table of factors
abbrev pub row_of : Part → ℕ
row_of V1 = 0
row_of L1 = 1
row_of V30x = 2

-- the AHB divisors of L1 are V1's
abbrev pub family_of : Part → Family
family_of V1 = family.V1
family_of L1 = family.V1
family_of V30x = family.V30x

-- a code too wide for its field: system clock, AHB, APB1, APB2
abbrev pub too_wide : ℕ → ℕ → ℕ → ℕ → Bool
too_wide sys ahb apb1 apb2 = leb 4 sys || leb 16 ahb || leb 8 apb1 || leb 8 apb2

-- and of a PLL: its predivider, its multiplier
abbrev pub wide_setting : ℕ → ℕ → Bool
wide_setting prediv mul = leb 16 prediv || leb 16 mul

-- HSI 8 MHz
abbrev pub hsi_of : Answer Frequency
hsi_of = gives (whole 8000000)

-- HSE needed, no frequency (3); it is not range-checked
abbrev pub needed_hse_of : Option ℕ → Answer Frequency
needed_hse_of None = refuses 3
needed_hse_of (Some hz) = gives (whole hz)

-- what feeds a PLL: HSI, or HSE (3)
abbrev pub source_frequency_of : Source → Option ℕ → Answer Frequency
source_frequency_of source.Hsi hse = hsi_of
source_frequency_of source.Hse hse = needed_hse_of hse

-- the source that a PLLSRC bit names
abbrev pub source_of : Bool → Source
source_of true = source.Hse
source_of false = source.Hsi

-- The fields: HSE by a predivider whose code is handed in; HSI by 1 where its bit is set, by 2 where it is clear
abbrev pub prediv_code_in : Bool → ℕ → Bool → ℕ
prediv_code_in pllsrc code hsipre = cond pllsrc code (cond hsipre 0 1)

unfoldable pub setting_in : Bool → ℕ → Bool → ℕ → Setting
setting_in pllsrc code hsipre mul = record { source = source_of pllsrc; prediv = prediv_code_in pllsrc code hsipre; mul = mul }

-- Multipliers by PLLMUL code. V1: 2..16 for codes 0..14, 15 gives 16; L1 the same but 15 gives 18; V30x: 0 gives 18, 1..12 give 3..14, 13
-- gives 6.5, here 13, 14 gives 15, 15 gives 16
unfoldable pub factor : Part → ℕ → ℕ
factor V1 c = cond (leb c 14) (c + 2) 16
factor L1 c = cond (leb c 14) (c + 2) 18
factor V30x c = cond (eqb c 0) 18 (cond (leb c 12) (c + 2) (cond (eqb c 13) 13 (c + 1)))

-- V30x, code 13: the product by 13 must fit, then halve
abbrev pub halves : Part → ℕ → Bool
halves V1 c = false
halves L1 c = false
halves V30x c = eqb c 13

-- the product that passes 32 bits is 24
unfoldable pub multiplied_of : Part → Frequency → ℕ → Answer Frequency
multiplied_of part input c = do
  refuse 24 (ltb 4294967295 (input.hz * factor part c))
  gives (cond (halves part c) (over (times input (factor part c)) 2) (times input (factor part c)))

-- PLL from HSI or HSE after the predivider, code + 1: 28, 3, 24
unfoldable pub pll_output_of : Part → Option ℕ → Setting → Answer Frequency
pll_output_of part hse s = do
  refuse 28 (wide_setting s.prediv s.mul)
  x ← source_frequency_of s.source hse
  multiplied_of part (over x (s.prediv + 1)) s.mul

-- the clock of a system clock code: 1 HSE, 2 the PLL, else HSI
abbrev pub chosen : ℕ → Answer Frequency → Answer Frequency → Answer Frequency
chosen sys hse pll = cond (eqb sys 1) hse (cond (eqb sys 2) pll hsi_of)

-- system clock PLL, none configured: 26
abbrev pub pll_as_sysclk_of : Option Frequency → Answer Frequency
pll_as_sysclk_of None = refuses 26
pll_as_sysclk_of (Some x) = gives x

-- SYSCLK in the check: 20, 3, 26
unfoldable pub sysclk_of : Option ℕ → Option Frequency → ℕ → Answer Frequency
sysclk_of hse out sys = do
  refuse 20 (eqb sys 3)
  chosen sys (needed_hse_of hse) (pll_as_sysclk_of out)

-- the USB divisor of the PLL output, for 48 MHz, doubled: V1 48 by 1, 72 by 1.5; L1 also 96 by 2; V30x 48, 96, 144 by 1, 2, 3;
-- otherwise none
unfoldable pub usb_divisor : Part → ℕ → ℕ
usb_divisor V1 hz = cond (eqb hz 48000000) 2 (cond (eqb hz 72000000) 3 0)
usb_divisor L1 hz = cond (eqb hz 48000000) 2 (cond (eqb hz 72000000) 3 (cond (eqb hz 96000000) 4 0))
usb_divisor V30x hz = cond (eqb hz 48000000) 2 (cond (eqb hz 96000000) 4 (cond (eqb hz 144000000) 6 0))

abbrev pub usb_of : Part → Option Frequency → ℕ
usb_of part None = 0
usb_of part (Some x) = usb_divisor part x.hz

-- the end of the check
unfoldable pub configured_clocks_of : Part → Option ℕ → Option Frequency → ℕ → ℕ → ℕ → ℕ → Answer ClockRecord
configured_clocks_of part hse out sys ahb apb1 apb2 = do
  refuse 28 (too_wide sys ahb apb1 apb2)
  x ← sysclk_of hse out sys
  clocks ← clocks_of (family_of part) x ahb apb1 apb2
  gives (record { clocks = clocks; usb = usb_of part out })

-- SYSCLK in the decoder: refused only where the clock in use needs it; code 3 is read as HSI
unfoldable pub decoded_sysclk_of : Part → Option ℕ → Setting → ℕ → Answer Frequency
decoded_sysclk_of part hse s sws = chosen sws (needed_hse_of hse) (pll_output_of part hse s)

-- the end of the decoder
unfoldable pub decoded_clocks_of : Part → Option ℕ → Setting → ℕ → ℕ → ℕ → ℕ → Answer Clocks
decoded_clocks_of part hse s sws hpre ppre1 ppre2 = do
  refuse 28 (wide_setting s.prediv s.mul || too_wide sws hpre ppre1 ppre2)
  x ← decoded_sysclk_of part hse s sws
  clocks_of (family_of part) x hpre ppre1 ppre2
