-- The dividers of document 01, "Modules, leaves first", and of document 02, K4: AHB, APB and FPRE divisors by their codes, and frequencies divided by them.
-- Assumes nothing.
use Rattle.std.specs.Prelude.{List, [], ◌∷◌, ℕ, ◌%◌, leb, get_or}
use Rattle.answer.specs.Answer.{Answer, gives, refuse, ◌>>=◌, ◌>>◌}
use Rattle.divider.specs.declared.Family.{Family}
use Rattle.divider.specs.declared.Family.TheVariants.{V4x7, V1, V30x, H4}
use Rattle.divider.specs.declared.Frequency.{Frequency}
use Rattle.divider.specs.Frequency.{over}

-- AHB divisors: codes 0 to 7 give 1; 8 to 15 give 2, 4, 8, 16, 64, 128, 256, 512
abbrev skipping32 : List ℕ
skipping32 = 1 ∷ 1 ∷ 1 ∷ 1 ∷ 1 ∷ 1 ∷ 1 ∷ 1 ∷ 2 ∷ 4 ∷ 8 ∷ 16 ∷ 64 ∷ 128 ∷ 256 ∷ 512 ∷ []

-- by document 01, but for codes 12 to 15 of V1, whose row is L1's too, and of V30x: these by document 02, K4
unfoldable pub ahb_divisors : Family → List ℕ
ahb_divisors V4x7 = skipping32
ahb_divisors V1 = skipping32
ahb_divisors V30x = skipping32
ahb_divisors H4 = skipping32

unfoldable pub ahb_divisor : Family → ℕ → ℕ
ahb_divisor f c = get_or (ahb_divisors f) c 0

-- APB, all families: 0 to 3 give 1; 4 to 7 give 2, 4, 8, 16
unfoldable pub apb_divisor : ℕ → ℕ
apb_divisor c = get_or (1 ∷ 1 ∷ 1 ∷ 1 ∷ 2 ∷ 4 ∷ 8 ∷ 16 ∷ []) c 0

-- H4 FPRE, low two bits only: 1, 2, 4, 4
unfoldable pub fpre_divisor : ℕ → ℕ
fpre_divisor c = get_or (1 ∷ 2 ∷ 4 ∷ 4 ∷ []) (c % 4) 0

-- a code too wide for its field: 28. FPRE can't be
unfoldable pub ahb_of : Family → ℕ → Answer ℕ
ahb_of f c = do
  refuse 28 (leb 16 c)
  gives (ahb_divisor f c)

unfoldable pub apb_of : ℕ → Answer ℕ
apb_of c = do
  refuse 28 (leb 8 c)
  gives (apb_divisor c)

-- a frequency divided by the divisor of a code
unfoldable pub by_ahb_of : Family → Frequency → ℕ → Answer Frequency
by_ahb_of f x c = do
  d ← ahb_of f c
  gives (over x d)

unfoldable pub by_apb_of : Frequency → ℕ → Answer Frequency
by_apb_of x c = do
  d ← apb_of c
  gives (over x d)

-- and with it that divisor
unfoldable pub apb_quotient_of : Frequency → ℕ → Answer (ℕ × Frequency)
apb_quotient_of x c = do
  d ← apb_of c
  gives (d, over x d)

-- the row of a family in the table of shifts
abbrev pub row_of : Family → ℕ
row_of V4x7 = 0
row_of V1 = 1
row_of V30x = 2
row_of H4 = 3
