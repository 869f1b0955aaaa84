-- CH32H4, document 01, "Modules, leaves first" and document 003: the clocks by their codes, and the doubled multipliers.
-- Assumes nothing.
use Rattle.std.specs.Prelude.{List, [], ◌∷◌, ℕ, leb, get_or}
use Rattle.answer.specs.Answer.{Answer, gives, refuse, ◌>>=◌, ◌>>◌}
use Rattle.divider.specs.declared.Family.TheVariants.{H4}
use Rattle.divider.specs.Divide.{fpre_divisor, by_ahb_of, by_apb_of}
use Rattle.divider.specs.declared.Frequency.{Frequency}
use Rattle.divider.specs.Frequency.{over}
use Rattle.tree.specs.declared.Clocks.{Clocks}
use Rattle.tree.specs.Tree.{below_of}
use Rattle.h4.specs.declared.Prescale.{Prescale}

-- a bus: PCLK, and its timers' clock, for H4 always PCLK
unfoldable pub pclk_of : Frequency → ℕ → Answer (Frequency × ℕ)
pclk_of hclk c = do
  pclk ← by_apb_of hclk c
  gives (pclk, pclk.hz)

-- doubled multipliers, by position in 003's list
abbrev pub doubles : List ℕ
doubles =
    8 ∷ 12 ∷ 14 ∷ 16 ∷ 17 ∷ 18 ∷ 19 ∷ 20 ∷ 21 ∷ 22 ∷ 23 ∷ 24 ∷ 25 ∷ 26 ∷ 28 ∷ 30
    ∷ 32 ∷ 34 ∷ 36 ∷ 38 ∷ 40 ∷ 44 ∷ 48 ∷ 52 ∷ 56 ∷ 60 ∷ 64 ∷ 68 ∷ 72 ∷ 76 ∷ 80 ∷ 118 ∷ []

-- 0 to 31, else 28
unfoldable pub doubled_of : ℕ → Answer ℕ
doubled_of c = do
  refuse 28 (leb 32 c)
  gives (get_or doubles c 0)

-- SYSCLK by HPRE is AHB, by FPRE HCLK, by PPRE the two buses; 28 for codes too wide, which FPRE can't be
unfoldable pub prescaled_of : Frequency → Prescale → Answer (ℕ × Clocks)
prescaled_of sys p = do
  ahb ← by_ahb_of H4 sys p.hpre
  clocks ← below_of H4 sys (over ahb (fpre_divisor p.fpre)) p.ppre1 p.ppre2
  gives (ahb.hz, clocks)
