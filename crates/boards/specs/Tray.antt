-- A tray of boards at once: document 02, K2.
-- Assumes nothing.
use Rattle.std.specs.Prelude.{ℕ, zero, suc, ◌*◌, ◌/◌, ◌%◌, not, Result, List, [], ◌∷◌, ◌++◌, eqb, length, take, drop, replicate}
use Rattle.answer.specs.Answer.{Answer, gives, refuses, refuse, ◌>>◌}
use Rattle.answer.specs.declared.Refusal.{Refusal}
use Rattle.layout.specs.Numbers.{in_fours}
use Rattle.layout.specs.Lent.{written, Wrote}
use Rattle.v4x7.specs.declared.ClockRecord.{ClockRecord}
use Rattle.profile.specs.Profile.{check_profile}

-- "refusal number or 0, then the seven reported frequencies in the program's order .. zeros after a refusal"
abbrev pub numbers_of : Answer ClockRecord → List ℕ
numbers_of (gives x) =
    0 ∷ x.clocks.sysclk ∷ x.clocks.hclk ∷ x.clocks.pclk1 ∷ x.clocks.pclk2 ∷ x.clocks.pclk1_tim ∷ x.clocks.pclk2_tim ∷ x.adc ∷ []
numbers_of (refuses n) = n ∷ replicate 7 0

-- the 32 bytes of a board, a function of its profile alone: ".. all eight as four bytes, most significant byte first"
unfoldable pub board_of : List ℕ → List ℕ
board_of p = in_fours (numbers_of (check_profile p))

-- how many boards there are: one for each whole ten bytes
abbrev pub boards_in : List ℕ → ℕ
boards_in s = length s / 10

-- the 32 bytes of each of n boards, whose profiles lie back to back
unfoldable pub records_of : ℕ → List ℕ → List ℕ
records_of zero s = []
records_of (suc n) s = board_of (take 10 s) ++ records_of n (drop 10 s)

-- the bytes that a tray is written as: "29 if the length is not a multiple of ten"
unfoldable pub tray_of : List ℕ → Answer (List ℕ)
tray_of s = do
  refuse 29 (not (eqb (length s % 10) 0))
  gives (records_of (boards_in s) s)

-- What the lent bytes l are to hold, or why nothing is written: "32 first if the output has fewer than 32 bytes for each whole ten of input", then 29.
-- "Bytes beyond stay."
abbrev pub tray_into : List ℕ → List ℕ → Answer (List ℕ)
tray_into s l = written (32 * boards_in s) (tray_of s) l

-- A tray s written into l: the answer r, and every lent byte.
abbrev pub Trayed : List ℕ → List ℕ → List ℕ → Result (Unit {0}) Refusal → Type 0
Trayed s l l' r = Wrote (32 * boards_in s) (tray_of s) l l' r
