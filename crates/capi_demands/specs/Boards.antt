-- A board's record in a tray is what the call for its profile alone gives: the number that `wontabeli_check` returns, with seven zeros lent, and what these
-- are then.
-- Assumes nothing.
use Rattle.std.specs.Prelude.{ℕ, ◌≡◌, List, ◌∷◌, replicate}
use Rattle.answer.specs.Answer.{Answer, gives, refuses}
use Rattle.v4x7.specs.declared.ClockRecord.{ClockRecord}
use Rattle.profile.specs.Profile.{check_profile}
use Rattle.layout.specs.Numbers.{in_fours}
use Rattle.boards.specs.Tray.{numbers_of, board_of}
use Rattle.capi_give.specs.Given.{Given, seven_words}
use Rattle.capi.specs.Calls.{seven_of}

pub as_alone : (p words : List ℕ) (number : ℕ) → Given 7 (seven_words (seven_of (check_profile p))) (replicate 7 0) words number →
    board_of p ≡ in_fours (number ∷ words)
unfolding board_of
as_alone p words number g = of_check (check_profile p) g
  where
    of_check : (m : Answer ClockRecord) → Given 7 (seven_words (seven_of m)) (replicate 7 0) words number → in_fours (numbers_of m) ≡ in_fours (number ∷ words)
    of_check (gives x) g = rw (g.number, g.lent)
    of_check (refuses n) g = rw (g.number, g.lent)
