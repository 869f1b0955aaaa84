use mathlib.Core.Path.{◌≡◌}
use mathlib.Core.List.{List, ◌++◌}
use Prim.Native.Nat.{ℕ, suc, ◌^◌, ◌<◌}
use lib.ListN.{length, drop}
use Rattle.text.specs.Decimal.{decimal}
use Rattle.text.proofs.spell.Given as goal

-- the number n is spelt from behind the place `first` on, but for the digits of the rest
pub record Spelling (n : ℕ) (ten : List ℕ) (first rest : ℕ) : Type 0 where
  pub long : length ten ≡ 10
  pub within : first < 10
  pub room : rest < 10 ^ suc first
  pub spelt : decimal n ≡ decimal rest ++ drop (suc first) ten

abbrev pub invariant-loop-rest : goal.invariant-loop-rest
invariant-loop-rest l = Spelling l.n l.ten l.first l.rest

abbrev pub decreases-loop-rest : goal.decreases-loop-rest
decreases-loop-rest l = l.rest
