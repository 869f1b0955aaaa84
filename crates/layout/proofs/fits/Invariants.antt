use mathlib.Core.Path.{◌≡◌}
use mathlib.Core.List.{List}
use Prim.Native.Nat.{ℕ, ◌+◌, ◌*◌, ◌≤◌, ◌<◌}
use lib.ListN.{length, drop, take}
use Rattle.layout.specs.Layout.{total, fields_fit}
use Rattle.layout.proofs.fits.Given as goal

pub record Passed (ws xs : List ℕ) (size count i : ℕ) : Type 0 where
  pub within : i ≤ length ws
  pub same : fields_fit ws xs ≡ fields_fit (drop i ws) (drop i xs)
  pub bits : 8 * size + count ≡ total (take i ws)
  pub few : count < 8
  pub near : size ≤ i

abbrev pub invariant-loop-i : goal.invariant-loop-i
invariant-loop-i l = Passed l.ws l.xs l.size l.count l.i
