use mathlib.Core.List.{List}
use Prim.Native.Nat.{ℕ, ◌≤◌}
use lib.ListN.{length, take}
use Rattle.layout.specs.Layout.{total, pack}
use Rattle.layout.specs.declared.Pending.{Pending}
use Rattle.layout.specs.Gathered.{Gathered}
use Rattle.layout.proofs.store.Given as goal

pub record Storing (ws xs was out : List ℕ) (p : Pending) (i : ℕ) : Type 0 where
  pub within : i ≤ length ws
  pub gathered : Gathered was (total (take i ws)) (pack (take i ws) (take i xs)) out p

abbrev pub invariant-loop-i : goal.invariant-loop-i
invariant-loop-i l = Storing l.ws l.xs l.initial.out l.out l.p l.i
