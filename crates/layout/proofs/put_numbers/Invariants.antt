use mathlib.Core.Path.{◌≡◌}
use Prim.Native.Nat.{◌+◌, ◌*◌, ◌≤◌}
use lib.ListN.{length, drop}
use lib.Seq.{sets}
use Rattle.layout.specs.Numbers.{in_fours}
use Rattle.layout.proofs.put_numbers.Given as goal

abbrev pub invariant-loop-i : goal.invariant-loop-i
invariant-loop-i l =
    (length l.out ≡ length l.initial.out) × (l.at + 4 * length l.xs ≤ length l.initial.out)
    × (sets l.out (l.at + 4 * l.i) (in_fours (drop l.i l.xs)) ≡ sets l.initial.out l.at (in_fours l.xs))
