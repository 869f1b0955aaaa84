use mathlib.Core.Path.{◌≡◌}
use Prim.Native.Nat.{◌-◌, ◌*◌, ◌%◌}
use Rattle.layout.specs.Bits.{bits_at}
use Rattle.layout.proofs.bits.Given as goal

abbrev pub invariant-loop-i : goal.invariant-loop-i
invariant-loop-i l = l.v ≡ bits_at l.s l.at (8 * l.i - l.at % 8)
