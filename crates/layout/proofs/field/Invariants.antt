use mathlib.Core.Path.{◌≡◌}
use Prim.Native.Nat.{◌*◌, ◌≤◌}
use lib.ListN.{take}
use Rattle.layout.specs.Layout.{total}
use Rattle.layout.specs.Bits.{narrowed}
use Rattle.layout.proofs.field.Given as goal

abbrev pub invariant-loop-w : goal.invariant-loop-w
invariant-loop-w l = (l.at ≡ total (narrowed (take l.w-index l.ws))) × (l.at ≤ 8 * l.w-index)
