use Prim.Native.Nat.{◌-◌}
use native.Mathlib.Omega.{arith}
use Rattle.layout.proofs.Reading.{first_bits}
use Rattle.layout.proofs.first_bits.Goals as goal

pub returns : goal.returns
returns c =
    let a = c.args in
    rw c.two.ensures
    (first_bits a.s.now a.j _ a.k (8 - a.k) c.byte.ensures.0 c.byte.ensures.1 (omega arith))
