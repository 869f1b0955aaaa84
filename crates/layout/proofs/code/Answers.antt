use mathlib.Core.Path.{◌≡◌, sym, ap, ◌∙◌}
use Prim.Native.Nat.{◌+◌, ◌-◌, ◌*◌, ◌/◌, ◌%◌, ◌^◌, ◌≤◌}
use native.Mathlib.Omega.{arith}
use lib.Pow.{pow_mono}
use Rattle.layout.specs.Bits.{bits_at}
use Rattle.layout.proofs.Reading.{bits_lt, bits_of_two, up_to_min}
use Rattle.layout.proofs.code.Goals as goal
use Rattle.layout.proofs.code.Goals.{After-two-2}

-- what the two bytes give
given : (c : goal.After-two-2) →
    let a = c.args in
    ((c.byte.result * 256 + c.byte-2.result) / c.two.result % c.two-2.result
    ≡ bits_at a.s.now a.at c.min-n.result)
given c =
    let a = c.args in
    let n = c.min-n.result in
    let r = 16 - a.at % 8 - n in
    rw (c.two.ensures, c.two-2.ensures)
    (sym (bits_of_two a.s.now a.at _ _ n r c.byte.ensures.0 c.byte-2.ensures.0 c.byte.ensures.1
    c.byte-2.ensures.1 (omega arith)))

pub overflow_cast-result : goal.overflow_cast-result
overflow_cast-result c =
    let a = c.args in
    let n = c.min-n.result in
    let h : n ≤ 8 = omega arith in
    let p : 2 ^ n ≤ 2 ^ 8 = pow_mono {i = n} {j = 8} h in
    omega (arith, given c, bits_lt a.s.now a.at n)

pub returns : goal.returns
returns c =
    let a = c.args in
    given c ∙ ap (bits_at a.s.now a.at) (c.min-n.ensures ∙ up_to_min 8 a.width)
