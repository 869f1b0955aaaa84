use mathlib.Core.Path.{◌≡◌}
use Prim.Native.Nat.{ℕ, ◌+◌, ◌*◌, ◌^◌}
use native.Mathlib.Omega.{arith}
use Rattle.layout.proofs.Gathering.{kept, is_byte, byte_put}
use Rattle.layout.proofs.gather.Goals as goal

-- the pending bits and the field, as one number
gathered : (v p b w x : ℕ) → p ≡ 2 ^ w → b ≡ x → v * p + b ≡ v * 2 ^ w + x
gathered v p b w x e f = rw (e, f)

pub returns-then-count-lt8 : goal.returns-then-count-lt8
returns-then-count-lt8 c =
    let two = c.two in
    kept c.args.out.now c.args.p c.args.w c.args.x _ c.requires
    (gathered c.args.p.value _ _ c.args.w c.args.x two.ensures c.from.ensures) c.if-count-lt8.true

pub overflow_cast-out : goal.overflow_cast-out
overflow_cast-out c =
    let two = c.two in
    omega (
      arith,
      is_byte c.args.out.now c.args.p c.args.w c.args.x _ c.requires
          (gathered c.args.p.value _ _ c.args.w c.args.x two.ensures c.from.ensures)
          _ c.if-count-lt8.false c.two-low.ensures,
    )

pub returns : goal.returns
returns c =
    let two = c.two in
    byte_put c.args.out.now c.args.p c.args.w c.args.x _ c.requires
    (gathered c.args.p.value _ _ c.args.w c.args.x two.ensures c.from.ensures)
    _ c.if-count-lt8.false c.two-low.ensures
