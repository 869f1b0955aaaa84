use mathlib.Core.Path.{◌≡◌, refl, ap, ap₂, ◌∙◌}
use mathlib.Core.List.{List}
use Prim.Native.Nat.{ℕ, ◌+◌, ◌-◌, ◌*◌, ◌/◌, ◌%◌, ◌^◌, ◌≤◌, ◌<◌}
use native.Mathlib.Omega.{arith}
use lib.ListN.{get_or}
use lib.Pow.{pow_mono, shl_lt}
use Rattle.layout.specs.Bits.{bits_at}
use Rattle.layout.proofs.Reading.{bits_lt, bits_on, first_bits, up_to_all, up_to_min}
use Rattle.layout.proofs.bits.Goals as goal
use Rattle.layout.proofs.bits.Goals.{After-byte, After-first_bits}

-- m bits and room for k more: no more than 64 in all
room : (s : List ℕ) (at m k v : ℕ) → v ≡ bits_at s at m → m + k ≤ 64 → v * 2 ^ k < 2 ^ 64
room s at m k v e l =
    let p : 2 ^ (m + k) ≤ 2 ^ 64 = pow_mono {i = m + k} {j = 64} l in
    let h : v < 2 ^ m = rw e (bits_lt s at m) in
    omega (arith, shl_lt m k h)

-- a byte more
next : (s : List ℕ) (at i v b : ℕ) → 1 ≤ i → v ≡ bits_at s at (8 * i - at % 8) → b ≡ get_or s (at / 8 + i) 0 → b < 256
    → v * 256 + b ≡ bits_at s at (8 * (i + 1) - at % 8)
next s at i v b l e f h =
    let o : b ≡ bits_at s (8 * (at / 8 + i)) 8 = omega (arith, first_bits s (at / 8 + i) b 8 0 f h refl) in
    ap₂ (λ (x y : ℕ). x * 256 + y) e o ∙ bits_on s at (8 * i - at % 8) 8 (at / 8 + i) (omega arith) ∙ ap (bits_at s at) (omega arith)

-- v and the next byte
longer : (c : goal.After-byte) →
    let l = c.loop-i in
    let a = c.args in
    (l.v * 256 + c.byte.result ≡ bits_at a.s.now a.at (8 * (l.i + 1) - a.at % 8))
longer c =
    let l = c.loop-i in
    let a = c.args in
    next a.s.now a.at l.i l.v _ (omega arith) l.invariant c.byte.ensures.0 c.byte.ensures.1

-- v and the leftover bits
complete : (c : goal.After-first_bits) →
    let a = c.args in
    (c.loop-i.v * c.two.result + c.first_bits.result
    ≡ bits_at a.s.now a.at c.min-n.result)
complete c =
    let l = c.loop-i in
    let a = c.args in
    let n = c.min-n.result in
    let k = (a.at % 8 + n) % 8 in
    rw c.two.ensures
    (ap₂ (λ (x y : ℕ). x * 2 ^ k + y) l.invariant c.first_bits.ensures
    ∙ bits_on a.s.now a.at (8 * l.i - a.at % 8) k (a.at / 8 + (a.at % 8 + n) / 8) (omega arith)
    ∙ ap (bits_at a.s.now a.at) (omega arith))

pub returns-then-n-le8 : goal.returns-then-n-le8
returns-then-n-le8 c =
    let n = c.min-n.result in
    let a = c.args in
    let h : n ≤ 8 = c.if-n-le8.true in
    c.from.ensures ∙ c.code.ensures ∙ ap (bits_at a.s.now a.at) (up_to_all 8 n h ∙ c.min-n.ensures ∙ up_to_min 64 a.count)

pub overflow_mul-v : goal.overflow_mul-v
overflow_mul-v c =
    let l = c.loop-i in
    let a = c.args in
    omega (arith, room a.s.now a.at (8 * l.i - a.at % 8) 8 l.v l.invariant (omega arith))

pub overflow_add-v : goal.overflow_add-v
overflow_add-v c =
    let l = c.loop-i in
    let a = c.args in
    omega (arith, room a.s.now a.at (8 * (l.i + 1) - a.at % 8) 0 _ (longer c) (omega arith))

pub loop-i-preserved : goal.loop-i-preserved
loop-i-preserved c = longer c

pub overflow_mul-result : goal.overflow_mul-result
overflow_mul-result c =
    let l = c.loop-i in
    let a = c.args in
    let n = c.min-n.result in
    let k = (a.at % 8 + n) % 8 in
    rw c.two.ensures (omega (arith, room a.s.now a.at (8 * l.i - a.at % 8) k l.v l.invariant (omega arith)))

pub overflow_add-result : goal.overflow_add-result
overflow_add-result c =
    let a = c.args in
    omega (arith, room a.s.now a.at _ 0 _ (complete c) (omega arith))

pub returns : goal.returns
returns c =
    let a = c.args in
    complete c ∙ ap (bits_at a.s.now a.at) (c.min-n.ensures ∙ up_to_min 64 a.count)
