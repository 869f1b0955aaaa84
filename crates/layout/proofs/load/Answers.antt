use mathlib.Core.Path.{◌≡◌, ap, ◌∙◌}
use Prim.Native.Nat.{ℕ, ◌≤◌, ◌<◌, min}
use native.Mathlib.Omega.{arith}
use lib.ListN.{length, get_or}
use Rattle.layout.specs.Bits.{bits_at, up_to, loading}
use Rattle.layout.proofs.Loading.{next_loaded, all_loaded}
use Rattle.layout.proofs.Reading.{up_to_min}
use Rattle.layout.proofs.load.Goals as goal

pub loop-i-preserved : goal.loop-i-preserved
loop-i-preserved c =
    let a = c.args in
    let l = c.loop-i in
    let k : l.i < length a.ws.now = omega arith in
    let o : l.i < length l.out = omega (arith, l.invariant.long) in
    let w = get_or a.ws.now l.i 0 in
    let m : c.min-at.result ≡ up_to 8 w = c.min-at.ensures ∙ ap (λ (x : ℕ). min x 8) c.from-w.ensures ∙ up_to_min 8 w in
    let u : c.min-at.result ≤ 8 = omega arith in
    rw m
    (next_loaded a.ws.now a.s.now a.out.now l.out _ l.at l.i c.code.result l.invariant c.loop-i-test.true k o
    (c.code.ensures ∙ ap (λ (x : ℕ). bits_at a.s.now l.at (up_to 8 x)) c.from-w.ensures) (rw m at u))

pub returns : goal.returns
returns c =
    let a = c.args in
    all_loaded a.ws.now a.s.now a.out.now _ _ _ _ c.loop-i.invariant c.loop-i-test.false
    ∙ ap (λ (k : ℕ). loading k a.ws.now a.s.now a.out.now)
    (c.min-n.ensures ∙ ap (λ (k : ℕ). min k 256) (c.min.ensures ∙ up_to_min (length a.out.now) (length a.ws.now)) ∙ up_to_min 256 _)
