use mathlib.Core.Path.{◌≡◌, sym, ap, ◌∙◌}
use Prim.Native.Nat.{ℕ, ◌+◌, ◌<◌, min}
use native.Mathlib.Numerals.{add-one}
use native.Mathlib.Omega.{arith}
use lib.ListN.{length, take, get_or}
use Rattle.std.proofs.lemmas.List.{get_or-take, length-take-le}
use Rattle.layout.specs.Layout.{total}
use Rattle.layout.specs.Bits.{bits_at, up_to, narrowed}
use Rattle.layout.proofs.Loading.{total_on, field_there, field_past}
use Rattle.layout.proofs.Reading.{up_to_min}
use Rattle.layout.proofs.field.Goals as goal
use Rattle.layout.proofs.field.Goals.{Else-min-k}

pub returns-then-min-k : goal.returns-then-min-k
returns-then-min-k c = let a = c.args in sym (field_past 256 a.ws.now a.s.now 0 a.k (λ h. omega arith))

-- the field is there, and so are the widths before it
there : (c : goal.Else-min-k) → let a = c.args in (a.k < 256) × (a.k < length a.ws.now) × (length (take a.k a.ws.now) ≡ a.k)
there c = let a = c.args in (omega (arith, c.min.ensures, c.if-min-k.false), omega (arith, c.min.ensures, c.if-min-k.false), length-take-le a.k a.ws.now (omega (arith, c.min.ensures, c.if-min-k.false)))

pub loop-w-preserved : goal.loop-w-preserved
loop-w-preserved c =
    let a = c.args in
    let i = c.loop-w.w-index in
    let w = get_or a.ws.now i 0 in
    let t = there (goal.at.loop-w-preserved c).Else-min-k in
    let h : i < a.k = omega arith in
    let e : c.min-at.result ≡ up_to 8 w =
    c.min-at.ensures ∙ ap (λ (x : ℕ). min x 8) (c.from.ensures ∙ get_or-take a.k a.ws.now i 0 h) ∙ up_to_min 8 w in
    let h' : i < length a.ws.now = omega arith in
    rw add-one (rw (e, c.loop-w.invariant.0) (sym (total_on a.ws.now i h')), omega arith)

pub returns : goal.returns
returns c =
    let a = c.args in
    let t = there (goal.at.returns c).Else-min-k in
    let e : c.loop-w.w-index ≡ a.k = omega arith in
    let p : c.loop-w.at ≡ 0 + total (narrowed (take a.k a.ws.now)) =
    c.loop-w.invariant.0 ∙ ap (λ (i : ℕ). total (narrowed (take i a.ws.now))) e ∙ omega arith in
    c.code.ensures ∙ ap (λ (w : ℕ). bits_at a.s.now c.loop-w.at (up_to 8 w)) c.from-2.ensures
    ∙ ap (λ (q : ℕ). bits_at a.s.now q (up_to 8 (get_or a.ws.now a.k 0))) p ∙ sym (field_there 256 a.ws.now a.s.now 0 a.k t.0 t.1)
