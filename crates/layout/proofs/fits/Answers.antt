use mathlib.Core.Path.{◌≡◌, refl, sym, ap, ap₂, ◌∙◌}
use mathlib.Core.Bool.{Bool, true, false, ◌&&◌, not}
use mathlib.Core.List.{List, []}
use Prim.Native.Nat.{ℕ, ◌+◌, ◌/◌, ◌%◌, ◌^◌, ◌≤◌, ◌<◌}
use native.Mathlib.Omega.{arith}
use borrow.Author.Tests.{not-true, not-false, leb-true}
use lib.Dec.{eqb, leb, ltb}
use lib.ListN.{length, drop, take, get_or}
use lib.Seq.{drop-length, take-length}
use Rattle.answer.specs.Tools.{and_left}
use Rattle.layout.specs.Layout.{total, fields_fit, field_fits, storable}
use Rattle.layout.proofs.Laws.{fits_at, fits_fitting, fitting_length, total_next}
use Rattle.layout.proofs.fits.Invariants.{Passed}
use Rattle.layout.proofs.fits.Goals as goal

refuted : (b : Bool) → (b ≡ true → ⊥) → b ≡ false
refuted true h = absurd (h refl)
refuted false h = refl

module _ (ws xs : List ℕ) (room : ℕ) where
  misfit : fields_fit ws xs ≡ false → false ≡ storable ws xs room
  misfit f = rw f

  unequal : (length ws ≡ length xs → ⊥) → false ≡ storable ws xs room
  unequal h = misfit (refuted (fields_fit ws xs) (λ t. h (fitting_length ws xs (fits_fitting ws xs t))))

  module _ (size count i : ℕ) (l : length ws ≡ length xs) (p : Passed ws xs size count i) where
    module _ (t : Bool) (h : i < length ws) (f : t ≡ field_fits (get_or ws i 0) (get_or xs i 0)) where
      next : fields_fit ws xs ≡ (t && fields_fit (drop (i + 1) ws) (drop (i + 1) xs))
      next = let k : i < length xs = omega arith in p.same ∙ rw (fits_at ws xs i h k, f)

      wrong : not t ≡ true → false ≡ storable ws xs room
      wrong k = misfit (next ∙ rw (not-true t k))

      narrow : not t ≡ false → get_or ws i 0 ≤ 8
      narrow k =
          let w = get_or ws i 0 in
          let x = get_or xs i 0 in
          leb-true w 8 (and_left (leb w 8) (ltb x (2 ^ w)) (sym f ∙ not-false t k))

      right : not t ≡ false → Passed ws xs (size + (count + get_or ws i 0) / 8) ((count + get_or ws i 0) % 8) (i + 1)
      right k = record {
        within = omega arith;
        same = next ∙ rw (not-false t k);
        bits = omega (arith, p.bits, total_next ws i h);
        few = omega arith;
        near = omega (arith, p.near, p.few, narrow k);
      }

    ended : length ws ≤ i → (eqb count 0 && leb size room) ≡ storable ws xs room
    ended h =
        let e : i ≡ length ws = omega (arith, p.within) in
        let d : drop i ws ≡ [] = rw e (drop-length ws) in
        let d' : drop i xs ≡ [] = rw (e, l) (drop-length xs) in
        let f : fields_fit ws xs ≡ true = p.same ∙ rw (d, d') in
        let n : total (take i ws) ≡ total ws = ap total (ap (λ (k : ℕ). take k ws) e ∙ take-length ws) in
        let a : count ≡ total ws % 8 = omega (arith, p.bits, p.few) in
        let b : size ≡ total ws / 8 = omega (arith, p.bits, p.few) in
        rw f (ap₂ (λ (y z : ℕ). eqb y 0 && leb z room) a b)

pub returns-then-ws-xs : goal.returns-then-ws-xs
returns-then-ws-xs c = unequal c.args.ws.now c.args.xs.now _ c.if-ws-xs.true

pub loop-i-preserved : goal.loop-i-preserved
loop-i-preserved c =
    let l = c.loop-i in
    let a = c.args in
    rw c.from-size.ensures
    (right a.ws.now a.xs.now a.room l.size l.count l.i c.if-ws-xs.false l.invariant _ c.loop-i-test.true c.fits_in.ensures (ap not c.if-not-fits_in.false))
