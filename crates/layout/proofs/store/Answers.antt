use mathlib.Core.Path.{◌≡◌, sym, ap, ap₂, ◌∙◌}
use mathlib.Core.Bool.{true, false, ◌&&◌}
use mathlib.Core.List.{List, ◌++◌}
use Prim.Native.Nat.{ℕ, ◌+◌, ◌*◌, ◌%◌, ◌^◌, ◌≤◌, ◌<◌}
use native.Mathlib.Omega.{arith}
use borrow.Author.Tests.{leb-true, ltb-true, eqb-true}
use lib.Dec.{eqb, leb, ltb}
use lib.ListN.{length, take, drop, get_or, take-append-drop}
use lib.Seq.{take-length, length-take-le}
use Rattle.answer.specs.Tools.{and_left, and_right}
use Rattle.layout.specs.Layout.{total, pack, unpack, bytes, num, fields_fit, size_of, storable, packed}
use Rattle.layout.specs.declared.Pending.{Pending}
use Rattle.layout.specs.Gathered.{Gathered, Fits}
use Rattle.layout.specs.Stored.{Stored}
use Rattle.layout.proofs.Laws.{fits_each, fits_fitting, fitting_length, total_next, total_take, pack_next, unpack_pack}
use Rattle.layout.proofs.store.Invariants.{Storing}
use Rattle.layout.proofs.store.Goals as goal
use Rattle.layout.proofs.store.Goals.{Else-not-fits}

module _ (ws xs was : List ℕ) (t : storable ws xs (length was) ≡ true) where
  fit : fields_fit ws xs ≡ true
  fit = and_left (fields_fit ws xs) (eqb (total ws % 8) 0 && leb (size_of ws) (length was)) t

  sized : (eqb (total ws % 8) 0 && leb (size_of ws) (length was)) ≡ true
  sized = and_right (fields_fit ws xs) (eqb (total ws % 8) 0 && leb (size_of ws) (length was)) t

  whole : total ws % 8 ≡ 0
  whole = eqb-true (total ws % 8) 0 (and_left (eqb (total ws % 8) 0) (leb (size_of ws) (length was)) sized)

  room : size_of ws ≤ length was
  room = leb-true (size_of ws) (length was) (and_right (eqb (total ws % 8) 0) (leb (size_of ws) (length was)) sized)

  pub same_count : length ws ≡ length xs
  same_count = fitting_length ws xs (fits_fitting ws xs fit)

  module _ (out : List ℕ) (p : Pending) (i : ℕ) (d : Storing ws xs was out p i) where
    module _ (h : i < length ws) where
      next_fits : Fits (length out) p (get_or ws i 0) (get_or xs i 0)
      next_fits =
          let w = get_or ws i 0 in
          let x = get_or xs i 0 in
          let g = d.gathered in
          let f = fits_each ws xs i fit h in
          record {
            few = g.few;
            small = g.small;
            narrow = leb-true w 8 (and_left (leb w 8) (ltb x (2 ^ w)) f);
            below = ltb-true x (2 ^ w) (and_right (leb w 8) (ltb x (2 ^ w)) f);
            place = omega (arith, g.bits, g.long, total_next ws i h, total_take ws (i + 1), whole, room);
          }

      next : (o : List ℕ) (q : Pending)
          → Gathered was (total (take i ws) + get_or ws i 0) (pack (take i ws) (take i xs) * 2 ^ get_or ws i 0 + get_or xs i 0) o q
          → Storing ws xs was o q (i + 1)
      next o q g =
          let k : i < length xs = omega (arith, same_count) in
          record { within = omega arith; gathered = rw (total_next ws i h, pack_next ws xs i h k same_count) g }

    ended : length ws ≤ i → out ≡ packed (size_of ws) ws xs ++ drop (size_of ws) was
    ended h =
        let n = size_of ws in
        let e : i ≡ length ws = omega (arith, d.within) in
        let f : i ≡ length xs = e ∙ same_count in
        let a : take i ws ≡ ws = ap (λ (k : ℕ). take k ws) e ∙ take-length ws in
        let b : take i xs ≡ xs = ap (λ (k : ℕ). take k xs) f ∙ take-length xs in
        let g : Gathered was (total ws) (pack ws xs) out p = rw (a, b) at d.gathered in
        let z : p.count ≡ 0 = omega (arith, g.bits, g.few, whole) in
        let at : p.at ≡ n = omega (arith, g.bits, g.few, whole) in
        let small : p.value < 2 ^ 0 = rw z at g.small in
        let front = take n out in
        let s : num front * 2 ^ 0 + p.value ≡ pack ws xs = rw (z, at) at g.spells in
        let v : num front ≡ pack ws xs = omega arith in
        let o : n ≤ length out = omega (arith, room, g.long) in
        let l : length front ≡ n = length-take-le n out o in
        let u : front ≡ packed n ws xs =
        sym (unpack_pack (bytes (length front)) front (rw at at g.low)) ∙ ap₂ (λ (k y : ℕ). unpack (bytes k) y) l v in
        sym (take-append-drop n out) ∙ ap₂ (λ (y k : List ℕ). y ++ k) u (rw at at g.beyond)

    done : length ws ≤ i → Stored ws xs was out true
    done h = record { answer = sym t; bytes = rw t (ended h) }

refused : (ws xs l : List ℕ) → storable ws xs (length l) ≡ false → Stored ws xs l l false
refused ws xs l e = record { answer = sym e; bytes = rw e }

-- that the fields can be stored was tested
tested : (c : goal.Else-not-fits)
    → let a = c.args in storable a.ws.now a.xs.now (length a.out.now) ≡ true
tested c = sym c.fits.ensures ∙ c.if-not-fits.false

pub returns-then-not-fits : goal.returns-then-not-fits
returns-then-not-fits c =
    let a = c.args in
    refused a.ws.now a.xs.now a.out.now (sym c.fits.ensures ∙ c.if-not-fits.true)

pub bounds-xs-i : goal.bounds-xs-i
bounds-xs-i c =
    let a = c.args in
    omega (arith, same_count a.ws.now a.xs.now a.out.now (tested (goal.at.bounds-xs-i c).Else-not-fits))

pub gather-p-requires : goal.gather-p-requires
gather-p-requires c =
    let a = c.args in
    next_fits a.ws.now a.xs.now a.out.now (tested (goal.at.gather-p-requires c).Else-not-fits) _ _ _ c.loop-i.invariant c.loop-i-test.true

pub loop-i-preserved : goal.loop-i-preserved
loop-i-preserved c =
    let a = c.args in
    next a.ws.now a.xs.now a.out.now (tested (goal.at.loop-i-preserved c).Else-not-fits) _ _ _ c.loop-i.invariant c.loop-i-test.true _ _
    (c.gather-p.ensures.more _ _ _ c.loop-i.invariant.gathered)

pub returns : goal.returns
returns c =
    let a = c.args in
    done a.ws.now a.xs.now a.out.now (tested (goal.at.returns c).Else-not-fits) _ _ _ c.loop-i.invariant c.loop-i-test.false
