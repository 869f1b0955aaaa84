-- Texts put one after another: where there is room for all of them, they are one text.
-- Assumes nothing.
use Rattle.std.specs.Prelude.{◌≡◌, refl, Bool, true, false, List, [], ◌++◌, ℕ, suc, ◌+◌, ◌^◌, ◌<◌, ◌≤◌, ltb, ℤ, pos, negsuc, length, take, drop, Option, Some, None}
use Rattle.std.proofs.Common.{sym, ap, ◌∙◌, append_assoc, add-zero, add_assoc, arith, le-ltb, ltb-false, length-append, length-drop, length-take-le, take_at, drop-drop}
use Rattle.std.proofs.Math.Seq.{drop-append-add, paste-zero}
use Rattle.std.specs.Int.Signed.{mag}
use Rattle.answer.specs.Answer.{gives, refuse, ◌>>◌, bound, passed}
use Rattle.layout.specs.Lent.{after}
use Rattle.text.specs.Decimal.{signed}
use Rattle.text.specs.DecimalLaws.{ten_digits}
use Rattle.text.specs.Text.{line_of, place_of, room_of, overlaid, with_text, Placed, put_settled}

-- the text xs stands over l, from the place `at` on: this gives l', and r is the place after it
pub record Stands (l : List ℕ) (at : ℕ) (xs l' : List ℕ) (r : Option ℕ) : Type 0 where
  pub end : r ≡ Some (at + length xs)
  pub bytes : l' ≡ overlaid l at xs

-- a text of which it is known whether it has room
module _ {p : Option ℕ} {at : ℕ} (q : p ≡ Some at) (xs l : List ℕ) where
  pub refused : ltb (length l) (at + length xs) ≡ true → Placed p xs l l None
  refused t = record { answer = rw (q, t); bytes = rw (q, t) }

  pub placed : {l' : List ℕ} {r : Option ℕ} → ltb (length l) (at + length xs) ≡ false → Stands l at xs l' r → Placed p xs l l' r
  placed t s = record { answer = rw (s.end, q, t); bytes = rw (q, t) s.bytes }

  pub stood : {l' : List ℕ} {r : Option ℕ} → Placed p xs l l' r → at + length xs ≤ length l → Stands l at xs l' r
  stood {r = r} w h =
      let t = le-ltb (length l) (at + length xs) h in
      record { end = put_settled r (Some (at + length xs)) (w.answer ∙ rw (q, t)); bytes = w.bytes ∙ rw (q, t) }

module _ (l xs : List ℕ) (at : ℕ) (room : at + length xs ≤ length l) where
  front : length (take at l ++ xs) ≡ at + length xs
  front = length-append (take at l) xs ∙ ap (λ (n : ℕ). n + length xs) (length-take-le at l (omega arith))

  pub length_overlaid : length (overlaid l at xs) ≡ length l
  length_overlaid = simp (length-append, length-drop, length-take-le at l (omega arith)) (omega arith)

  -- a text, and then another behind it
  overlaid_twice : (ys : List ℕ) → overlaid (overlaid l at xs) (at + length xs) ys ≡ overlaid l at (xs ++ ys)
  overlaid_twice ys =
      let p : List ℕ = take at l ++ xs in
      let rest : List ℕ = drop (at + length xs) l in
      let beyond : drop (at + length xs + length ys) (p ++ rest) ≡ drop (at + length (xs ++ ys)) l =
      ap (λ (n : ℕ). drop (n + length ys) (p ++ rest)) (sym front) ∙ drop-append-add p rest (length ys) ∙ drop-drop (length ys) (at + length xs) l
      ∙ ap (λ (n : ℕ). drop n l) (add_assoc at (length xs) (length ys) ∙ ap (λ (n : ℕ). at + n) (sym (length-append xs ys))) in
      rw (take_at p rest (at + length xs) front, beyond, append_assoc (take at l) xs ys)

-- a text makes the bytes no more and no fewer, and ends within them
pub placed_length : {p : Option ℕ} {xs l l' : List ℕ} {r : Option ℕ} → Placed p xs l l' r → length l' ≡ length l
placed_length {p = None} w = ap length w.bytes
placed_length {p = Some at} {xs = xs} {l = l} w = ap length w.bytes ∙ by_test (ltb (length l) (at + length xs)) refl
  where
    by_test : (t : Bool) → ltb (length l) (at + length xs) ≡ t → length (after l (with_text (gives at) xs l)) ≡ length l
    by_test true e = rw e
    by_test false e = rw e (length_overlaid l xs at (ltb-false (length l) (at + length xs) e))

pub end_within : {p : Option ℕ} {xs l l' : List ℕ} {r : Option ℕ} {n : ℕ} → Placed p xs l l' r → r ≡ Some n → n ≤ length l'
end_within {p} {xs} {l} {l'} {r} {n} w q =
    let place = bound (room_of (place_of p) xs l) (λ at. gives (at + length xs)) (sym w.answer ∙ ap place_of q) in
    let room = bound (place_of p) (λ at. ◌>>◌ (refuse 32 (ltb (length l) (at + length xs))) (gives at)) place.gave in
    let fits = passed 32 (ltb (length l) (room.value + length xs)) (gives room.value) room.after in
    let e : room.value ≡ place.value = (let g : gives room.value ≡ gives place.value = fits.after in cc) in
    let f : place.value + length xs ≡ n = (let g : gives (place.value + length xs) ≡ gives n = place.after in cc) in
    omega (arith, ltb-false (length l) (room.value + length xs) fits.failed, placed_length w)

-- What several pieces come to, from the place p on: they stand there where there is room for all of them; and the bytes are no more and no fewer.
pub record Joined (p : Option ℕ) (xs l l' : List ℕ) (r : Option ℕ) : Type 0 where
  pub size : length l' ≡ length l
  pub stands : (at : ℕ) → p ≡ Some at → at + length xs ≤ length l → Stands l at xs l' r

pub no_piece : {p : Option ℕ} {l : List ℕ} → Joined p [] l l p
no_piece {l = l} = record { size = refl; stands = λ at q h. record { end = q ∙ ap Some (sym (add-zero at)); bytes = paste-zero l at [] } }

pub one_piece : {p : Option ℕ} {xs l l' : List ℕ} {r : Option ℕ} → Placed p xs l l' r → Joined p xs l l' r
one_piece {xs = xs} {l = l} w = record { size = placed_length w; stands = λ at q. stood q xs l w }

-- pieces, and then others from where they ended
pub join : {p : Option ℕ} {l xs l₁ ys l₂ : List ℕ} {q r : Option ℕ} → Joined p xs l l₁ q → Joined q ys l₁ l₂ r → Joined p (xs ++ ys) l l₂ r
join {p} {l} {xs} {l₁} {ys} {l₂} {q} {r} a b = record { size = b.size ∙ a.size; stands = both }
  where
    both : (at : ℕ) → p ≡ Some at → at + length (xs ++ ys) ≤ length l → Stands l at (xs ++ ys) l₂ r
    both at is_at h =
        let e = length-append xs ys in
        let g : at + length xs ≤ length l = omega arith in
        let s = a.stands at is_at g in
        let k = a.size in
        let t = b.stands (at + length xs) s.end (omega arith) in
        record {
          end = t.end ∙ ap Some (omega arith);
          bytes = t.bytes ∙ ap (λ (o : List ℕ). overlaid o (at + length xs) ys) s.bytes ∙ overlaid_twice l xs at g ys;
        }

-- pieces, and then a text
pub then : {p : Option ℕ} {l xs l₁ ys l₂ : List ℕ} {q r : Option ℕ} → Joined p xs l l₁ q → Placed q ys l₁ l₂ r → Joined p (xs ++ ys) l l₂ r
then a b = join a (one_piece b)

-- a number of 32 bits has ten digits at most
pub line_short : (name : List ℕ) (n : ℕ) → n < 2 ^ 32 → length (line_of name n) ≤ length name + 12
unfolding line_of
line_short name n h = simp length-append (omega (arith, ten_digits n h))

-- and one with its sign eleven characters
pub signed_short : (z : ℤ) → mag z < 2 ^ 31 → length (signed z) ≤ 11
unfolding signed
signed_short (pos n) h = omega (arith, ten_digits n (omega arith))
signed_short (negsuc n) h = omega (arith, ten_digits (suc n) (omega arith))
