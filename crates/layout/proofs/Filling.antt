-- Runs of bytes stored one behind another. Assumes nothing.
use Prim.Native.Nat.{ℕ, suc, ◌+◌, ◌-◌, ◌*◌, ◌<◌, ◌≤◌}
use mathlib.Core.Bool.{Bool, true, false, cond}
use mathlib.Core.Path.{◌≡◌, refl, sym, ap, ◌∙◌}
use mathlib.Core.List.{List, [], ◌∷◌, ◌++◌, append_assoc}
use native.Mathlib.Nat.{add-zero, suc-add, add-suc}
use native.Mathlib.Omega.{arith}
use borrow.Author.Tests.{le-ltb}
use lib.Dec.{ltb}
use lib.ListN.{length, set, get_or, take, drop}
use borrow.Rule.Slice.PartMut.{put_mid, Post-is}
use lib.Seq.{sets, sets-eq, length-sets, drop-cons}
use Rattle.layout.specs.Layout.{unpack, bytes}
use Rattle.layout.specs.Numbers.{in_fours, with_numbers}

-- one run, and another behind it
pub sets_append : (l : List ℕ) (at : ℕ) (xs ys : List ℕ) → sets l at (xs ++ ys) ≡ sets (sets l at xs) (at + length xs) ys
sets_append l at [] ys = rw add-zero
sets_append l at (x ∷ xs) ys =
    sets_append (set l at x) (suc at) xs ys
    ∙ ap (λ (n : ℕ). sets (sets (set l at x) (suc at) xs) n ys) (suc-add at (length xs) ∙ sym (add-suc at (length xs)))

-- a run copied over a part of the bytes
pub part_put : (l ys zs : List ℕ) (at k : ℕ) → at + k ≤ length l → length zs ≡ k → ys ≡ zs → put_mid at (at + k - at) l ys ≡ sets l at zs
part_put l ys zs at k h n e =
    let e2 : sets l at zs ≡ take at l ++ zs ++ drop (at + k) l = sets-eq zs l at (omega arith) ∙ ap (λ (m : ℕ). take at l ++ zs ++ drop (at + m) l) n in
    let f : sets l at zs ≡ take at l ++ (zs ++ drop (at + k) l) = e2 ∙ append_assoc (take at l) zs (drop (at + k) l) in
    rw (Post-is at (at + k) l (omega arith), e) (sym f)

-- the numbers from i on are still to be stored
pub number_stored : (out g xs : List ℕ) (at i : ℕ) → i < length xs → sets out (at + 4 * i) (in_fours (drop i xs)) ≡ g →
    sets (sets out (at + 4 * i) (unpack (bytes 4) (get_or xs i 0))) (at + 4 * (i + 1)) (in_fours (drop (i + 1) xs)) ≡ g
number_stored out g xs at i h p =
    let four = unpack (bytes 4) (get_or xs i 0) in
    let e : at + 4 * i + 4 ≡ at + 4 * (i + 1) = omega arith in
    let f : suc i ≡ i + 1 = omega arith in
    rw (sym e)
    (sym (sets_append out (at + 4 * i) four (in_fours (drop (i + 1) xs)))
    ∙ ap (λ (n : ℕ). sets out (at + 4 * i) (four ++ in_fours (drop n xs))) (sym f)
    ∙ ap (λ (l : List ℕ). sets out (at + 4 * i) (in_fours l)) (sym (drop-cons xs i 0 h))
    ∙ p)

-- numbers that have room
pub numbers_put : (l xs : List ℕ) (at : ℕ) → at + 4 * length xs ≤ length l → with_numbers l at xs ≡ sets l at (in_fours xs)
unfolding with_numbers
numbers_put l xs at h = rw (le-ltb (length l) (at + 4 * length xs) h)

-- and numbers that have none
pub none_put : (l xs : List ℕ) (at : ℕ) → ltb (length l) (at + 4 * length xs) ≡ true → l ≡ with_numbers l at xs
unfolding with_numbers
none_put l xs at t = rw t

-- they make the bytes no more and no fewer
pub numbers_length : (l xs : List ℕ) (at : ℕ) → length (with_numbers l at xs) ≡ length l
unfolding with_numbers
numbers_length l xs at = by_room (ltb (length l) (at + 4 * length xs))
  where
    by_room : (b : Bool) → length (cond b l (sets l at (in_fours xs))) ≡ length l
    by_room true = refl
    by_room false = length-sets l at (in_fours xs)
