-- Parts of a place are laid over it, one behind another: each leaves what is before it and what is behind it. Assumes nothing.
use Prim.Native.Nat.{ℕ, ◌+◌, ◌≤◌}
use mathlib.Core.Path.{◌≡◌, sym, ap, ◌∙◌}
use mathlib.Core.List.{List, ◌++◌, append_assoc, append-nil}
use native.Mathlib.Omega.{arith}
use borrow.Author.Tests.{le-ltb}
use borrow.Rule.Slice.PartMut.{mid_of, put_mid}
use lib.ListN.{length, take, drop, length-append, take-append-drop}
use lib.Seq.{drop-length, take_at, drop_at, drop-drop, length-take-le}
use Rattle.std.specs.Prelude.{Result, Ok, Err}
use Rattle.answer.specs.Answer.{Answer, gives, refuses, told, gives_refuses, same_refusal}
use Rattle.answer.specs.Said.{says, number_of}
use Rattle.answer.specs.declared.Refusal.{Refusal}
use Rattle.layout.specs.Lent.{Wrote}
use Rattle.layout.proofs.Writing.{held}

-- The place l' has the a bytes p in front, and behind them what l has there.
pub record Front (a : ℕ) (l l' p : List ℕ) : Type 0 where
  pub size : length p ≡ a
  pub bytes : l' ≡ p ++ drop a l

pub untouched : (a : ℕ) (l : List ℕ) → a ≤ length l → Front a l l (take a l)
untouched a l h = record { size = length-take-le a l h; bytes = sym (take-append-drop a l) }

module _ {a : ℕ} {l l' p : List ℕ} (f : Front a l l' p) where
  -- the next part is still l's
  pub still : (k : ℕ) → mid_of a k l' ≡ mid_of a k l
  still k = ap (mid_of a k) f.bytes ∙ ap (take k) (drop_at p (drop a l) a f.size)

  -- the next part laid over
  pub laid : (k : ℕ) (q : List ℕ) → length q ≡ k → Front (a + k) l (put_mid a k l' q) (p ++ q)
  laid k q e = record {
    size = length-append p q ∙ ap (λ (n : ℕ). n + length q) f.size ∙ ap (λ (n : ℕ). a + n) e;
    bytes =
        ap (λ (x : List ℕ). put_mid a k x q) f.bytes
        ∙ ap (λ (x : List ℕ). x ++ (q ++ drop k (drop a (p ++ drop a l)))) (take_at p (drop a l) a f.size)
        ∙ ap (λ (x : List ℕ). p ++ (q ++ drop k x)) (drop_at p (drop a l) a f.size)
        ∙ ap (λ (x : List ℕ). p ++ (q ++ x)) (drop-drop k a l)
        ∙ sym (append_assoc p q (drop (a + k) l));
  }

-- ---- a part that is written as a whole

none_beyond : (n : ℕ) (xs l : List ℕ) → length l ≡ n → xs ++ drop n l ≡ xs
none_beyond n xs l e = ap (λ (k : ℕ). xs ++ drop k l) (sym e) ∙ ap (λ (x : List ℕ). xs ++ x) (drop-length l) ∙ append-nil xs

module _ (n : ℕ) (m : Answer (List ℕ)) (l l' : List ℕ) (r : Result (Unit {0}) Refusal) (e : length l ≡ n) (w : Wrote n m l l' r) where
  pub written_whole : r ≡ Ok tt → m ≡ gives l'
  written_whole q = let k = held w q in k.gave ∙ ap gives (sym (k.lent ∙ none_beyond n k.bytes l e))

  fits : n ≤ length l
  fits = omega arith

  pub not_written : (k : Refusal) → r ≡ Err k → (m ≡ refuses (number_of k)) × (l' ≡ l)
  not_written k q = by_record m w
    where
      by_record : (m : Answer (List ℕ)) → Wrote n m l l' r → (m ≡ refuses (number_of k)) × (l' ≡ l)
      by_record (gives b) w = gives_refuses (told says (rw (le-ltb (length l) n fits) at w.answer) q)
      by_record (refuses j) w =
          (ap refuses (same_refusal (told says (rw (le-ltb (length l) n fits) at w.answer) q)), rw (le-ltb (length l) n fits) at w.bytes)
