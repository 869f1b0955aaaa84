-- Bytes made of fields, and fields of bytes, where all of them have room. Assumes nothing.
use Prim.Native.Nat.{ℕ, ◌*◌, ◌≤◌}
use mathlib.Core.Path.{◌≡◌, refl, sym, ap, ◌∙◌}
use mathlib.Core.Bool.{Bool, true, false, cond, not}
use mathlib.Core.List.{List, [], ◌∷◌, ◌++◌, append-nil}
use native.Mathlib.Omega.{arith}
use lib.ListN.{length, drop}
use lib.Seq.{drop-length, take-length}
use Rattle.std.specs.Prelude.{Some, None}
use Rattle.std.proofs.Common.{le-leb}
use Rattle.answer.specs.Answer.{Answer, gives, refuses, refuse, ◌>>◌}
use Rattle.answer.specs.Tools.{and_both}
use Rattle.layout.specs.Layout.{total, size_of, storable, fitting, packed}
use Rattle.layout.specs.Bits.{up_to, cut, narrowed, loaded, loading}
use Rattle.layout.specs.Stored.{Stored}
use Rattle.layout.proofs.Laws.{narrow, fits_narrow}
use Rattle.layout.proofs.Reading.{up_to_all, up_to_min}
use Rattle.layout.proofs.Writing as writing
use Rattle.capi_codec.specs.Codec.{refused_by, record_by}

-- with a byte for each field all of them are loaded
pub all_fields : (ws s l : List ℕ) → length l ≡ length ws → length ws ≤ 256 → narrowed ws ≡ ws → loaded ws s l ≡ cut ws s 0
all_fields ws s l e h n =
    ap (λ (k : ℕ). loading (up_to 256 k) ws s l) (up_to_all (length l) (length ws) (omega arith))
    ∙ ap (λ (k : ℕ). loading k ws s l) (up_to_all 256 (length ws) h)
    ∙ ap (λ (v : List ℕ). cut (narrowed v) s 0 ++ drop (length ws) l) (take-length ws)
    ∙ ap (λ (v : List ℕ). cut v s 0 ++ drop (length ws) l) n
    ∙ ap (λ (k : ℕ). cut ws s 0 ++ drop k l) (sym e)
    ∙ ap (λ (v : List ℕ). cut ws s 0 ++ v) (drop-length l)
    ∙ append-nil (cut ws s 0)

small : (w : ℕ) → up_to 8 w ≡ w → w ≤ 8
small w e = let m = up_to_min 8 w in omega arith

narrow_of : (ws : List ℕ) → narrowed ws ≡ ws → narrow ws ≡ true
narrow_of [] h = refl
narrow_of (w ∷ ws) h =
    let e : up_to 8 w ≡ w = cc in
    let t : narrowed ws ≡ ws = cc in
    and_both (le-leb w 8 (small w e)) (narrow_of ws t)

module _ (n : ℕ) (ws xs was p : List ℕ) (r : Bool) (s : Stored ws xs was p r) (whole : total ws ≡ 8 * n) (full : length was ≡ n)
    (narrow-ws : narrowed ws ≡ ws) where
  size_is : size_of ws ≡ length was
  size_is = omega arith

  answered : r ≡ fitting ws xs
  answered = writing.stored ws xs was p r (omega arith) (omega (arith, size_is)) s ∙ fits_narrow ws xs (narrow_of ws narrow-ws)

  -- fields that don't fit make no record
  pub misfit : r ≡ false → None ≡ cond (fitting ws xs) (Some (packed n ws xs)) None
  misfit e = rw (sym answered ∙ e) refl

  -- those that do make it
  pub made : r ≡ true → Some p ≡ cond (fitting ws xs) (Some (packed n ws xs)) None
  made e =
      let t : storable ws xs (length was) ≡ true = sym s.answer ∙ e in
      let b : p ≡ packed (size_of ws) ws xs ++ drop (size_of ws) was = rw t at s.bytes in
      let q : p ≡ packed n ws xs =
      b ∙ ap (λ (m : ℕ). packed m ws xs ++ drop m was) size_is ∙ ap (λ (l : List ℕ). packed (length was) ws xs ++ l) (drop-length was)
      ∙ append-nil (packed (length was) ws xs) ∙ ap (λ (m : ℕ). packed m ws xs) full in
      rw (sym answered ∙ e) (ap Some q)

-- the record that its reader accepts, of what was stored; and what it refuses
module _ {A : Type 0} (reader : List ℕ → Answer A) (k : ℕ) where
  accepted_by : (t : Bool) (q p : List ℕ) (a : A) → cond t (Some q) None ≡ Some p → reader p ≡ gives a →
      ◌>>◌ (refuse k (not t)) (◌>>◌ (refused_by k (reader q)) (gives q)) ≡ gives p
  accepted_by true q p a e g = let h : q ≡ p = cc in rw (h, g) refl
  accepted_by false q p a e g = absurd cc

  unread_by : (t : Bool) (q p : List ℕ) (j : ℕ) → cond t (Some q) None ≡ Some p → reader p ≡ refuses j →
      ◌>>◌ (refuse k (not t)) (◌>>◌ (refused_by k (reader q)) (gives q)) ≡ refuses k
  unread_by true q p j e g = let h : q ≡ p = cc in rw (h, g) refl
  unread_by false q p j e g = absurd cc

  module _ (n : ℕ) (ws xs p : List ℕ) (e : cond (fitting ws xs) (Some (packed n ws xs)) None ≡ Some p) where
    pub accepted : (a : A) → reader p ≡ gives a → record_by reader k n ws xs ≡ gives p
    accepted a g = accepted_by (fitting ws xs) (packed n ws xs) p a e g

    pub unread : (j : ℕ) → reader p ≡ refuses j → record_by reader k n ws xs ≡ refuses k
    unread j g = unread_by (fitting ws xs) (packed n ws xs) p j e g
