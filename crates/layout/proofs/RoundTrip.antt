-- Both round trips, once for every record: what its layout and its two conversions owe, and what follows.
-- Assumes nothing.
use Prim.Native.Nat.{ℕ, ◌*◌, ◌≤◌}
use mathlib.Core.Path.{◌≡◌, refl, sym, ap, ◌∙◌}
use mathlib.Core.Bool.{Bool, true, false, not}
use mathlib.Core.List.{List, ◌++◌}
use Rattle.std.specs.Prelude.{Result, Ok}
use native.Mathlib.Omega.{arith}
use borrow.Author.Tests.{eq-eqb, eqb-true}
use lib.ListN.{length, take, drop}
use lib.Seq.{take_at}
use lib.Dec.{eqb, ltb}
use Rattle.answer.specs.Answer.{Answer, gives, refuses, refuse, ◌>>=◌, ◌>>◌}
use Rattle.answer.specs.Said.{says}
use Rattle.answer.specs.declared.Refusal.{Refusal}
use Rattle.layout.specs.Layout.{total, unpack, fitting, num, Bytes, packed}
use Rattle.layout.specs.Bits.{cut}
use Rattle.layout.specs.Codec.{Inverse}
use Rattle.layout.specs.Lent.{after, Wrote, wrote_settled}
use Rattle.layout.proofs.Reading.{cut_unpack, cut_packed, packed_unpack, length_packed}
use Rattle.layout.proofs.Writing.{written_to}

-- the reader of a record of n bytes, laid out as ws
abbrev read_by : {A : Type 0} (n : ℕ) (ws : List ℕ) (readable : List ℕ → Bool) (of : List ℕ → A) (wrongLength wrongFields : ℕ) → List ℕ → Answer A
read_by n ws readable of wrongLength wrongFields s = do
  refuse wrongLength (not (eqb (length s) n))
  refuse wrongFields (not (readable (cut ws s 0)))
  gives (of (cut ws s 0))

-- its writer
abbrev write_by : {A : Type 0} (n : ℕ) (ws : List ℕ) (writable : A → Bool) (fields : A → List ℕ) (wrong : ℕ) → A → Answer (List ℕ)
write_by n ws writable fields wrong a = do
  refuse wrong (not (writable a))
  gives (packed n ws (fields a))

-- an answer that gives passed its test
pub passed : {A : Type 0} (n : ℕ) (b : Bool) (m : Answer A) (a : A) → ◌>>◌ (refuse n (not b)) m ≡ gives a → (b ≡ true) × (m ≡ gives a)
passed n true m a e = (refl, e)
passed n false m a e = let z : ◌≡◌ {A = ℕ} 0 1 = cc in absurd (omega arith)

module _ {A : Type 0} (n : ℕ) (ws : List ℕ) (whole : total ws ≡ 8 * n)
    (readable : List ℕ → Bool) (of : List ℕ → A)
    (writable : A → Bool) (fields : A → List ℕ)
    -- the fields of a record are its own, and what is writable fits and is readable
    (of_Fields : (a : A) → of (fields a) ≡ a)
    (fit : (a : A) → writable a ≡ true → (fitting ws (fields a) ≡ true) × (readable (fields a) ≡ true))
    -- readable fields come back
    (back : (v : ℕ) → readable (unpack ws v) ≡ true → (fields (of (unpack ws v)) ≡ unpack ws v) × (writable (of (unpack ws v)) ≡ true))
    (i j k : ℕ) where
  write_read : (s : List ℕ) (a : A) → Bytes s → read_by n ws readable of i j s ≡ gives a → write_by n ws writable fields k a ≡ gives s
  write_read s a b e =
      let xs = cut ws s 0 in
      let p = passed i (eqb (length s) n) (◌>>◌ (refuse j (not (readable xs))) (gives (of xs))) a e in
      let l = eqb-true (length s) n p.0 in
      let q = passed j (readable xs) (gives (of xs)) a p.1 in
      let c : cut ws s 0 ≡ unpack ws (num s) = cut_unpack ws n whole s b l in
      let y = unpack ws (num s) in
      let r = back (num s) (sym (ap readable c) ∙ q.0) in
      let g : gives (of xs) ≡ gives a = q.1 in
      let o : of y ≡ a = sym (ap of c) ∙ (cc) in
      let w : writable a ≡ true = sym (ap writable o) ∙ r.1 in
      let f : fields a ≡ y = sym (ap fields o) ∙ r.0 in
      rw w (ap gives (ap (packed n ws) f ∙ packed_unpack ws n whole s b l))

  size : (a : A) (s : List ℕ) → write_by n ws writable fields k a ≡ gives s → length s ≡ n
  size a s e =
      let p = passed k (writable a) (gives (packed n ws (fields a))) s e in
      let t = packed n ws (fields a) in
      let g : gives t ≡ gives s = p.1 in
      let o : t ≡ s = cc in
      ap length (sym o) ∙ length_packed ws n whole (fields a)

  read_write : (a : A) (s : List ℕ) → write_by n ws writable fields k a ≡ gives s → read_by n ws readable of i j s ≡ gives a
  read_write a s e =
      let p = passed k (writable a) (gives (packed n ws (fields a))) s e in
      let t = packed n ws (fields a) in
      let g : gives t ≡ gives s = p.1 in
      let o : t ≡ s = cc in
      let f = fit a p.0 in
      let c : cut ws s 0 ≡ fields a = ap (λ (z : List ℕ). cut ws z 0) (sym o) ∙ cut_packed ws n whole (fields a) f.0 in
      let l = size a s e in
      let h : readable (cut ws s 0) ≡ true = ap readable c ∙ f.1 in
      rw (eq-eqb (length s) n l, h) (ap gives (ap of c ∙ of_Fields a))

  pub inverse : Inverse n (read_by n ws readable of i j) (write_by n ws writable fields k)
  inverse = record { size = size; read_write = read_write; write_read = write_read }

-- ---- the same of the calls, by what their writer promises

-- an accepted write had bytes to write, and wrote them
accepted : (l l' d : List ℕ) (t : Bool) (m : Answer (List ℕ))
    → let w : Answer (List ℕ) = ◌>>◌ (refuse 32 t) (◌>>=◌ m (λ b. gives (b ++ d))) in
    says {A = Unit {0}} (Ok tt) ≡ ◌>>◌ w (gives tt) → l' ≡ after l w → (b : List ℕ) × ((m ≡ gives b) × (l' ≡ b ++ d))
accepted l l' d false (gives b) e k = (b, (refl, k))
accepted l l' d false (refuses n) e k = let z : ◌≡◌ {A = ℕ} 0 1 = cc in absurd (omega arith)
accepted l l' d true m e k = let z : ◌≡◌ {A = ℕ} 0 1 = cc in absurd (omega arith)

module _ {A : Type 0} {n : ℕ} {read : List ℕ → Answer A} {write : A → Answer (List ℕ)} (inv : Inverse n read write) where
  -- what was written, read again, is what was handed over
  pub read_after_write : (a : A) (l l' : List ℕ) → Wrote n (write a) l l' (Ok tt) → read (take n l') ≡ gives a
  read_after_write a l l' w =
      let x = accepted l l' (drop n l) (ltb (length l) n) (write a) w.answer w.bytes in
      let e = x.1.0 in
      let t : take n l' ≡ x.0 = ap (take n) x.1.1 ∙ take_at x.0 (drop n l) n (inv.size a x.0 e) in
      ap read t ∙ inv.read_write a x.0 e

  -- what was read is accepted by the writer, which gives its bytes again
  pub write_after_read : (s : List ℕ) (a : A) (l l' : List ℕ) (r : Result (Unit {0}) Refusal) → Bytes s → read s ≡ gives a → n ≤ length l → Wrote n (write a) l l' r
      → (r ≡ Ok tt) × (l' ≡ s ++ drop n l)
  write_after_read s a l l' r b e h w = wrote_settled w (written_to n (write a) l s h (inv.write_read s a b e))
