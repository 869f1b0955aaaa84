-- Writing a record into lent memory.
-- Assumes nothing.
use Rattle.std.specs.Prelude.{ℕ, ◌≡◌, Result, List, ◌++◌, length, drop, ltb}
use Rattle.std.proofs.Common.{sym, ◌∙◌}
use Rattle.answer.specs.Answer.{Answer, gives, refuses, refuse, ◌>>=◌, ◌>>◌}
use Rattle.answer.specs.Said.{says, settled}
use Rattle.answer.specs.declared.Refusal.{Refusal}

-- What the lent bytes l are to hold after a write of n bytes, or why nothing is written: 32 first, then what refuses the record itself.
-- The bytes beyond the record stay.
abbrev pub written : ℕ → Answer (List ℕ) → List ℕ → Answer (List ℕ)
written n m l = do
  refuse 32 (ltb (length l) n)
  b ← m
  gives (b ++ drop n l)

-- the lent bytes after it: a refusal leaves them
abbrev pub after : List ℕ → Answer (List ℕ) → List ℕ
after l (gives b) = b
after l (refuses n) = l

-- A write of the record m, n bytes, into l: its answer, and every lent byte.
pub record Wrote (n : ℕ) (m : Answer (List ℕ)) (l l' : List ℕ) (r : Result (Unit {0}) Refusal) : Type 0 where
  pub answer : says r ≡ ◌>>◌ (written n m l) (gives tt)
  pub bytes : l' ≡ after l (written n m l)

-- Nothing is left open: the answer and the bytes of a write are settled.
pub wrote_settled : {n : ℕ} {m : Answer (List ℕ)} {l a b : List ℕ} {r s : Result (Unit {0}) Refusal} → Wrote n m l a r → Wrote n m l b s → (r ≡ s) × (a ≡ b)
wrote_settled {r = r} {s = s} w v = (settled r s (w.answer ∙ sym v.answer), w.bytes ∙ sym v.bytes)
