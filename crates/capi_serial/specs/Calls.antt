-- What the serial divisor's call gives: the number that it returns, and the two lent numbers.
-- Assumes nothing.
use Rattle.std.specs.Prelude.{ℕ, ◌≡◌, ℤ}
use Rattle.std.proofs.Common.{sym, ◌∙◌}
use Rattle.answer.specs.Answer.{Answer, gives, refuses}
use Rattle.capi_give.specs.Given.{number_in}

-- the lent BRR and error after the call: those of the answer; a refusal leaves both
abbrev pub lent_after : ℕ × ℤ → Answer (ℕ × ℤ) → ℕ × ℤ
lent_after l (gives x) = x
lent_after l (refuses n) = l

-- BRR and its error, the answer m, given through a lent b and a lent e.
pub record GivenSerial (m : Answer (ℕ × ℤ)) (b b' : ℕ) (e e' : ℤ) (r : ℕ) : Type 0 where
  pub number : r ≡ number_in m
  pub brr : b' ≡ (lent_after (b, e) m).0
  pub error : e' ≡ (lent_after (b, e) m).1

-- Nothing is left open: two results that the promise allows are equal.
pub given_serial_settled : {m : Answer (ℕ × ℤ)} {b b₁ b₂ : ℕ} {e e₁ e₂ : ℤ} {r s : ℕ} →
    GivenSerial m b b₁ e e₁ r → GivenSerial m b b₂ e e₂ s → (r ≡ s) × (b₁ ≡ b₂) × (e₁ ≡ e₂)
given_serial_settled w v = (w.number ∙ sym v.number, w.brr ∙ sym v.brr, w.error ∙ sym v.error)
