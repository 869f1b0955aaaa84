-- What settles an answer beside `settled`: its number, where it gives nothing; and what it says by whatever numbers tell its refusals apart.
-- Assumes nothing.
use Rattle.std.specs.Prelude.{◌≡◌, refl, ℕ, Result, Ok, Err}
use Rattle.std.proofs.Common.{◌∙◌, sym, ap, arith}
use Rattle.answer.specs.declared.Refusal.{Refusal}
use Rattle.answer.specs.declared.Refusal.TheVariants.{RngWithoutUsbhs}
use Rattle.answer.specs.Answer.{gives_refuses, refuses_gives, same_given, same_refusal}
use Rattle.answer.specs.Said.{number_of, named, refusal_of, number_again, refusal_number, says_by}

-- No two refusals have one number, and none has 0.

pub told_apart : (d e : Refusal) → number_of d ≡ number_of e → d ≡ e
told_apart d e q = sym (number_again d) ∙ ap refusal_of q ∙ number_again e

never_0 : {P : Type 0} (e : Refusal) → number_of e ≡ 0 → P
unfolding refusal_of named
never_0 e q = absurd (let first : e ≡ RngWithoutUsbhs = sym (number_again e) ∙ ap refusal_of q in let z : ◌≡◌ {A = ℕ} 1 0 = ap number_of (sym first) ∙ q in omega arith)

pub settled_by_number : (r s : Result (Unit {0}) Refusal) → refusal_number r ≡ refusal_number s → r ≡ s
settled_by_number (Ok x) (Ok y) q = refl
settled_by_number (Ok x) (Err e) q = never_0 e (sym q)
settled_by_number (Err d) (Ok y) q = never_0 d q
settled_by_number (Err d) (Err e) q = ap Err (told_apart d e q)

-- Also of an answer that a number refuses, or whatever else has numbers that tell it apart.
pub settled_as : {A E : Type 0} (number : E → ℕ) → ((d e : E) → number d ≡ number e → d ≡ e) → (r s : Result A E) → says_by number r ≡ says_by number s → r ≡ s
settled_as number apart (Ok x) (Ok y) q = ap Ok (same_given q)
settled_as number apart (Ok x) (Err e) q = gives_refuses q
settled_as number apart (Err d) (Ok y) q = refuses_gives q
settled_as number apart (Err d) (Err e) q = ap Err (apart d e (same_refusal q))
