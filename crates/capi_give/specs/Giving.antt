-- A call's number and bytes, by the way that it took. Assumes nothing.
use Rattle.std.specs.Prelude.{ℕ, ◌≤◌, ◌<◌, ◌≡◌, refl, Result, Ok, Err, List, ◌++◌, length, drop}
use Rattle.std.proofs.Common.{◌∙◌, sym, ap, lt-ltb, le-ltb}
use Rattle.answer.specs.Answer.{Answer, gives, refuses, ◌>>◌}
use Rattle.answer.specs.Said.{says, says_by, number_of}
use Rattle.answer.specs.declared.Refusal.{Refusal}
use Rattle.layout.specs.Lent.{written, Wrote}
use Rattle.capi_give.specs.Given.{Given, number_in}

-- what is given is no part of the number
number_alone : {A : Type 0} (m : Answer A) → number_in m ≡ number_in (◌>>◌ {B = Unit {0}} m (gives tt))
number_alone (gives x) = refl
number_alone (refuses n) = refl

-- an answer that a refusal refuses says what it says anywhere
pub as_said : {A : Type 0} (r : Result A Refusal) → says_by number_of r ≡ says r
as_said (Ok x) = refl
as_said (Err e) = refl

module _ {A : Type 0} (n : ℕ) (m : Answer (List A)) (l : List A) where
  -- 32: nothing was touched
  pub short : length l < n → Given n m l l 32
  short h = record { number = rw (lt-ltb (length l) n h); lent = rw (lt-ltb (length l) n h) }

  -- refused by the record: nothing was touched
  pub refused : (k : ℕ) → n ≤ length l → m ≡ refuses k → Given n m l l k
  refused k h e = record { number = rw (le-ltb (length l) n h, e); lent = rw (le-ltb (length l) n h, e) }

  -- the record's bytes, and those beyond it as they were
  pub given_to : (b : List A) → n ≤ length l → m ≡ gives b → Given n m l (b ++ drop n l) 0
  given_to b h e = record { number = rw (le-ltb (length l) n h, e); lent = rw (le-ltb (length l) n h, e) }

  pub given_as : (b l' : List A) → n ≤ length l → m ≡ gives b → l' ≡ b ++ drop n l → Given n m l l' 0
  given_as b l' h e q = rw q (given_to b h e)

  -- a call that gave these bytes gave the record
  pub passed_on : (xs l' : List A) (r : ℕ) → length xs ≡ n → m ≡ gives xs → Given (length xs) (gives xs) l l' r → Given n m l l' r
  passed_on xs l' r e q g = rw (sym e, q) g

-- what a writer wrote, and its outcome as a number
pub handed_on : (n : ℕ) (m : Answer (List ℕ)) (l : List ℕ) {r s : Result (Unit {0}) Refusal} (l' : List ℕ) → Wrote n m l l' r → r ≡ s → Given n m l l' (number_in (says s))
handed_on n m l l' w e =
    record { number = ap (λ x. number_in (says x)) (sym e) ∙ ap number_in w.answer ∙ sym (number_alone (written n m l)); lent = w.bytes }
