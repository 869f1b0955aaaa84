-- More of lists of tests: several tests of one number, tests that can't hold, and a value that is given in another form.
-- Assumes nothing.
use Rattle.std.specs.Prelude.{◌≡◌, refl, Bool, true, false, cond, ◌||◌, List, [], ◌∷◌, ℕ}
use Rattle.std.proofs.Common.{◌∙◌, ap}
use Rattle.answer.specs.Answer.{Answer, gives, refuses, ◌>>=◌}
use Rattle.answer.specs.Order.{Test, first_of, bare, InOrder, only}

-- two tests of one number, one behind the other, are either of them
pub order_either : {A : Type 0} {n : ℕ} {l : List Test} {m : Answer A} (a b : Bool) → InOrder ((n, a || b) ∷ l) m → InOrder ((n, a) ∷ (n, b) ∷ l) m
order_either true b h = record { goes = h.goes }
order_either false true h = record { goes = h.goes }
order_either false false h = record { goes = h.goes }

-- what follows a test, in another list
pub order_under : {A : Type 0} {n : ℕ} {l k : List Test} {m : Answer A} (test : Bool) → (InOrder l m → InOrder k m) → InOrder ((n, test) ∷ l) m →
    InOrder ((n, test) ∷ k) m
order_under true f h = record { goes = h.goes }
order_under false f h = record { goes = (f (record { goes = h.goes })).goes }

-- a test that doesn't hold
pub order_skip : {A : Type 0} {n : ℕ} {test : Bool} {l : List Test} {m : Answer A} → test ≡ false → InOrder ((n, test) ∷ l) m → InOrder l m
order_skip {n = n} {l = l} e h = record { goes = h.goes ∙ ap (λ (b : Bool). cond b (refuses n) (first_of l)) e }

pub order_not : {A : Type 0} {n : ℕ} {l : List Test} {m : Answer A} → InOrder l m → InOrder ((n, false) ∷ l) m
order_not h = record { goes = h.goes }

bare_map : {A B : Type 0} (f : A → B) (m : Answer A) → bare (◌>>=◌ m (λ a. gives (f a))) ≡ bare m
bare_map f (gives a) = refl
bare_map f (refuses n) = refl

-- what is given in another form goes by the same list
pub order_map : {A B : Type 0} {l : List Test} (f : A → B) (m : Answer A) → InOrder l m → InOrder l (◌>>=◌ m (λ a. gives (f a)))
order_map f m h = record { goes = bare_map f m ∙ h.goes }

-- the tests of a part that isn't there, and of one that is

pub only_none : (l : List Test) → first_of (only false l) ≡ gives tt
only_none [] = refl
only_none (t ∷ l) = only_none l

pub only_all : (l : List Test) → first_of (only true l) ≡ first_of l
only_all [] = refl
only_all ((n, true) ∷ l) = refl
only_all ((n, false) ∷ l) = only_all l
