-- The first refusal in an order: a flat list of numbers, each with the test that asks for it. A call that goes by such a list refuses by the first
-- test that holds, and gives exactly where none does.
-- Assumes nothing.
use Rattle.std.specs.Prelude.{◌≡◌, refl, Bool, true, false, cond, ◌&&◌, List, [], ◌∷◌, ◌++◌, ℕ, zero, suc}
use Rattle.std.proofs.Common.{◌∙◌, sym, ap}
use Rattle.answer.specs.Answer.{Answer, gives, refuses, refuse, ◌>>=◌, ◌>>◌, gives_refuses, refuses_gives}

-- a refusal number, and whether its test holds
abbrev pub Test : Type 0
Test = ℕ × Bool

-- refused by the first of them that holds
abbrev pub first_of : List Test → Answer (Unit {0})
first_of [] = gives tt
first_of (t ∷ l) = cond t.1 (refuses t.0) (first_of l)

-- an answer without its values: that it gives, or its number
abbrev pub bare : {A : Type 0} → Answer A → Answer (Unit {0})
bare (gives x) = gives tt
bare (refuses n) = refuses n

-- The answer goes by the list. A record, so that proofs are found along its shape.
pub record InOrder {A : Type 0} (l : List Test) (m : Answer A) : Type 0 where
  pub goes : bare m ≡ first_of l

-- the tests of a part that is there only where b holds
abbrev pub only : Bool → List Test → List Test
only b [] = []
only b (t ∷ l) = (t.0, b && t.1) ∷ only b l

-- How a `do` block has the order of its parts. What follows a part is looked at only where the part gives.

pub order_gives : {A : Type 0} {x : A} → InOrder [] (gives x)
order_gives = record { goes = refl }

pub order_refuse : (n : ℕ) (test : Bool) → InOrder ((n, test) ∷ []) (refuse n test)
order_refuse n true = record { goes = refl }
order_refuse n false = record { goes = refl }

pub order_past : {B : Type 0} {m : Answer B} {l : List Test} (n : ℕ) (test : Bool) → (test ≡ false → InOrder l m) →
    InOrder ((n, test) ∷ l) (◌>>◌ (refuse n test) m)
order_past n true h = record { goes = refl }
order_past n false h = record { goes = (h refl).goes }

none_first : (l k : List Test) → first_of l ≡ gives tt → first_of (l ++ k) ≡ first_of k
none_first [] k e = refl
none_first ((n, true) ∷ l) k e = refuses_gives e
none_first ((n, false) ∷ l) k e = none_first l k e

some_first : {n : ℕ} (l k : List Test) → first_of l ≡ refuses n → first_of (l ++ k) ≡ refuses n
some_first [] k e = gives_refuses e
some_first ((n, true) ∷ l) k e = e
some_first ((n, false) ∷ l) k e = some_first l k e

pub order_bind : {A B : Type 0} {l k : List Test} (m : Answer A) {f : A → Answer B} → InOrder l m → ((a : A) → m ≡ gives a → InOrder k (f a)) →
    InOrder (l ++ k) (◌>>=◌ m f)
order_bind {l = l} {k = k} (gives a) h g = record { goes = (g a refl).goes ∙ sym (none_first l k (sym h.goes)) }
order_bind {l = l} {k = k} (refuses n) h g = record { goes = sym (some_first l k (sym h.goes)) }

pub order_then : {A B : Type 0} {l k : List Test} (m : Answer A) {p : Answer B} → InOrder l m → ((a : A) → m ≡ gives a → InOrder k p) →
    InOrder (l ++ k) (◌>>◌ m p)
order_then {l = l} {k = k} (gives a) h g = record { goes = (g a refl).goes ∙ sym (none_first l k (sym h.goes)) }
order_then {l = l} {k = k} (refuses n) h g = record { goes = sym (some_first l k (sym h.goes)) }

-- the tests of what follows a part, over what the part gives
abbrev pub behind : {A : Type 0} → Answer A → (A → List Test) → List Test
behind (gives a) tests = tests a
behind (refuses n) tests = []

pub order_behind : {A B : Type 0} {l : List Test} {k : A → List Test} (m : Answer A) {f : A → Answer B} → InOrder l m → ((a : A) → InOrder (k a) (f a)) →
    InOrder (l ++ behind m k) (◌>>=◌ m f)
order_behind {l = l} {k = k} (gives a) h g = record { goes = (g a).goes ∙ sym (none_first l (k a) (sym h.goes)) }
order_behind {l = l} (refuses n) h g = record { goes = sym (some_first l [] (sym h.goes)) }

-- Where later tests speak of what an earlier part gives: m refuses by the first of them that holds, and else gives v.
pub record OrElse {A : Type 0} (l : List Test) (v : A) (m : Answer A) : Type 0 where
  pub is : m ≡ (◌>>◌ (first_of l) (gives v))

pub else_gives : {A : Type 0} {v : A} → OrElse [] v (gives v)
else_gives = record { is = refl }

pub else_known : {A : Type 0} {a v : A} → a ≡ v → OrElse [] v (gives a)
else_known e = record { is = ap gives e }

-- a test that can't hold
pub else_not : {A : Type 0} {v : A} {n : ℕ} {l : List Test} {m : Answer A} → OrElse l v m → OrElse ((n, false) ∷ l) v m
else_not h = record { is = h.is }

-- one that is known not to hold
pub else_skip : {A : Type 0} {v : A} {n : ℕ} {test : Bool} {l : List Test} {m : Answer A} → OrElse ((n, test) ∷ l) v m → test ≡ false → OrElse l v m
else_skip {v = v} {n = n} {l = l} h e = record { is = h.is ∙ ap (λ b. ◌>>◌ (cond b (refuses n) (first_of l)) (gives v)) e }

-- one that can't hold where the one before it doesn't
pub else_drop : {A : Type 0} {v : A} {i n : ℕ} {a b : Bool} {l : List Test} {m : Answer A} → OrElse ((i, a) ∷ (n, b) ∷ l) v m →
    (a ≡ false → b ≡ false) → OrElse ((i, a) ∷ l) v m
else_drop {a = true} h e = record { is = h.is }
else_drop {a = false} h e = else_not (else_skip (record { is = h.is }) (e refl))

pub else_refuse : (n : ℕ) (test : Bool) → OrElse ((n, test) ∷ []) tt (refuse n test)
else_refuse n true = record { is = refl }
else_refuse n false = record { is = refl }

pub else_past : {B : Type 0} {v : B} {m : Answer B} {l : List Test} (n : ℕ) (test : Bool) → (test ≡ false → OrElse l v m) →
    OrElse ((n, test) ∷ l) v (◌>>◌ (refuse n test) m)
else_past n true h = record { is = refl }
else_past n false h = record { is = (h refl).is }

-- whether the test at place i holds
abbrev pub holds : List Test → ℕ → Bool
holds [] i = false
holds (t ∷ l) zero = t.1
holds (t ∷ l) (suc i) = holds l i

-- where none is first, none holds
pub none_holds : (l : List Test) → first_of l ≡ gives tt → (i : ℕ) → holds l i ≡ false
none_holds [] e i = refl
none_holds ((n, true) ∷ l) e i = refuses_gives e
none_holds ((n, false) ∷ l) e zero = refl
none_holds ((n, false) ∷ l) e (suc i) = none_holds l e i

-- a test that is alone in its list, and didn't hold
pub failed : (n : ℕ) (test : Bool) → first_of ((n, test) ∷ []) ≡ gives tt → test ≡ false
failed n true e = refuses_gives e
failed n false e = refl

first_then : {B : Type 0} (l k : List Test) (w : B) → ◌>>◌ (first_of (l ++ k)) (gives w) ≡ ◌>>◌ (first_of l) (◌>>◌ (first_of k) (gives w))
first_then [] k w = refl
first_then ((n, true) ∷ l) k w = refl
first_then ((n, false) ∷ l) k w = first_then l k w

where_none : {B : Type 0} (p : Answer (Unit {0})) {x y : Answer B} → (p ≡ gives tt → x ≡ y) → ◌>>◌ p x ≡ ◌>>◌ p y
where_none (gives u) e = e refl
where_none (refuses n) e = refl

then_then : {A B : Type 0} (p : Answer (Unit {0})) (v : A) (m : Answer B) → ◌>>◌ (◌>>◌ p (gives v)) m ≡ ◌>>◌ p m
then_then (gives x) v m = refl
then_then (refuses n) v m = refl

pub else_then : {A B : Type 0} {l k : List Test} {v : A} {w : B} {m : Answer A} {p : Answer B} → OrElse l v m → (first_of l ≡ gives tt → OrElse k w p) →
    OrElse (l ++ k) w (◌>>◌ m p)
else_then {l = l} {k} {v} {w} {m} {p} h g =
    record { is = ap (λ x. ◌>>◌ x p) h.is ∙ then_then (first_of l) v p ∙ where_none (first_of l) (λ e. (g e).is) ∙ sym (first_then l k w) }

then_bind : {A B : Type 0} (p : Answer (Unit {0})) (v : A) (f : A → Answer B) → ◌>>=◌ (◌>>◌ p (gives v)) f ≡ ◌>>◌ p (f v)
then_bind (gives x) v f = refl
then_bind (refuses n) v f = refl

pub else_bind : {A B : Type 0} {l k : List Test} {v : A} {w : B} {m : Answer A} {f : A → Answer B} → OrElse l v m →
    ((a : A) → a ≡ v → OrElse k w (f a)) → OrElse (l ++ k) w (◌>>=◌ m f)
else_bind {l = l} {k} {v} {w} {m} {f} h g =
    record { is = ap (λ x. ◌>>=◌ x f) h.is ∙ then_bind (first_of l) v f ∙ ap (λ x. ◌>>◌ (first_of l) x) (g v refl).is ∙ sym (first_then l k w) }

-- the same, where what follows is looked at only if none of the tests before it holds
pub else_where : {A B : Type 0} {l k : List Test} {v : A} {w : B} {m : Answer A} {f : A → Answer B} → OrElse l v m →
    ((a : A) → a ≡ v → first_of l ≡ gives tt → OrElse k w (f a)) → OrElse (l ++ k) w (◌>>=◌ m f)
else_where {l = l} {k} {v} {w} {m} {f} h g =
    record { is = ap (λ x. ◌>>=◌ x f) h.is ∙ then_bind (first_of l) v f ∙ where_none (first_of l) (λ e. (g v refl e).is) ∙ sym (first_then l k w) }

then_order : {B : Type 0} (l k : List Test) {m : Answer B} → InOrder k m → bare (◌>>◌ (first_of l) m) ≡ first_of (l ++ k)
then_order [] k h = h.goes
then_order ((n, true) ∷ l) k h = refl
then_order ((n, false) ∷ l) k h = then_order l k h

-- and what follows it is looked at with that value
pub order_else : {A B : Type 0} {l k : List Test} {v : A} {m : Answer A} {f : A → Answer B} → OrElse l v m →
    ((a : A) → a ≡ v → InOrder k (f a)) → InOrder (l ++ k) (◌>>=◌ m f)
order_else {l = l} {k} {v} {m} {f} h g =
    record { goes = ap (λ x. bare (◌>>=◌ x f)) h.is ∙ ap bare (then_bind (first_of l) v f) ∙ then_order l k (g v refl) }

-- the list alone
pub else_order : {A : Type 0} {v : A} {l : List Test} {m : Answer A} → OrElse l v m → InOrder l m
else_order {v = v} {l} h = record { goes = ap bare h.is ∙ plain (first_of l) }
  where
    plain : (p : Answer (Unit {0})) → bare (◌>>◌ p (gives v)) ≡ p
    plain (gives x) = refl
    plain (refuses n) = refl
