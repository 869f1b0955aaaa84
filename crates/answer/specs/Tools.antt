-- Laws of tests, choices and impossible equations that proofs of many crates use. Those of answers are in Answer.antt.
-- Assumes nothing.
use Rattle.std.specs.Prelude.{◌≡◌, refl, Bool, true, false, cond, ◌&&◌, ◌||◌, ℕ}
use Rattle.std.proofs.Common.{sym, arith}

-- What can't be, and whatever follows from it.

pub true_false : {P : Type 0} → true ≡ false → P
true_false e = absurd (let z : ◌≡◌ {A = ℕ} 0 1 = cc in omega arith)

pub false_true : {P : Type 0} → false ≡ true → P
false_true e = true_false (sym e)

-- Cases of a test.

pub cases : {P : Type 0} (b : Bool) → (b ≡ true → P) → (b ≡ false → P) → P
cases true h k = h refl
cases false h k = k refl

pub by_cond : {A : Type 0} (P : A → Type 0) (b : Bool) (x y : A) → (b ≡ true → P x) → (b ≡ false → P y) → P (cond b x y)
by_cond P true x y h k = h refl
by_cond P false x y h k = k refl

-- Two tests, joined by `&&` or `||`.

pub and_left : (a b : Bool) → (a && b) ≡ true → a ≡ true
and_left true b e = refl
and_left false b e = e

pub and_right : (a b : Bool) → (a && b) ≡ true → b ≡ true
and_right true b e = e
and_right false b e = false_true e

pub and_both : {a b : Bool} → a ≡ true → b ≡ true → (a && b) ≡ true
and_both h k = rw (h, k)

-- of two that don't both hold, one holds
pub and_other : (a b : Bool) → (a && b) ≡ false → a ≡ true → b ≡ false
and_other true b e h = e
and_other false b e h = false_true h

pub neither : (a b : Bool) → (a || b) ≡ false → (a ≡ false) × (b ≡ false)
neither true b e = true_false e
neither false b e = (refl, e)

-- what follows from each follows from either
pub either : {P : Type 0} (a b : Bool) → (a ≡ true → P) → (b ≡ true → P) → (a || b) ≡ true → P
either true b h k e = h refl
either false b h k e = k e
