-- Document 02, K6: source and divisor in lowest terms, the common divisor found by repeated remainder.
-- Assumes nothing.
use Rattle.std.specs.Prelude.{◌≡◌, cond, ℕ, zero, suc, ◌*◌, ◌/◌, ◌%◌, ◌<◌, eqb}
use Rattle.std.specs.Int.{◌∣◌}
use Rattle.fraction.specs.declared.Fraction.{Fraction}

-- a and b become b and the remainder of a by b, until the second number is 0; f times at most
unfoldable pub repeated : ℕ → ℕ → ℕ → ℕ
repeated zero a b = a
repeated (suc f) a zero = a
repeated (suc f) a (suc b) = repeated f (suc b) (a % suc b)

-- the greatest common divisor: the second number falls each time, so one time more than it says is enough
unfoldable pub gcd_of : ℕ → ℕ → ℕ
gcd_of a b = repeated (suc b) a b

-- 0 over 0: there is none
abbrev pub nothing : Fraction
nothing = record { source = 0; divisor = 0 }

-- a over b in lowest terms
unfoldable pub lowest_of : ℕ → ℕ → Fraction
lowest_of a b = cond (eqb b 0) nothing (record { source = a / gcd_of a b; divisor = b / gcd_of a b })

-- What these are, said without a way to find them; Laws.antt shows it.

-- g is the greatest common divisor of a and b: it divides both, and whatever divides both divides it
pub record IsGcd (a b g : ℕ) : Type 0 where
  pub left : g ∣ a
  pub right : g ∣ b
  pub most : (d : ℕ) → d ∣ a → d ∣ b → d ∣ g

-- x is a over b in lowest terms: the same fraction, its divisor is not 0, and 1 alone divides both of its numbers
pub record Lowest (a b : ℕ) (x : Fraction) : Type 0 where
  pub same : x.source * b ≡ a * x.divisor
  pub over : 0 < x.divisor
  pub least : (d : ℕ) → d ∣ x.source → d ∣ x.divisor → d ≡ 1

-- called with a and b, the recursion is over within k calls
unfoldable pub EndsWithin : ℕ → ℕ → ℕ → Type 0
EndsWithin zero a b = ⊥
EndsWithin (suc k) a zero = Unit {0}
EndsWithin (suc k) a (suc b) = EndsWithin k (suc b) (a % suc b)
