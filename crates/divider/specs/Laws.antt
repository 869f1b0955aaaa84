-- Laws of the divisors, shown once over family and code. Callers use them in place of the tables.
-- Assumes nothing.
use Rattle.std.specs.Prelude.{◌≡◌, refl, Bool, cond, List, [], ◌∷◌, ℕ, ◌<◌, ◌≤◌, ◌-◌, ◌*◌, ◌/◌, ◌%◌, ◌^◌, T, leb, eqb, get_or, length}
use Rattle.std.proofs.Common.{ap, arith, mul-le-mul_right, le_trans, leb-false, leb→le, eqb→eq}
use Rattle.std.proofs.Math.Nat.{mul-div-le}
use Rattle.answer.specs.Answer.{Answer, gives, refuses, ◌>>=◌}
use Rattle.answer.specs.Each.{Each, each_gives, each_past, each_bind, each_at}
use Rattle.answer.specs.Order.{OrElse, else_gives, else_known, else_past, else_bind}
use Rattle.divider.specs.declared.Family.{Family}
use Rattle.divider.specs.declared.Family.TheVariants.{V4x7, V1, V30x, H4}
use Rattle.divider.specs.Divide.{ahb_divisor, ahb_divisors, apb_divisor, fpre_divisor, ahb_of, apb_of, by_ahb_of, by_apb_of, apb_quotient_of}
use Rattle.divider.specs.Table.{both, both_left, both_right, every, at}
use Rattle.divider.specs.Facts.{Between}
use Rattle.divider.specs.declared.Frequency.{Frequency}
use Rattle.divider.specs.Frequency.{over}

-- s is the shift that divides by d
pub record ShiftFor (d s : ℕ) : Type 0 where
  pub power : 2 ^ s ≡ d
  pub small : s < 10

within : ℕ → ℕ → ℕ → Bool
within top k d = both (leb 1 d) (leb d top)

entry : (top : ℕ) (row : List ℕ) → T (every (within top) 0 row) → (c : ℕ) → c < length row → Between top (get_or row c 0)
unfolding within
entry top row t c h =
    let d : ℕ = get_or row c 0 in
    let passes : T (both (leb 1 d) (leb d top)) = at (within top) row t c h in
    record {
      low = leb→le 1 d (both_left (leb 1 d) (leb d top) passes);
      high = leb→le d top (both_right (leb 1 d) (leb d top) passes);
    }

pub ahb_between : (f : Family) (c : ℕ) → c < 16 → Between 512 (ahb_divisor f c)
unfolding within ahb_divisor ahb_divisors
ahb_between V4x7 = entry 512 (ahb_divisors V4x7) tt
ahb_between V1 = entry 512 (ahb_divisors V1) tt
ahb_between V30x = entry 512 (ahb_divisors V30x) tt
ahb_between H4 = entry 512 (ahb_divisors H4) tt

-- by which power of two a code divides, as the Rust has it for H4 (`ahb_hz`): code - 6 from 12 on, else code - 7, a subtraction that stops at 0
abbrev pub ahb_power : ℕ → ℕ
ahb_power c = cond (leb 12 c) (c - 6) (c - 7)

is_power : ℕ → ℕ → Bool
is_power c d = eqb d (2 ^ ahb_power c)

power_at : (row : List ℕ) → T (every is_power 0 row) → (c : ℕ) → c < length row → get_or row c 0 ≡ 2 ^ ahb_power c
unfolding is_power
power_at row t c h = eqb→eq (get_or row c 0) (2 ^ ahb_power c) (at is_power row t c h)

-- every family skips 32 (document 02, K4)
pub ahb_power_lem : (f : Family) (c : ℕ) → c < 16 → ahb_divisor f c ≡ 2 ^ ahb_power c
unfolding is_power ahb_divisor ahb_divisors
ahb_power_lem V4x7 = power_at (ahb_divisors V4x7) tt
ahb_power_lem V1 = power_at (ahb_divisors V1) tt
ahb_power_lem V30x = power_at (ahb_divisors V30x) tt
ahb_power_lem H4 = power_at (ahb_divisors H4) tt

pub apb_between : (c : ℕ) → c < 8 → Between 16 (apb_divisor c)
unfolding within apb_divisor
apb_between = entry 16 (1 ∷ 1 ∷ 1 ∷ 1 ∷ 2 ∷ 4 ∷ 8 ∷ 16 ∷ []) tt

pub fpre_between : (c : ℕ) → Between 4 (fpre_divisor c)
unfolding within fpre_divisor
fpre_between c = entry 4 (1 ∷ 2 ∷ 4 ∷ 4 ∷ []) tt (c % 4) (omega arith)

-- what a code gives is a divisor

pub ahb_each : (f : Family) (c : ℕ) → Each (Between 512) (ahb_of f c)
unfolding ahb_of
ahb_each f c = each_past 28 (leb 16 c) (λ e. each_gives (ahb_between f c (leb-false 16 c e)))

pub apb_each : (c : ℕ) → Each (Between 16) (apb_of c)
unfolding apb_of
apb_each c = each_past 28 (leb 8 c) (λ e. each_gives (apb_between c (leb-false 8 c e)))

pub ahb_given : (f : Family) (c : ℕ) {d : ℕ} → ahb_of f c ≡ gives d → Between 512 d
ahb_given f c = each_at (ahb_each f c)

pub apb_given : (c : ℕ) {d : ℕ} → apb_of c ≡ gives d → Between 16 d
apb_given c = each_at (apb_each c)

-- a code's divisor by the list of its refusals: too wide, else the table's
pub ahb_else : (f : Family) (c : ℕ) → OrElse ((28, leb 16 c) ∷ []) (ahb_divisor f c) (ahb_of f c)
unfolding ahb_of
ahb_else f c = else_past 28 (leb 16 c) (λ e. else_gives)

pub apb_else : (c : ℕ) → OrElse ((28, leb 8 c) ∷ []) (apb_divisor c) (apb_of c)
unfolding apb_of
apb_else c = else_past 28 (leb 8 c) (λ e. else_gives)

pub by_ahb_else : (f : Family) (x : Frequency) (c : ℕ) → OrElse ((28, leb 16 c) ∷ []) (over x (ahb_divisor f c)) (by_ahb_of f x c)
unfolding by_ahb_of
by_ahb_else f x c = else_bind (ahb_else f c) (λ d e. else_known (ap (over x) e))

pub by_apb_else : (x : Frequency) (c : ℕ) → OrElse ((28, leb 8 c) ∷ []) (over x (apb_divisor c)) (by_apb_of x c)
unfolding by_apb_of
by_apb_else x c = else_bind (apb_else c) (λ d e. else_known (ap (over x) e))

pub apb_quotient_else : (x : Frequency) (c : ℕ) → OrElse ((28, leb 8 c) ∷ []) (apb_divisor c, over x (apb_divisor c)) (apb_quotient_of x c)
unfolding apb_quotient_of
apb_quotient_else x c = else_bind (apb_else c) (λ d e. else_known (ap (λ (n : ℕ). (n, over x n)) e))

-- an APB quotient is the same with its divisor and without
alike : (x : Frequency) (m : Answer ℕ) →
    (◌>>=◌ m (λ d. gives (over x d))) ≡ (◌>>=◌ (◌>>=◌ m (λ d. gives (d, over x d))) (λ (q : ℕ × Frequency). gives q.1))
alike x (gives d) = refl
alike x (refuses n) = refl

pub by_apb_quotient : (x : Frequency) (c : ℕ) → by_apb_of x c ≡ (◌>>=◌ (apb_quotient_of x c) (λ (q : ℕ × Frequency). gives q.1))
unfolding by_apb_of apb_quotient_of
by_apb_quotient x c = alike x (apb_of c)

-- where the divisor isn't 1, twice the quotient is at most what was divided
twice : (x : Frequency) (c : ℕ) → Each (λ (q : ℕ × Frequency). (q.0 ≡ 1 → ⊥) → 2 * q.1.hz ≤ x.hz) (apb_quotient_of x c)
unfolding apb_quotient_of over
twice x c =
    each_bind (apb_each c) (λ d h. each_gives (λ more.
    le_trans (mul-le-mul_right (x.hz / d) (omega (arith, more, h.low))) (mul-div-le x.hz d)))

pub quotient_twice : (x : Frequency) (c : ℕ) {d : ℕ} {q : Frequency} → apb_quotient_of x c ≡ gives (d, q) → (d ≡ 1 → ⊥) → 2 * q.hz ≤ x.hz
quotient_twice x c = each_at (twice x c)
