-- Laws of fractions in lowest terms, over all numbers: what is found is right, it is the only right one, and it is found soon.
-- Assumes nothing.
use Rattle.std.specs.Prelude.{◌≡◌, refl, ℕ, zero, suc, ◌+◌, ◌-◌, ◌*◌, ◌/◌, ◌%◌, ◌^◌, ◌<◌, ◌≤◌}
use Rattle.std.proofs.Common.{sym, ap, ap₂, ◌∙◌, mod-lt, zero-lt-suc, not-suc-le-zero, mul_comm, mul_assoc, mul_left_comm, mul_right_comm, mul-add, mul-one, one-mul, zero-mul, pow-suc, arith, ne_eqb}
use Rattle.std.specs.Int.{◌∣◌}
use Rattle.std.proofs.Math.Nat.{dvd_refl, dvd-zero, dvd-mod_iff, dvd_antisymm, dvd-mul_left, dvd-mul_right_of_dvd, dvd-add_iff_left, pos_of_dvd_of_pos, eq-one_of_dvd-one, mul-dvd-mul_right, dvd_of_mul-dvd-mul_left, dvd_of_mul-dvd-mul_right, div-mul_cancel, mul-div-mul_right, mod-le, mod-add-div, mod-eq-sub-mod, eq_of_mul-eq-mul_right}
use Rattle.fraction.specs.declared.Fraction.{Fraction}
use Rattle.fraction.specs.Fraction.{repeated, gcd_of, nothing, lowest_of, IsGcd, Lowest, EndsWithin}

-- The greatest common divisor.

-- one call more than the second number says is enough, since it falls
enough : (k a b : ℕ) → b < k → EndsWithin k a b
unfolding EndsWithin
enough zero a b h = absurd (not-suc-le-zero h)
enough (suc k) a zero h = tt
enough (suc k) a (suc b) h = let m = mod-lt a (zero-lt-suc b) in enough k (suc b) (a % suc b) (omega arith)

-- more repeated than are needed change nothing
same_repeated : (k f a b : ℕ) → EndsWithin k a b → EndsWithin f a b → repeated k a b ≡ repeated f a b
unfolding repeated EndsWithin
same_repeated zero f a b h g = absurd h
same_repeated (suc k) zero a b h g = absurd g
same_repeated (suc k) (suc f) a zero h g = refl
same_repeated (suc k) (suc f) a (suc b) h g = same_repeated k f (suc b) (a % suc b) h g

-- where the recursion is over within k calls, k repeated find the greatest common divisor
pub ended : (k a b : ℕ) → EndsWithin k a b → repeated k a b ≡ gcd_of a b
unfolding gcd_of
ended k a b h = same_repeated k (suc b) a b h (enough (suc b) a b (omega arith))

pub gcd_zero : (a b : ℕ) → b ≡ 0 → gcd_of a b ≡ a
unfolding gcd_of repeated
gcd_zero a b e = ap (gcd_of a) e

pub gcd_step : (a b : ℕ) → 0 < b → gcd_of a b ≡ gcd_of b (a % b)
unfolding gcd_of repeated
gcd_step a zero h = absurd (not-suc-le-zero h)
gcd_step a (suc b) h = ended (suc b) (suc b) (a % suc b) (enough (suc b) (suc b) (a % suc b) (mod-lt a h))

repeated_is : (k a b : ℕ) → EndsWithin k a b → IsGcd a b (repeated k a b)
unfolding repeated EndsWithin
repeated_is zero a b h = absurd h
repeated_is (suc k) a zero h = record { left = dvd_refl a; right = dvd-zero a; most = λ d p q. p }
repeated_is (suc k) a (suc b) h =
    let r = repeated_is k (suc b) (a % suc b) h in
    record { left = (dvd-mod_iff _ r.left).0 r.right; right = r.left; most = λ d p q. r.most d q ((dvd-mod_iff d q).1 p) }

pub gcd_is : (a b : ℕ) → IsGcd a b (gcd_of a b)
unfolding gcd_of
gcd_is a b = repeated_is (suc b) a b (enough (suc b) a b (omega arith))

pub gcd_only : (a b g : ℕ) → IsGcd a b g → g ≡ gcd_of a b
gcd_only a b g h = let r = gcd_is a b in dvd_antisymm (r.most g h.left h.right) (h.most (gcd_of a b) r.left r.right)

pub gcd_pos : (a b : ℕ) → 0 < b → 0 < gcd_of a b
gcd_pos a b h = pos_of_dvd_of_pos (gcd_is a b).right h

-- Lowest terms.

-- both numbers divided by their greatest common divisor
divided : (a b g : ℕ) → 0 < b → IsGcd a b g → Lowest a b (record { source = a / g; divisor = b / g })
divided a b g h is =
    let x : ℕ = a / g in
    let y : ℕ = b / g in
    let ex : x * g ≡ a = div-mul_cancel g is.left in
    let ey : y * g ≡ b = div-mul_cancel g is.right in
    record {
      same = ap (λ (n : ℕ). x * n) (sym ey) ∙ rw (← mul_assoc x y g, mul_right_comm x y g) (ap (λ (n : ℕ). n * y) ex);
      over = positive y ey;
      least = λ d p q.
          eq-one_of_dvd-one (dvd_of_mul-dvd-mul_right d (pos_of_dvd_of_pos is.right h)
          (rw (one-mul g) (is.most (d * g) (rw ex at (mul-dvd-mul_right d p g)) (rw ey at (mul-dvd-mul_right d q g)))));
    }
  where
    positive : (y : ℕ) → y * g ≡ b → 0 < y
    positive zero e = let z = zero-mul g in omega arith
    positive (suc y) e = zero-lt-suc y

pub lowest_terms : (a b : ℕ) → 0 < b → Lowest a b (lowest_of a b)
unfolding lowest_of
lowest_terms a b h = rw (ne_eqb b 0 (λ e. omega arith)) (divided a b (gcd_of a b) h (gcd_is a b))

-- what divides z times a and z times b divides z times each remainder on the way

scaled_remainder : (k z a b : ℕ) → k ∣ z * a → k ∣ z * b → k ∣ z * (a % b)
scaled_remainder k z a b p q =
    let e : z * (a % b) + z * b * (a / b) ≡ z * a = rw (mul_assoc, ← mul-add, mod-add-div) in
    (dvd-add_iff_left k (dvd-mul_right_of_dvd k q (a / b))).1 (rw e p)

scaled_repeated : (k z f a b : ℕ) → k ∣ z * a → k ∣ z * b → k ∣ z * repeated f a b
unfolding repeated
scaled_repeated k z zero a b p q = p
scaled_repeated k z (suc f) a zero p q = p
scaled_repeated k z (suc f) a (suc b) p q = scaled_repeated k z f (suc b) (a % suc b) q (scaled_remainder k z a (suc b) p q)

-- so it divides z, if 1 alone divides a and b
scaled_one : (k z a b : ℕ) → ((d : ℕ) → d ∣ a → d ∣ b → d ≡ 1) → k ∣ z * a → k ∣ z * b → k ∣ z
unfolding gcd_of
scaled_one k z a b least p q =
    let one : gcd_of a b ≡ 1 = least (gcd_of a b) (gcd_is a b).left (gcd_is a b).right in
    rw (one, mul-one z) at (let r : k ∣ z * gcd_of a b = scaled_repeated k z (suc b) a b p q in r)

-- of two that are in lowest terms, the divisor of one divides that of the other
half : {a b : ℕ} {x y : Fraction} → 0 < b → Lowest a b x → Lowest a b y → x.divisor ∣ y.divisor
half {a} {b} {x} {y} h p q =
    let n = y.divisor in
    let e : b * (n * x.source) ≡ y.source * (b * x.divisor) =
    rw (mul_left_comm b n x.source, mul_comm b x.source, p.same, ← mul_assoc n a x.divisor, mul_comm n a, ← q.same, mul_assoc) in
    scaled_one x.divisor n x.source x.divisor p.least
    (dvd_of_mul-dvd-mul_left x.divisor h (rw e (dvd-mul_left (b * x.divisor) y.source))) (dvd-mul_left x.divisor n)

pub lowest_only : (a b : ℕ) → 0 < b → (x : Fraction) → Lowest a b x → x ≡ lowest_of a b
lowest_only a b h x p =
    let y : Fraction = lowest_of a b in
    let q : Lowest a b y = lowest_terms a b h in
    let divisors : x.divisor ≡ y.divisor = dvd_antisymm (half h p q) (half h q p) in
    let sources : x.source ≡ y.source = eq_of_mul-eq-mul_right b h x.source y.source (rw (p.same, q.same, divisors)) in
    ap₂ (λ (n m : ℕ). record { source = n; divisor = m }) sources divisors

-- rounded down, the fraction is the quotient
pub rounded : (a b : ℕ) → 0 < b → (lowest_of a b).source / (lowest_of a b).divisor ≡ a / b
rounded a b h =
    let x : Fraction = lowest_of a b in
    let p : Lowest a b x = lowest_terms a b h in
    rw (← mul-div-mul_right x.source x.divisor h, p.same, mul_comm x.divisor b) (mul-div-mul_right a b p.over)

-- the divisor is 0 in 0 over 0 alone, and that is where b is 0

pub nothing_at : (a : ℕ) → lowest_of a 0 ≡ nothing
unfolding lowest_of
nothing_at a = refl

pub nothing_only : (a b : ℕ) → (lowest_of a b).divisor ≡ 0 → b ≡ 0
nothing_only a zero e = refl
nothing_only a (suc b) e = absurd (let p = lowest_terms a (suc b) (zero-lt-suc b) in omega arith)

-- How many calls it takes.

-- the remainder of m by a number up to m is below half of m
below_half : (m r : ℕ) → 0 < r → r ≤ m → 2 * (m % r) < m
below_half m r h k = let e = mod-eq-sub-mod k in omega (arith, mod-lt m h, mod-le (m - r) r)

-- of two calls the second: the number that it hands on is below half of m
next_one : (n j m r : ℕ) → r ≤ m → m < 2 * n → ((a b : ℕ) → b < n → EndsWithin j a b) → EndsWithin (suc j) m r
unfolding EndsWithin
next_one n j m zero h g rest = tt
next_one n j m (suc r) h g rest = rest (suc r) (m % suc r) (omega (arith, below_half m (suc r) (zero-lt-suc r) h))

-- both: the second number of the call behind them is below half of b
next_two : (n j a b : ℕ) → b < 2 * n → ((c d : ℕ) → d < n → EndsWithin j c d) → EndsWithin (suc (suc j)) a b
unfolding EndsWithin
next_two n j a zero h rest = tt
next_two n j a (suc b) h rest = let m = mod-lt a (zero-lt-suc b) in next_one n j (suc b) (a % suc b) (omega arith) h rest

pub ends : (k a b : ℕ) → b < 2 ^ k → EndsWithin (2 * k + 1) a b
unfolding EndsWithin
ends zero a zero h = tt
ends zero a (suc b) h = absurd (omega arith)
ends (suc k) a b h =
    let e : suc (suc (2 * k + 1)) ≡ 2 * suc k + 1 = omega arith in
    rw e at (next_two (2 ^ k) (2 * k + 1) a b (omega (arith, pow-suc 2 k)) (ends k))

-- the ADC's divisor is at most 65,536
pub ends_adc : (a b : ℕ) → b ≤ 65536 → EndsWithin 35 a b
ends_adc a b h = ends 17 a b (omega arith)
