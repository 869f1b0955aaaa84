-- What follows of a number in decimal: it spells the number and has no leading zero.
-- Assumes nothing.
use Rattle.std.specs.Prelude.{◌≡◌, refl, Bool, true, false, cond, List, [], ◌∷◌, ◌++◌, ℕ, zero, suc, ◌+◌, ◌-◌, ◌*◌, ◌/◌, ◌%◌, ◌^◌, ◌<◌, ◌≤◌, ltb, length, get_or}
use Rattle.std.proofs.Common.{ap, pow-suc, not-suc-le-zero, arith, ltb-true, ltb-false, lt-ltb, le-ltb, length-append}
use Rattle.std.proofs.Math.ListN.{get_or-append}
use Rattle.text.specs.Decimal.{digits, decimal}

-- ---- the definition as two equations

same : (t : Bool) (xs ys : List ℕ) → (t ≡ false → xs ≡ ys) → cond t [] xs ≡ cond t [] ys
same true xs ys h = refl
same false xs ys h = h refl

-- any bound that is large enough
enough : (j k n : ℕ) → n < j → n < k → digits j n ≡ digits k n
unfolding digits
enough zero k n h g = absurd (not-suc-le-zero h)
enough (suc j) zero n h g = absurd (not-suc-le-zero g)
enough (suc j) (suc k) n h g =
    ap (λ (l : List ℕ). l ++ ((48 + n % 10) ∷ []))
    (same (ltb n 10) (digits j (n / 10)) (digits k (n / 10)) (λ e. let o = ltb-false n 10 e in enough j k (n / 10) (omega arith) (omega arith)))

pub one_digit : (n : ℕ) → n < 10 → decimal n ≡ (48 + n % 10) ∷ []
unfolding decimal digits
one_digit n h = rw (lt-ltb n 10 h)

pub more_digits : (n : ℕ) → 10 ≤ n → decimal n ≡ decimal (n / 10) ++ ((48 + n % 10) ∷ [])
unfolding decimal digits
more_digits n h = rw (le-ltb n 10 h) (ap (λ (l : List ℕ). l ++ ((48 + n % 10) ∷ [])) (enough n (suc (n / 10)) (n / 10) (omega arith) (omega arith)))

-- for a number of at most k digits k is bound enough
bounded : (j k n : ℕ) → n < j → n < 10 ^ suc k → digits j n ≡ digits (suc k) n
unfolding digits
bounded zero k n h g = absurd (not-suc-le-zero h)
bounded (suc j) zero n h g =
    ap (λ (l : List ℕ). l ++ ((48 + n % 10) ∷ []))
    (same (ltb n 10) (digits j (n / 10)) [] (λ e. let o = ltb-false n 10 e in absurd (omega (arith, pow-suc 10 0))))
bounded (suc j) (suc k) n h g =
    ap (λ (l : List ℕ). l ++ ((48 + n % 10) ∷ []))
    (same (ltb n 10) (digits j (n / 10)) (digits (suc k) (n / 10))
    (λ e. let o = ltb-false n 10 e in bounded j k (n / 10) (omega arith) (omega (arith, pow-suc 10 (suc k)))))

pub in_ten_digits : (n : ℕ) → n < 10 ^ 10 → decimal n ≡ digits 10 n
unfolding decimal
in_ten_digits n h = bounded (suc n) 9 n (omega arith) h

-- by the last digit: a fact of a number below ten, and one that goes over from n / 10 to n
by_last : (P : ℕ → Type 0) → ((n : ℕ) → n < 10 → P n) → ((n : ℕ) → 10 ≤ n → P (n / 10) → P n) → (n : ℕ) → P n
by_last P one more n = below (suc n) n (omega arith)
  where
    step : (k n : ℕ) → ((m : ℕ) → m < k → P m) → n < suc k → (t : Bool) → ltb n 10 ≡ t → P n
    step k n rest h true e = one n (ltb-true n 10 e)
    step k n rest h false e = let o = ltb-false n 10 e in more n o (rest (n / 10) (omega arith))

    below : (k n : ℕ) → n < k → P n
    below zero n h = absurd (not-suc-le-zero h)
    below (suc k) n h = step k n (below k) h (ltb n 10) refl

-- ---- how many digits there are

at_most : (k n : ℕ) → n < 10 ^ suc k → length (decimal n) ≤ suc k
at_most zero n h = rw (one_digit n (omega (arith, pow-suc 10 0))) (omega arith)
at_most (suc k) n h = by_size (at_most k (n / 10)) (ltb n 10) refl
  where
    by_size : (n / 10 < 10 ^ suc k → length (decimal (n / 10)) ≤ suc k) → (t : Bool) → ltb n 10 ≡ t → length (decimal n) ≤ suc (suc k)
    by_size rest true e = rw (one_digit n (ltb-true n 10 e)) (omega arith)
    by_size rest false e =
        let l = rest (omega (arith, pow-suc 10 (suc k))) in
        rw (more_digits n (ltb-false n 10 e), length-append) (omega arith)

pub ten_digits : (n : ℕ) → n < 2 ^ 32 → length (decimal n) ≤ 10
ten_digits n h = at_most 9 n (omega arith)

-- ---- what the text spells

-- the number that digits spell after v
abbrev spelt : ℕ → List ℕ → ℕ
spelt v [] = v
spelt v (x ∷ xs) = spelt (v * 10 + (x - 48)) xs

one_more : (v d : ℕ) (xs : List ℕ) → spelt v (xs ++ ((48 + d) ∷ [])) ≡ spelt v xs * 10 + d
one_more v d [] = omega arith
one_more v d (x ∷ xs) = one_more (v * 10 + (x - 48)) d xs

-- the text of n spells n
pub spells : (n : ℕ) → spelt 0 (decimal n) ≡ n
spells = by_last (λ n. spelt 0 (decimal n) ≡ n) one more
  where
    one : (n : ℕ) → n < 10 → spelt 0 (decimal n) ≡ n
    one n h = rw (one_digit n h) (omega arith)

    more : (n : ℕ) → 10 ≤ n → spelt 0 (decimal (n / 10)) ≡ n / 10 → spelt 0 (decimal n) ≡ n
    more n h e = rw (more_digits n h, one_more 0 (n % 10) (decimal (n / 10)), e) (omega arith)

some : (n : ℕ) → 0 < length (decimal n)
some = by_last (λ n. 0 < length (decimal n)) (λ n h. rw (one_digit n h) (omega arith)) (λ n h e. rw (more_digits n h, length-append) (omega arith))

-- and begins with a zero only where n is 0
pub no_leading_zero : (n : ℕ) → 0 < n → 48 < get_or (decimal n) 0 0
no_leading_zero = by_last (λ n. 0 < n → 48 < get_or (decimal n) 0 0) one more
  where
    one : (n : ℕ) → n < 10 → 0 < n → 48 < get_or (decimal n) 0 0
    one n h p = rw (one_digit n h) (omega arith)

    more : (n : ℕ) → 10 ≤ n → (0 < n / 10 → 48 < get_or (decimal (n / 10)) 0 0) → 0 < n → 48 < get_or (decimal n) 0 0
    more n h e p = rw (more_digits n h, get_or-append (decimal (n / 10)) ((48 + n % 10) ∷ []) 0 0 (some (n / 10))) (e (omega arith))
