-- The theorems on what specs/Laws.antt defines. Assumes nothing.
use Rattle.std.specs.Prelude.{◌≡◌, refl, Bool, true, false, cond, ◌||◌, ◌↔◌, ℕ, zero, suc, ◌+◌, ◌-◌, ◌*◌, ◌/◌, ◌^◌, ◌<◌, ◌≤◌, ltb, eqb}
use Rattle.std.proofs.Common.{sym, ap, subst, ◌∙◌, mul-le-mul, le_refl, le_antisymm, mul-suc, mul-add, mul-one, mul_assoc, mul_comm, arith, ltb-true, ltb-false}
use Rattle.std.specs.Int.{◌∣◌}
use Rattle.std.proofs.Math.Nat.{mul-div-le, lt-mul-div-succ, dvd-mul_right, div-mul_cancel}
use lib.IntN.{ℤ, pos, negsuc, ◌+ℤ◌, ◌-ℤ◌, +ℤ_invr, -ℤ-+ℤ_cancel}
use Rattle.std.specs.Int.Signed.{mag}
use Rattle.answer.specs.Answer.{gives, passed, same_given}
use Rattle.answer.specs.Tools.{cases}
use Rattle.serial.specs.Serial.{nearest_of, error_of, divisor_of}
use Rattle.serial.proofs.Order.{positive}
use Rattle.serial.specs.Laws.{Near, Nearest, Sets, apart}

-- there is only one such number
pub nearest_settled : {p r a b : ℕ} → Nearest p r a → Nearest p r b → a ≡ b
nearest_settled {a = a} {b = b} v w =
    let same = le_antisymm (v.none_nearer b) (w.none_nearer a) in
    le_antisymm (w.the_higher a same) (v.the_higher b (sym same))

pub near : (p r : ℕ) → 0 < r → Near p r (r * nearest_of p r)
unfolding nearest_of
near p r h =
    let n : ℕ = (2 * p + r) / (2 * r) in
    let low : 2 * r * n ≤ 2 * p + r = mul-div-le (2 * p + r) (2 * r) in
    let high : 2 * p + r < 2 * r * (n + 1) = lt-mul-div-succ (2 * p + r) (omega arith) in
    let e : 2 * r * n ≡ 2 * (r * n) = mul_assoc 2 r n in
    let f : 2 * r * (n + 1) ≡ 2 * r * n + 2 * r = mul-add (2 * r) n 1 ∙ ap (λ (k : ℕ). 2 * r * n + k) (mul-one (2 * r)) in
    record { above = omega arith; below = omega arith }

-- a smaller and a larger factor
farther : (r a b : ℕ) → a < b → r * a + r ≤ r * b
farther r a b h = let e : r * suc a ≤ r * b = mul-le-mul (le_refl r) h in omega (arith, mul-suc r a)

pub nearest : (p r : ℕ) → 0 < r → Nearest p r (nearest_of p r)
nearest p r h = record { none_nearer = λ m. by_side m; the_higher = λ m e. not_above m e }
  where
    at : Near p r (r * nearest_of p r)
    at = near p r h

    higher : (m : ℕ) → nearest_of p r < m → apart p (r * nearest_of p r) < apart p (r * m)
    higher m g = omega (arith, at.above, at.below, farther r (nearest_of p r) m g)

    lower : (m : ℕ) → m < nearest_of p r → apart p (r * nearest_of p r) ≤ apart p (r * m)
    lower m g = omega (arith, at.above, at.below, farther r m (nearest_of p r) g)

    by_side : (m : ℕ) → apart p (r * nearest_of p r) ≤ apart p (r * m)
    by_side m =
        cases (ltb m (nearest_of p r)) (λ e. lower m (ltb-true m (nearest_of p r) e))
        (λ e. cases (ltb (nearest_of p r) m) (λ f. omega (arith, higher m (ltb-true (nearest_of p r) m f)))
        (λ f. rw (le_antisymm (ltb-false m (nearest_of p r) e) (ltb-false (nearest_of p r) m f)) (le_refl _)))

    not_above : (m : ℕ) → apart p (r * m) ≡ apart p (r * nearest_of p r) → m ≤ nearest_of p r
    not_above m e =
        cases (ltb (nearest_of p r) m) (λ f. absurd (omega (arith, e, higher m (ltb-true (nearest_of p r) m f)))) (λ f. ltb-false (nearest_of p r) m f)

-- the error is 0 exactly if the rate divides PCLK

by_sign : (a b x y : ℕ) (t : Bool) → ltb a b ≡ t → y ≡ a - b → cond t (negsuc x) (pos y) ≡ pos 0 → a ≡ b
by_sign a b x y true e ey z = absurd (lib.IntN.pos-ne-negsuc 0 x (sym z))
by_sign a b x y false e ey z = let o = ltb-false a b e in let y0 : y ≡ 0 = cc in omega arith

difference_zero : (a b : ℕ) → pos a -ℤ pos b ≡ pos 0 → a ≡ b
difference_zero a zero z = let e : a + 0 ≡ 0 = cc in omega arith
difference_zero a (suc b) z = by_sign a (suc b) (suc b - suc a) (a - suc b) (ltb a (suc b)) refl refl z

exact : (p r : ℕ) → 0 < r → r ∣ p → r * nearest_of p r ≡ p
exact p r h d =
    let e : r * (p / r) ≡ p = mul_comm r (p / r) ∙ div-mul_cancel r d in
    omega (arith, rw e at ((nearest p r h).none_nearer (p / r)))

pub zero_error : (p r : ℕ) → 0 < r → (error_of p r (nearest_of p r) ≡ pos 0) ↔ (r ∣ p)
zero_error p r h = (
  (λ z. rw (difference_zero p (r * nearest_of p r) z) (dvd-mul_right r (nearest_of p r))),
  (λ d. ap (λ (m : ℕ). pos p -ℤ pos m) (exact p r h d) ∙ +ℤ_invr (pos p)),
)

pub given : (p r : ℕ) {brr : ℕ} {error : ℤ} → divisor_of p r ≡ gives (brr, error) → Sets p r brr error
unfolding divisor_of
given p r e =
    let rate = passed _ (eqb r 0) _ e in
    let range = passed _ (ltb (nearest_of p r) 16 || ltb 65535 (nearest_of p r)) _ rate.after in
    let h = positive r rate.failed in
    subst (λ (x : ℕ × ℤ). Sets p r x.0 x.1) (same_given range.after) (record {
      is_nearest = nearest p r h;
      reaches = -ℤ-+ℤ_cancel (pos p) (pos (r * nearest_of p r));
      zero_exactly = zero_error p r h;
    })

-- an error has room in 32 bits with their sign: it is at most half of the rate

by_half : (b : Bool) (x y n : ℕ) → x < n → y < n → mag (cond b (negsuc x) (pos y)) < n
by_half true x y n hx hy = hx
by_half false x y n hx hy = hy

pub difference_below : (a b n : ℕ) → a - b < n → b - a ≤ n → mag (pos a -ℤ pos b) < n
difference_below a zero n h k = omega arith
difference_below a (suc b) n h k = by_half (ltb a (suc b)) (suc b - suc a) (a - suc b) n (omega arith) (omega arith)

pub error_fits : (p r : ℕ) → 0 < r → r < 2 ^ 32 → mag (error_of p r (nearest_of p r)) < 2 ^ 31
error_fits p r h k = let at = near p r h in difference_below p (r * nearest_of p r) (2 ^ 31) (omega (arith, at.below)) (omega (arith, at.above))
