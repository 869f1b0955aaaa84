-- The theorems on what specs/Order.antt defines. Assumes nothing.
use Rattle.std.specs.Prelude.{◌≡◌, refl, Bool, true, false, cond, not, ◌&&◌, ◌||◌, [], ◌∷◌, ℕ, ◌*◌, ◌<◌, ltb, leb, eqb, ℤ}
use Rattle.std.proofs.Math.Path.{sym}
use Rattle.std.proofs.Common.{ap, ◌∙◌, div-lt_iff_lt-mul, le-div_iff_mul-le}
use native.Mathlib.Omega.{arith}
use borrow.Author.Tests.{ltb-true, ltb-false, lt-ltb, le-ltb, le-leb, lt-leb, eqb-false}
use Rattle.answer.specs.Answer.{Answer, gives, refuses, refuse, ◌>>=◌, ◌>>◌}
use Rattle.answer.specs.Order.{first_of, bare, InOrder, order_gives, order_past}
use Rattle.answer.specs.Lists.{order_either}
use Rattle.answer.specs.Tools.{cases}
use Rattle.tree.specs.declared.Clocks.{Clocks}
use Rattle.serial.specs.Serial.{nearest_of, divisor_of, port_of}
use Rattle.serial.specs.Order.{divisor_tests, pclk_at, port_tests}

pub positive : (r : ℕ) → eqb r 0 ≡ false → 0 < r
positive r e = let k = eqb-false r 0 e in omega arith

double : {r : ℕ} → 0 < r → 0 < 2 * r
double h = omega arith

-- BRR below 16, and above 65,535, said of the quotient
module _ (p r : ℕ) (h : 0 < r) where
  below_16 : ltb (nearest_of p r) 16 ≡ ltb (2 * p) (31 * r)
  unfolding nearest_of
  below_16 =
      cases (ltb (nearest_of p r) 16)
      (λ e. let k = (div-lt_iff_lt-mul (double h)).0 (ltb-true (nearest_of p r) 16 e) in e ∙ sym (lt-ltb (2 * p) (31 * r) (omega arith)))
      (λ e. let k = (le-div_iff_mul-le (double h)).0 (ltb-false (nearest_of p r) 16 e) in e ∙ sym (le-ltb (2 * p) (31 * r) (omega arith)))

  above_65535 : ltb 65535 (nearest_of p r) ≡ leb (131071 * r) (2 * p)
  unfolding nearest_of
  above_65535 =
      cases (ltb 65535 (nearest_of p r))
      (λ e. let k = (le-div_iff_mul-le (double h)).0 (ltb-true 65535 (nearest_of p r) e) in e ∙ sym (le-leb (131071 * r) (2 * p) (omega arith)))
      (λ e. let g = ltb-false 65535 (nearest_of p r) e in
      let k = (div-lt_iff_lt-mul (double h)).0 (let l : nearest_of p r < 65536 = omega arith in l) in
      e ∙ sym (lt-leb (131071 * r) (2 * p) (omega arith)))

pub divisor_in_order : (p r : ℕ) → bare (divisor_of p r) ≡ first_of (divisor_tests p r)
unfolding divisor_of
divisor_in_order p r = (order_past {l = (34, ltb (2 * p) (31 * r)) ∷ (34, leb (131071 * r) (2 * p)) ∷ []} 33 (eqb r 0) (λ e. range _ (positive r e))).goes
  where
    range : (x : ℕ × ℤ) → 0 < r → InOrder ((34, ltb (2 * p) (31 * r)) ∷ (34, leb (131071 * r) (2 * p)) ∷ [])
        (◌>>◌ (refuse 34 (ltb (nearest_of p r) 16 || ltb 65535 (nearest_of p r))) (gives x))
    range x h =
        order_either (ltb (2 * p) (31 * r)) (leb (131071 * r) (2 * p))
        (rw (below_16 p r h, above_65535 p r h) (order_past 34 (ltb (2 * p) (31 * r) || leb (131071 * r) (2 * p)) (λ f. order_gives)))

-- the bus comes first; behind it stands the divisor of its clock, whatever that refuses by
bus_first : (k : Clocks) (bus r : ℕ) → bare (port_of k bus r) ≡ cond (not (eqb bus 1) && not (eqb bus 2)) (refuses 28) (bare (divisor_of (pclk_at k bus) r))
unfolding port_of
bus_first k bus r = by_bus (eqb bus 1) (eqb bus 2)
  where
    by_bus : (a b : Bool)
        → bare (◌>>=◌ (cond a (gives k.pclk1) (cond b (gives k.pclk2) (refuses 28))) (λ pclk. divisor_of pclk r))
        ≡ cond (not a && not b) (refuses 28) (bare (divisor_of (cond a k.pclk1 k.pclk2) r))
    by_bus true b = refl
    by_bus false true = refl
    by_bus false false = refl

pub port_in_order : (k : Clocks) (bus r : ℕ) → bare (port_of k bus r) ≡ first_of (port_tests k bus r)
port_in_order k bus r =
    bus_first k bus r ∙ ap (λ (m : Answer (Unit {0})). cond (not (eqb bus 1) && not (eqb bus 2)) (refuses 28) m) (divisor_in_order (pclk_at k bus) r)
