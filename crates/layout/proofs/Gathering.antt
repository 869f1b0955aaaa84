-- One field more is gathered: it stays pending with the bits before it, or they make a byte. Assumes nothing.
use mathlib.Core.Path.{◌≡◌, refl, sym, ap, ap₂, ◌∙◌}
use mathlib.Core.List.{List, [], ◌∷◌, ◌++◌}
use Prim.Native.Nat.{ℕ, ◌+◌, ◌*◌, ◌/◌, ◌%◌, ◌^◌, ◌-◌, ◌≤◌, ◌<◌}
use native.Mathlib.Nat.{add-mul, mul_assoc, mod-lt}
use native.Mathlib.Numerals.{add-one}
use native.Mathlib.Omega.{arith}
use lib.ListN.{length, take, drop, set, length-set}
use lib.Seq.{take-suc-set, drop-set-lt, drop-drop}
use lib.Pow.{pow-add, pow_pos, shr_lt, split}
use lib.Arith.{digits_lt}
use Rattle.layout.specs.Layout.{num}
use Rattle.layout.specs.Gathered.{Fits, Gathers}
use Rattle.layout.specs.declared.Pending.{Pending}
use Rattle.layout.proofs.Laws.{num_snoc, bytes_snoc}

-- the bits so far and the field, as one number
joined : (n v c w x : ℕ) → n * 2 ^ (c + w) + (v * 2 ^ w + x) ≡ (n * 2 ^ c + v) * 2 ^ w + x
joined n v c w x =
    let a : n * 2 ^ (c + w) ≡ n * 2 ^ c * 2 ^ w = ap (λ (m : ℕ). n * m) (pow-add 2 c w) ∙ sym (mul_assoc n (2 ^ c) (2 ^ w)) in
    let b : (n * 2 ^ c + v) * 2 ^ w ≡ n * 2 ^ c * 2 ^ w + v * 2 ^ w = add-mul (n * 2 ^ c) v (2 ^ w) in
    omega (arith, a, b)

-- a byte taken off the front
taken_off : (n t r : ℕ) → (n * 256 + t / 2 ^ r) * 2 ^ r + t % 2 ^ r ≡ n * 2 ^ (8 + r) + t
taken_off n t r =
    let a : n * 2 ^ (8 + r) ≡ n * 256 * 2 ^ r = ap (λ (m : ℕ). n * m) (pow-add 2 8 r) ∙ sym (mul_assoc n 256 (2 ^ r)) in
    let b : (n * 256 + t / 2 ^ r) * 2 ^ r ≡ n * 256 * 2 ^ r + t / 2 ^ r * 2 ^ r = add-mul (n * 256) (t / 2 ^ r) (2 ^ r) in
    omega (arith, a, b, split t r)

module _ (l : List ℕ) (p : Pending) (w x t : ℕ) (f : Fits (length l) p w x) (e : t ≡ p.value * 2 ^ w + x) where
  pub both_small : t < 2 ^ (p.count + w)
  both_small = rw (e, pow-add 2 p.count w) (digits_lt f.small f.below)

  pub kept : p.count + w < 8 → Gathers l p w x l (record { at = p.at; count = p.count + w; value = t })
  kept h = record {
    same_length = refl;
    more = λ was n v g.
        record {
          bits = omega (arith, g.bits);
          few = h;
          small = both_small;
          spells = rw e (joined (num (take p.at l)) p.value p.count w x ∙ ap (λ (m : ℕ). m * 2 ^ w + x) g.spells);
          low = g.low;
          long = g.long;
          beyond = g.beyond;
        };
  }

  module _ (q : ℕ) (h : 8 ≤ p.count + w) (k : q ≡ 2 ^ (p.count + w - 8)) where
    abbrev left : ℕ
    left = p.count + w - 8

    whole : 8 + left ≡ p.count + w
    whole = omega arith

    pub is_byte : t / q < 256
    is_byte = rw k (shr_lt 8 left (rw whole both_small))

    place : p.at < length l
    place = omega (arith, f.place)

    front : take (p.at + 1) (set l p.at (t / q)) ≡ take p.at l ++ t / q ∷ []
    front = rw add-one (take-suc-set l p.at (t / q) place)

    pub byte_put : Gathers l p w x (set l p.at (t / q)) (record { at = p.at + 1; count = left; value = t % q })
    byte_put = record {
      same_length = length-set l p.at (t / q);
      more = λ was n v g.
          record {
            bits = omega (arith, g.bits);
            few = omega (arith, f.few, f.narrow);
            small = rw k (mod-lt t (pow_pos left));
            spells =
                let m = num (take p.at l) in
                ap (λ (z : ℕ). z * 2 ^ left + t % q) (ap num front ∙ num_snoc (take p.at l) (t / q))
                ∙ ap (λ (z : ℕ). (m * 256 + t / z) * 2 ^ left + t % z) k ∙ taken_off m t left
                ∙ ap₂ (λ (y z : ℕ). m * 2 ^ y + z) whole e ∙ joined m p.value p.count w x ∙ ap (λ (z : ℕ). z * 2 ^ w + x) g.spells;
            low = rw front (bytes_snoc (take p.at l) (t / q) g.low is_byte);
            long = length-set l p.at (t / q) ∙ g.long;
            beyond =
                drop-set-lt (p.at + 1) l p.at (t / q) (omega arith) ∙ sym (drop-drop 1 p.at l) ∙ ap (drop 1) g.beyond
                ∙ drop-drop 1 p.at was;
          };
    }
