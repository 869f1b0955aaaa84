-- Reading by bits is unpacking: the bits at a layout's places are the fields of the number that the bytes spell.
-- Assumes nothing.
use mathlib.Core.Path.{◌≡◌, refl, sym, ap, ap₂, ◌∙◌}
use mathlib.Core.Bool.{Bool, true, false, cond}
use mathlib.Core.List.{List, [], ◌∷◌}
use Prim.Native.Nat.{ℕ, zero, suc, ◌+◌, ◌-◌, ◌*◌, ◌/◌, ◌%◌, ◌^◌, ◌≤◌, ◌<◌, min}
use native.Mathlib.Nat.{le_antisymm, mod-one, mod-eq_of_lt, pow-suc, mul_assoc, mul-add-div_right, mul-add-mod_self_right}
use native.Mathlib.Numerals.{add-one}
use native.Mathlib.Omega.{arith}
use borrow.Author.Tests.{ltb-true, ltb-false, lt-ltb}
use lib.ListN.{length, get_or, length-replicate}
use lib.Dec.{ltb, eqb}
use lib.Pow.{pow_pos, pow-add, shl-shr, shr-shr, shr_mod, mod-pow-add}
use lib.Arith.{digits_div}
use Rattle.answer.specs.Tools.{and_right}
use Rattle.layout.specs.Layout.{total, unpack, pack, fitting, bytes, num, Bytes, packed}
use Rattle.layout.specs.Bits.{bit, bit_at, bits_at, cut, up_to}
use Rattle.layout.specs.Order.{bits_split}
use Rattle.layout.proofs.Laws.{pack_lt, pack_unpack, unpack_pack, fitting_unpack, length_unpack, num_unpack, total_bytes}

-- a bit and its number
pub flag_of_bit : (b : Bool) → eqb (bit b) 1 ≡ b
flag_of_bit true = refl
flag_of_bit false = refl

pub bit_fits : (b : Bool) → ltb (bit b) 2 ≡ true
bit_fits true = refl
bit_fits false = refl

pub bit_below : (x : ℕ) → x < 2 → bit (eqb x 1) ≡ x
bit_below zero h = refl
bit_below (suc zero) h = refl
bit_below (suc (suc n)) h = let z : ⊥ = omega arith in absurd z

pub bit_of_flag : (x : ℕ) → bit (eqb (x % 2) 1) ≡ x % 2
bit_of_flag x = bit_below (x % 2) (omega arith)

all : (limit n : ℕ) → n ≤ limit → (b : Bool) → ltb n limit ≡ b → cond b n limit ≡ n
all limit n h true e = refl
all limit n h false e = le_antisymm (ltb-false n limit e) h

pub up_to_all : (limit n : ℕ) → n ≤ limit → up_to limit n ≡ n
up_to_all limit n h = all limit n h (ltb n limit) refl

-- what the code takes
min_of : (limit n : ℕ) (b : Bool) → ltb n limit ≡ b → min n limit ≡ cond b n limit
min_of limit n true e = omega (arith, ltb-true n limit e)
min_of limit n false e = omega (arith, ltb-false n limit e)

pub up_to_min : (limit n : ℕ) → min n limit ≡ up_to limit n
up_to_min limit n = min_of limit n (ltb n limit) refl

-- n bits spell a number below 2 ^ n
pub bits_lt : (s : List ℕ) (at n : ℕ) → bits_at s at n < 2 ^ n
unfolding bits_at
bits_lt s at zero = omega arith
bits_lt s at (suc n) = let h = bits_lt s at n in rw pow-suc (omega arith)

-- the bit q of the byte j is a bit of the number that the bytes spell
bit_number : (s : List ℕ) → Bytes s → (j q r : ℕ) → q < 8 → 8 * j + q + 1 + r ≡ 8 * length s → get_or s j 0 / 2 ^ (7 - q) % 2 ≡ num s / 2 ^ r % 2
bit_number [] b j q r l h = absurd (omega arith)
bit_number (x ∷ s) b zero q r l h =
    let t = total (bytes (length s)) in
    let k : num s < 2 ^ t = pack_lt (bytes (length s)) s (and_right (ltb x 256) (fitting (bytes (length s)) s) b) in
    let e : t + (7 - q) ≡ r = omega (arith, total_bytes (length s)) in
    let d : x / 2 ^ (7 - q) ≡ (x * 2 ^ t + num s) / 2 ^ r =
    ap (λ (n : ℕ). n / 2 ^ (7 - q)) (sym (digits_div x k)) ∙ shr-shr (x * 2 ^ t + num s) t (7 - q) ∙ ap (λ (n : ℕ). (x * 2 ^ t + num s) / 2 ^ n) e in
    ap (λ (n : ℕ). n % 2) d
bit_number (x ∷ s) b (suc j) q r l h =
    let t = total (bytes (length s)) in
    let o = 8 * j + q in
    let b' : Bytes s = and_right (ltb x 256) (fitting (bytes (length s)) s) b in
    let i : get_or s j 0 / 2 ^ (7 - q) % 2 ≡ num s / 2 ^ r % 2 = bit_number s b' j q r l (omega arith) in
    let e : t ≡ o + (1 + r) = omega (arith, total_bytes (length s)) in
    let p : x * 2 ^ t ≡ x * 2 ^ o * 2 * 2 ^ r =
    ap (λ (n : ℕ). x * 2 ^ n) e ∙ ap (λ (n : ℕ). x * n) (pow-add 2 o (1 + r) ∙ ap (λ (n : ℕ). 2 ^ o * n) (pow-add 2 1 r))
    ∙ sym (mul_assoc x (2 ^ o) (2 * 2 ^ r)) ∙ sym (mul_assoc (x * 2 ^ o) 2 (2 ^ r)) in
    let d : (x * 2 ^ t + num s) / 2 ^ r ≡ x * 2 ^ o * 2 + num s / 2 ^ r =
    ap (λ (n : ℕ). (n + num s) / 2 ^ r) p ∙ mul-add-div_right (pow_pos r) (x * 2 ^ o * 2) (num s) in
    i ∙ sym (ap (λ (n : ℕ). n % 2) d ∙ mul-add-mod_self_right (x * 2 ^ o) 2 (num s / 2 ^ r))

-- n bits of it
pub bits_number : (s : List ℕ) → Bytes s → (at n r : ℕ) → at + n + r ≡ 8 * length s → bits_at s at n ≡ num s / 2 ^ r % 2 ^ n
unfolding bits_at
bits_number s b at zero r h = sym (mod-one (num s / 2 ^ r))
bits_number s b at (suc n) r h =
    let v = num s / 2 ^ r in
    let i : bits_at s at n ≡ num s / 2 ^ (r + 1) % 2 ^ n = bits_number s b at n (r + 1) (omega arith) in
    let k : bit_at s (at + n) ≡ v % 2 = bit_number s b ((at + n) / 8) ((at + n) % 8) r (omega arith) (omega arith) in
    ap₂ (λ (x y : ℕ). x * 2 + y) i k ∙ ap (λ (x : ℕ). x % 2 ^ n * 2 + v % 2) (sym (shr-shr (num s) r 1)) ∙ sym (mod-pow-add v n 1)
    ∙ ap (λ (m : ℕ). v % 2 ^ m) (add-one n)

-- Bits that lie in the bytes w, which s has from the byte of the place `at` on.
module _ (s : List ℕ) (at : ℕ) (w : List ℕ) (there : (j : ℕ) → j < length w → get_or s (at / 8 + j) 0 ≡ get_or w j 0) where
  bit_in : (n q : ℕ) → at % 8 + n ≡ q → q < 8 * length w → bit_at s (at + n) ≡ bit_at w q
  bit_in n q e h =
      let j : (at + n) / 8 ≡ at / 8 + q / 8 = omega arith in
      let p : (at + n) % 8 ≡ q % 8 = omega arith in
      rw (j, p, there (q / 8) (omega arith))

  bits_in : (n : ℕ) → at % 8 + n ≤ 8 * length w → bits_at s at n ≡ bits_at w (at % 8) n
  unfolding bits_at
  bits_in zero h = refl
  bits_in (suc n) h = ap₂ (λ (x y : ℕ). x * 2 + y) (bits_in n (omega arith)) (bit_in n (at % 8 + n) refl (omega arith))

  bits_of : Bytes w → (n r : ℕ) → at % 8 + n + r ≡ 8 * length w → bits_at s at n ≡ num w / 2 ^ r % 2 ^ n
  bits_of b n r l = bits_in n (omega arith) ∙ bits_number w b (at % 8) n r l

-- the bits of one byte, or of two
module _ (s : List ℕ) (at : ℕ) where
  first : (a : ℕ) → a ≡ get_or s (at / 8) 0 → get_or s (at / 8 + 0) 0 ≡ a
  first a e = ap (λ (k : ℕ). get_or s k 0) (omega arith) ∙ sym e

  one : (a : ℕ) → a ≡ get_or s (at / 8) 0 → (j : ℕ) → j < 1 → get_or s (at / 8 + j) 0 ≡ get_or (a ∷ []) j 0
  one a e zero h = first a e
  one a e (suc j) h = absurd (omega arith)

  bits_of_one : (a n r : ℕ) → a ≡ get_or s (at / 8) 0 → a < 256 → at % 8 + n + r ≡ 8 → bits_at s at n ≡ a / 2 ^ r % 2 ^ n
  bits_of_one a n r e h l =
      let v : num (a ∷ []) ≡ a = omega arith in
      bits_of s at (a ∷ []) (one a e) (simp (lt-ltb a 256 h)) n r l ∙ ap (λ (x : ℕ). x / 2 ^ r % 2 ^ n) v

  two : (a b : ℕ) → a ≡ get_or s (at / 8) 0 → b ≡ get_or s (at / 8 + 1) 0 → (j : ℕ) → j < 2 → get_or s (at / 8 + j) 0 ≡ get_or (a ∷ b ∷ []) j 0
  two a b e f zero h = first a e
  two a b e f (suc zero) h = sym f
  two a b e f (suc (suc j)) h = absurd (omega arith)

  pub bits_of_two : (a b n r : ℕ) → a ≡ get_or s (at / 8) 0 → b ≡ get_or s (at / 8 + 1) 0 → a < 256 → b < 256 → at % 8 + n + r ≡ 16
      → bits_at s at n ≡ (a * 256 + b) / 2 ^ r % 2 ^ n
  bits_of_two a b n r e f h k l =
      let v : num (a ∷ b ∷ []) ≡ a * 256 + b = omega arith in
      bits_of s at (a ∷ b ∷ []) (two a b e f) (simp (lt-ltb a 256 h, lt-ltb b 256 k)) n r l ∙ ap (λ (x : ℕ). x / 2 ^ r % 2 ^ n) v

-- the bits of a byte from a place on
pub rest_of_byte : (s : List ℕ) (at a : ℕ) → a ≡ get_or s (at / 8) 0 → a < 256 → a % 2 ^ (8 - at % 8) ≡ bits_at s at (8 - at % 8)
rest_of_byte s at a e h = sym (bits_of_one s at a (8 - at % 8) 0 e h (omega arith) ∙ ap (λ (x : ℕ). x % 2 ^ (8 - at % 8)) (omega arith))

-- the first bits of a byte
pub first_bits : (s : List ℕ) (j a k r : ℕ) → a ≡ get_or s j 0 → a < 256 → k + r ≡ 8 → a * 2 ^ k / 256 ≡ bits_at s (8 * j) k
first_bits s j a k r e h l =
    let f : a ≡ get_or s (8 * j / 8) 0 = e ∙ ap (λ (i : ℕ). get_or s i 0) (omega arith) in
    let b : a < 2 ^ (k + r) = rw l h in
    let d : a * 2 ^ k / 2 ^ (k + r) ≡ a / 2 ^ r = sym (shr-shr (a * 2 ^ k) k r) ∙ ap (λ (x : ℕ). x / 2 ^ r) (shl-shr a k) in
    ap (λ (n : ℕ). a * 2 ^ k / 2 ^ n) (sym l) ∙ d ∙ sym (bits_of_one s (8 * j) a k r f h (omega arith) ∙ shr_mod k r b)

-- m bits up to the byte j, and the first k of it
pub bits_on : (s : List ℕ) (at m k j : ℕ) → at + m ≡ 8 * j → bits_at s at m * 2 ^ k + bits_at s (8 * j) k ≡ bits_at s at (m + k)
bits_on s at m k j e = ap (λ (p : ℕ). bits_at s at m * 2 ^ k + bits_at s p k) (sym e) ∙ sym (bits_split s at m k)

-- the fields at a layout's places are those of the number
cut_from : (ws s : List ℕ) → Bytes s → (at : ℕ) → at + total ws ≡ 8 * length s → cut ws s at ≡ unpack ws (num s)
cut_from [] s b at h = refl
cut_from (w ∷ ws) s b at h =
    ap₂ (λ (x : ℕ) (l : List ℕ). x ∷ l) (bits_number s b at w (total ws) (omega arith)) (cut_from ws s b (at + w) (omega arith))

module _ (ws : List ℕ) (n : ℕ) (whole : total ws ≡ 8 * n) where
  pub cut_unpack : (s : List ℕ) → Bytes s → length s ≡ n → cut ws s 0 ≡ unpack ws (num s)
  cut_unpack s b l = cut_from ws s b 0 (omega arith)

  same_total : total ws ≡ total (bytes n)
  same_total = whole ∙ sym (total_bytes n)

  -- n bytes of a packed record are bytes
  pub length_packed : (xs : List ℕ) → length (packed n ws xs) ≡ n
  length_packed xs = length_unpack (bytes n) (pack ws xs) ∙ length-replicate n 8

  pub packed_bytes : (xs : List ℕ) → Bytes (packed n ws xs)
  packed_bytes xs = ap (λ (m : ℕ). fitting (bytes m) (packed n ws xs)) (length_packed xs) ∙ fitting_unpack (bytes n) (pack ws xs)

  -- reading the fields after writing them
  pub cut_packed : (xs : List ℕ) → fitting ws xs ≡ true → cut ws (packed n ws xs) 0 ≡ xs
  cut_packed xs f =
      let b : pack ws xs < 2 ^ total (bytes n) = rw same_total at (pack_lt ws xs f) in
      cut_unpack (packed n ws xs) (packed_bytes xs) (length_packed xs)
      ∙ ap (unpack ws) (num_unpack n (pack ws xs) ∙ mod-eq_of_lt b) ∙ unpack_pack ws xs f

  -- writing the fields after reading them
  pub packed_unpack : (s : List ℕ) → Bytes s → length s ≡ n → packed n ws (unpack ws (num s)) ≡ s
  packed_unpack s b l =
      let e : num s ≡ pack (bytes n) s = ap (λ (m : ℕ). pack (bytes m) s) l in
      let f : fitting (bytes n) s ≡ true = rw l at b in
      let h : num s < 2 ^ total ws = rw (e, same_total) (pack_lt (bytes n) s f) in
      ap (unpack (bytes n)) (pack_unpack ws (num s) ∙ mod-eq_of_lt h ∙ e) ∙ unpack_pack (bytes n) s f
