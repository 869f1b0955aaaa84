-- The laws of layouts: packing and unpacking undo one another, whatever the widths.
-- Assumes nothing.
use mathlib.Core.Path.{◌≡◌, refl, sym, ap, ap₂, ◌∙◌}
use mathlib.Core.Bool.{Bool, true, false, ◌&&◌}
use mathlib.Core.List.{List, [], ◌∷◌, ◌++◌}
use Prim.Native.Nat.{ℕ, zero, suc, ◌+◌, ◌*◌, ◌/◌, ◌%◌, ◌^◌, ◌≤◌, ◌<◌}
use native.Mathlib.Nat.{add-zero, mod-lt, mod-eq_of_lt, mul_assoc, mul_comm, add-mul, mul-add-div_right, mul-add-mod_self_right, mod-one}
use native.Mathlib.Omega.{arith}
use native.Mathlib.Numerals.{add-one}
use lib.ListN.{length, get_or, take, drop, length-replicate, take-append-drop}
use lib.Dec.{ltb, leb, lit<}
use lib.Seq.{drop-cons, take-suc, length-take-le}
use lib.Pow.{pow_pos, pow-add, mod-pow-add}
use lib.Arith.{digits_lt, digits_div}
use borrow.Author.Tests.{ltb-true, lt-ltb}
use Rattle.answer.specs.Tools.{and_left, and_right, and_both}
use Rattle.layout.specs.Layout.{total, unpack, pack, fitting, field_fits, fields_fit, bytes, num, Bytes}

pub and_true : (a : Bool) → a && true ≡ a
and_true true = refl
and_true false = refl

-- ---- any layout

-- a number of a layout's fields has the layout's bits
pub pack_lt : (ws xs : List ℕ) → fitting ws xs ≡ true → pack ws xs < 2 ^ total ws
pack_lt [] [] h = lit< tt
pack_lt [] (x ∷ xs) h = lit< tt
pack_lt (w ∷ ws) [] h = pow_pos (w + total ws)
pack_lt (w ∷ ws) (x ∷ xs) h =
    rw pow-add
    (digits_lt (ltb-true x (2 ^ w) (and_left (ltb x (2 ^ w)) (fitting ws xs) h)) (pack_lt ws xs (and_right (ltb x (2 ^ w)) (fitting ws xs) h)))

-- what lies above a layout's bits is not looked at
pub unpack_above : (ws : List ℕ) (a v : ℕ) → unpack ws (a * 2 ^ total ws + v) ≡ unpack ws v
unpack_above [] a v = refl
unpack_above (w ∷ ws) a v =
    let t = 2 ^ total ws in
    let e : a * 2 ^ (w + total ws) ≡ (a * 2 ^ w) * t = ap (λ (x : ℕ). a * x) (pow-add 2 w (total ws)) ∙ sym (mul_assoc a (2 ^ w) t) in
    let d : ((a * 2 ^ w) * t + v) / t % 2 ^ w ≡ v / t % 2 ^ w =
    ap (λ (x : ℕ). x % 2 ^ w) (mul-add-div_right (pow_pos (total ws)) (a * 2 ^ w) v) ∙ mul-add-mod_self_right a (2 ^ w) (v / t) in
    ap (λ (n : ℕ). (n + v) / t % 2 ^ w ∷ unpack ws (n + v)) e ∙ ap₂ (λ (x : ℕ) (l : List ℕ). x ∷ l) d (unpack_above ws (a * 2 ^ w) v)

-- the fields of a packed number are those that were packed
pub unpack_pack : (ws xs : List ℕ) → fitting ws xs ≡ true → unpack ws (pack ws xs) ≡ xs
unpack_pack [] [] h = refl
unpack_pack [] (x ∷ xs) h = let z : false ≡ true = h in cc
unpack_pack (w ∷ ws) [] h = let z : false ≡ true = h in cc
unpack_pack (w ∷ ws) (x ∷ xs) h =
    let hx = ltb-true x (2 ^ w) (and_left (ltb x (2 ^ w)) (fitting ws xs) h) in
    let hs = and_right (ltb x (2 ^ w)) (fitting ws xs) h in
    ap₂ (λ (y : ℕ) (l : List ℕ). y ∷ l)
    (ap (λ (y : ℕ). y % 2 ^ w) (digits_div x (pack_lt ws xs hs)) ∙ mod-eq_of_lt hx)
    (unpack_above ws x (pack ws xs) ∙ unpack_pack ws xs hs)

-- the number of the fields of v is v, within the layout's bits
pub pack_unpack : (ws : List ℕ) (v : ℕ) → pack ws (unpack ws v) ≡ v % 2 ^ total ws
pack_unpack [] v = sym (mod-one v)
pack_unpack (w ∷ ws) v = rw (mod-pow-add v w (total ws), pack_unpack ws v)

-- fields that were unpacked fit
pub fitting_unpack : (ws : List ℕ) (v : ℕ) → fitting ws (unpack ws v) ≡ true
fitting_unpack [] v = refl
fitting_unpack (w ∷ ws) v = and_both (lt-ltb (v / 2 ^ total ws % 2 ^ w) (2 ^ w) (mod-lt (v / 2 ^ total ws) (pow_pos w))) (fitting_unpack ws v)

pub length_unpack : (ws : List ℕ) (v : ℕ) → length (unpack ws v) ≡ length ws
length_unpack [] v = refl
length_unpack (w ∷ ws) v = ap suc (length_unpack ws v)

pub fitting_length : (ws xs : List ℕ) → fitting ws xs ≡ true → length ws ≡ length xs
fitting_length [] [] h = refl
fitting_length [] (x ∷ xs) h = let z : false ≡ true = h in cc
fitting_length (w ∷ ws) [] h = let z : false ≡ true = h in cc
fitting_length (w ∷ ws) (x ∷ xs) h = ap suc (fitting_length ws xs (and_right (ltb x (2 ^ w)) (fitting ws xs) h))

-- Two layouts one after the other.
pub total_append : (us ws : List ℕ) → total (us ++ ws) ≡ total us + total ws
total_append [] ws = omega arith
total_append (u ∷ us) ws = rw (total_append us ws) (omega arith)

pub pack_append : (us ws xs ys : List ℕ) → length us ≡ length xs → pack (us ++ ws) (xs ++ ys) ≡ pack us xs * 2 ^ total ws + pack ws ys
pack_append [] ws [] ys h = omega arith
pack_append [] ws (x ∷ xs) ys h = absurd (omega arith)
pack_append (u ∷ us) ws [] ys h = absurd (omega arith)
pack_append (u ∷ us) ws (x ∷ xs) ys h =
    let p = 2 ^ total us in
    let q = 2 ^ total ws in
    let d : (x * p + pack us xs) * q ≡ x * p * q + pack us xs * q = add-mul (x * p) (pack us xs) q in
    rw (total_append us ws, pow-add 2 (total us) (total ws), pack_append us ws xs ys (omega arith), ← mul_assoc x p q) (omega (arith, d))

-- ---- bytes

pub total_bytes : (n : ℕ) → total (bytes n) ≡ 8 * n
total_bytes zero = refl
total_bytes (suc n) = rw (total_bytes n) (omega arith)

-- one byte more
total_snoc : (l : List ℕ) (b : ℕ) → total (bytes (length (l ++ b ∷ []))) ≡ 8 + total (bytes (length l))
total_snoc [] b = refl
total_snoc (x ∷ l) b = ap (λ (n : ℕ). 8 + n) (total_snoc l b)

pub num_snoc : (l : List ℕ) (b : ℕ) → num (l ++ b ∷ []) ≡ num l * 256 + b
num_snoc [] b = omega arith
num_snoc (x ∷ l) b =
    let p = 2 ^ total (bytes (length l)) in
    let e : x * (256 * p) ≡ 256 * (x * p) = sym (mul_assoc x 256 p) ∙ ap (λ (n : ℕ). n * p) (mul_comm x 256) ∙ mul_assoc 256 x p in
    rw (total_snoc l b, pow-add 2 8 (total (bytes (length l))), num_snoc l b) (omega (arith, e))

pub bytes_snoc : (l : List ℕ) (b : ℕ) → Bytes l → b < 256 → Bytes (l ++ b ∷ [])
bytes_snoc [] b h k = and_both (lt-ltb b 256 k) refl
bytes_snoc (x ∷ l) b h k =
    and_both (and_left (ltb x 256) (fitting (bytes (length l)) l) h) (bytes_snoc l b (and_right (ltb x 256) (fitting (bytes (length l)) l) h) k)

-- the number of the n bytes of v
pub num_unpack : (n v : ℕ) → num (unpack (bytes n) v) ≡ v % 2 ^ total (bytes n)
num_unpack n v = ap (λ (k : ℕ). pack (bytes k) (unpack (bytes n) v)) (length_unpack (bytes n) v ∙ length-replicate n 8) ∙ pack_unpack (bytes n) v

-- ---- the fields one by one

module _ (ws xs : List ℕ) (i : ℕ) (h : i < length ws) (k : i < length xs) where
  pub fits_at : fields_fit (drop i ws) (drop i xs) ≡ (field_fits (get_or ws i 0) (get_or xs i 0) && fields_fit (drop (i + 1) ws) (drop (i + 1) xs))
  fits_at = rw (add-one, drop-cons ws i 0 h, drop-cons xs i 0 k)

  -- one field more
  pub pack_next : length ws ≡ length xs
      → pack (take (i + 1) ws) (take (i + 1) xs) ≡ pack (take i ws) (take i xs) * 2 ^ get_or ws i 0 + get_or xs i 0
  pack_next e =
      let w = get_or ws i 0 in
      let x = get_or xs i 0 in
      let l : length (take i ws) ≡ length (take i xs) = length-take-le i ws (omega arith) ∙ sym (length-take-le i xs (omega arith)) in
      rw (add-one, take-suc ws i 0 h, take-suc xs i 0 k, pack_append (take i ws) (w ∷ []) (take i xs) (x ∷ []) l) (simp add-zero (omega arith))

pub total_next : (ws : List ℕ) (i : ℕ) → i < length ws → total (take (i + 1) ws) ≡ total (take i ws) + get_or ws i 0
total_next ws i h = rw (add-one, take-suc ws i 0 h, total_append (take i ws) (get_or ws i 0 ∷ [])) (omega arith)

pub total_take : (ws : List ℕ) (i : ℕ) → total (take i ws) ≤ total ws
total_take ws i = omega (arith, ap total (take-append-drop i ws), total_append (take i ws) (drop i ws))

pub fits_each : (ws xs : List ℕ) (i : ℕ) → fields_fit ws xs ≡ true → i < length ws → field_fits (get_or ws i 0) (get_or xs i 0) ≡ true
fits_each [] xs i f h = absurd (omega arith)
fits_each (w ∷ ws) [] i f h = let z : false ≡ true = f in cc
fits_each (w ∷ ws) (x ∷ xs) zero f h = and_left (field_fits w x) (fields_fit ws xs) f
fits_each (w ∷ ws) (x ∷ xs) (suc i) f h = fits_each ws xs i (and_right (field_fits w x) (fields_fit ws xs) f) (omega arith)

pub fits_fitting : (ws xs : List ℕ) → fields_fit ws xs ≡ true → fitting ws xs ≡ true
fits_fitting [] [] h = refl
fits_fitting [] (x ∷ xs) h = h
fits_fitting (w ∷ ws) [] h = h
fits_fitting (w ∷ ws) (x ∷ xs) h =
    and_both (and_right (leb w 8) (ltb x (2 ^ w)) (and_left (field_fits w x) (fields_fit ws xs) h))
    (fits_fitting ws xs (and_right (field_fits w x) (fields_fit ws xs) h))

-- no width above eight
abbrev pub narrow : List ℕ → Bool
narrow [] = true
narrow (w ∷ ws) = leb w 8 && narrow ws

pub fits_narrow : (ws xs : List ℕ) → narrow ws ≡ true → fields_fit ws xs ≡ fitting ws xs
fits_narrow [] [] n = refl
fits_narrow [] (x ∷ xs) n = refl
fits_narrow (w ∷ ws) [] n = refl
fits_narrow (w ∷ ws) (x ∷ xs) n = rw (and_left (leb w 8) (narrow ws) n, fits_narrow ws xs (and_right (leb w 8) (narrow ws) n))
