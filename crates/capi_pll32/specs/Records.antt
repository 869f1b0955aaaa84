-- A configuration's bytes are given back by what is read of them, and it by its bytes: every configuration has one record. Assumes nothing.
use Rattle.std.specs.Prelude.{ℕ, zero, suc, ◌+◌, ◌*◌, ◌/◌, ◌%◌, ◌^◌, ◌<◌, ◌≡◌, refl, Bool, ◌&&◌, ◌||◌, Option, None, Some, List, [], ◌∷◌, length}
use Rattle.std.proofs.Common.{sym, ap, ◌∙◌, arith, shr-shr}
use Rattle.std.proofs.Math.Bool.{true, false}
use borrow.Author.Tests.{leb-true, eqb-true, eqb-false}
use Rattle.std.proofs.Math.Dec.{eqb}
use Rattle.layout.specs.Bits.{bit, bits_at}
use Rattle.answer.specs.Tools.{and_left, and_right}
use Rattle.layout.proofs.Reading.{flag_of_bit}
use Rattle.tree.specs.declared.Hse.{Hse}
use Rattle.pll32.specs.declared.Source.{Source}
use Rattle.pll32.specs.declared.Source.TheVariants as source
use Rattle.pll32.specs.Pll.{source_of}
use Rattle.capi_pll32.specs.Bytes.{at, yes, yes_or_no, hse_hz_in, config_hse, hse_allowed}

-- a list by its entries
abbrev pub listed : (ℕ → ℕ) → ℕ → List ℕ
listed f zero = []
listed f (suc n) = f 0 ∷ listed (λ (i : ℕ). f (suc i)) n

pub entries : (l : List ℕ) → l ≡ listed (at l) (length l)
entries [] = refl
entries (x ∷ l) = ap (λ (t : List ℕ). x ∷ t) (entries l)

pub same : {x y : ℕ} {l m : List ℕ} → x ≡ y → l ≡ m → ◌≡◌ {A = List ℕ} (x ∷ l) (y ∷ m)
same {x} {y} {l} {m} e q = ap (λ (t : ℕ). t ∷ l) e ∙ ap (λ (t : List ℕ). y ∷ t) q

-- a byte that says yes or no
pub said_as : (x : ℕ) (t : Bool) → yes x ≡ t → yes_or_no x ≡ true → bit t ≡ x
said_as x true e h = sym (eqb-true x 1 e)
said_as x false e h = let k = leb-true x 1 h in let n = eqb-false x 1 e in omega (arith, k, n)

pub said : (x : ℕ) → yes_or_no x ≡ true → bit (yes x) ≡ x
said x = said_as x (yes x) refl

-- a bit given as a byte says yes or no
pub bit_says : (b : Bool) → yes_or_no (bit b) ≡ true
bit_says true = refl
bit_says false = refl

pub or_else : (a b : Bool) → a ≡ false → a || b ≡ true → b ≡ true
or_else true b e h = cc
or_else false b e h = h

-- three bytes that say yes or no
pub three_said : (x y z : ℕ) → (yes_or_no x && yes_or_no y && yes_or_no z) ≡ true → (bit (yes x) ≡ x) × (bit (yes y) ≡ y) × (bit (yes z) ≡ z)
three_said x y z h =
    let two = and_left (yes_or_no x && yes_or_no y) (yes_or_no z) h in (
      said x (and_left (yes_or_no x) (yes_or_no y) two),
      said y (and_right (yes_or_no x) (yes_or_no y) two),
      said z (and_right (yes_or_no x && yes_or_no y) (yes_or_no z) h),
    )

-- A record of n bytes that are allowed, and that are given back by the value that they hold: that value has this record alone.
pub of_one : (n : ℕ) (l : List ℕ) (allowed : Bool) {bytes : List ℕ} → (allowed ≡ true → bytes ≡ listed (at l) n) → (eqb (length l) n && allowed) ≡ true → l ≡ bytes
of_one n l allowed back e =
    let long : length l ≡ n = eqb-true (length l) n (and_left (eqb (length l) n) allowed e) in
    entries l ∙ ap (listed (at l)) long ∙ sym (back (and_right (eqb (length l) n) allowed e))

-- a source by its byte
abbrev pub source_byte : Source → ℕ
source_byte source.Hsi = 0
source_byte source.Hse = 1

source_as : (t : Bool) → source_byte (source_of t) ≡ bit t
source_as true = refl
source_as false = refl

pub source_back : (x : ℕ) → yes_or_no x ≡ true → source_byte (source_of (yes x)) ≡ x
source_back x h = source_as (yes x) ∙ said x h

-- one bit more of x, behind t
behind : (q t : ℕ) → (t + q / 2) * 2 + q % 2 ≡ t * 2 + q
behind q t = omega arith

step : (x j t : ℕ) → (t + x / 2 ^ (j + 1)) * 2 + x / 2 ^ j % 2 ≡ t * 2 + x / 2 ^ j
step x j t = ap (λ (n : ℕ). (t + n) * 2 + x / 2 ^ j % 2) (sym (shr-shr x j 1)) ∙ behind (x / 2 ^ j) t

first : (x t : ℕ) → x < 256 → t + x / 128 % 2 ≡ t + x / 128
first x t h = omega (arith, h)

last : (x y : ℕ) → y * 2 * 2 * 2 * 2 * 2 * 2 * 2 * 2 + x / 1 ≡ y * 256 + x
last x y = omega arith

-- eight bits are a byte; y is what stands before them
byte : (x y : ℕ) → x < 256 →
    (((((((y * 2 + x / 128 % 2) * 2 + x / 64 % 2) * 2 + x / 32 % 2) * 2 + x / 16 % 2) * 2 +
    x / 8 % 2) * 2 + x / 4 % 2) * 2 + x / 2 % 2) * 2 + x / 1 % 2 ≡ y * 256 + x
byte x y h =
    let e0 = first x (y * 2) h in
    let e1 = ap (λ (t : ℕ). t * 2 + x / 64 % 2) e0 ∙ step x 6 (y * 2) in
    let e2 = ap (λ (t : ℕ). t * 2 + x / 32 % 2) e1 ∙ step x 5 (y * 2 * 2) in
    let e3 = ap (λ (t : ℕ). t * 2 + x / 16 % 2) e2 ∙ step x 4 (y * 2 * 2 * 2) in
    let e4 = ap (λ (t : ℕ). t * 2 + x / 8 % 2) e3 ∙ step x 3 (y * 2 * 2 * 2 * 2) in
    let e5 = ap (λ (t : ℕ). t * 2 + x / 4 % 2) e4 ∙ step x 2 (y * 2 * 2 * 2 * 2 * 2) in
    let e6 = ap (λ (t : ℕ). t * 2 + x / 2 % 2) e5 ∙ step x 1 (y * 2 * 2 * 2 * 2 * 2 * 2) in
    let e7 = ap (λ (t : ℕ). t * 2 + x / 1 % 2) e6 ∙ step x 0 (y * 2 * 2 * 2 * 2 * 2 * 2 * 2) in
    e7 ∙ last x y

front : (x : ℕ) → 0 * 256 + x ≡ x
front x = omega arith

-- HSE's six bytes: whether it is there, whether it is bypassed, its frequency; no and 0 where it isn't there
abbrev pub hse_there : Option Hse → Bool
hse_there None = false
hse_there (Some hse) = true

abbrev pub hse_bypass : Option Hse → Bool
hse_bypass None = false
hse_bypass (Some hse) = hse.bypass

abbrev pub hse_hz : Option Hse → ℕ
hse_hz None = 0
hse_hz (Some hse) = hse.freq

unfoldable pub hse_bytes : Option Hse → List ℕ
hse_bytes h =
    bit (hse_there h) ∷ bit (hse_bypass h)
    ∷ hse_hz h / 16777216 % 256 ∷ hse_hz h / 65536 % 256 ∷ hse_hz h / 256 % 256 ∷ hse_hz h % 256 ∷ []

module _ (p b c d e f hz : ℕ) (c8 : c < 256) (d8 : d < 256) (e8 : e < 256) (f8 : f < 256) (z : hz ≡ ((c * 256 + d) * 256 + e) * 256 + f) where
  hse_as : (t : Bool) → yes p ≡ t → hse_allowed p b hz ≡ true → hse_bytes (config_hse t (yes b) hz) ≡ p ∷ b ∷ c ∷ d ∷ e ∷ f ∷ []
  unfolding hse_bytes
  hse_as true q h =
      same (sym (eqb-true p 1 q))
      (same (said b (and_right (yes_or_no p) (yes_or_no b) (and_left _ _ h)))
      (same (omega (arith, c8, d8, e8, f8, z))
      (same (omega (arith, c8, d8, e8, f8, z)) (same (omega (arith, c8, d8, e8, f8, z)) (same (omega (arith, c8, d8, e8, f8, z)) refl)))))
  hse_as false q h =
      let none : (eqb b 0 && eqb hz 0) ≡ true = or_else (yes p) _ q (and_right (yes_or_no p && yes_or_no b) _ h) in
      let no-hz : hz ≡ 0 = eqb-true hz 0 (and_right (eqb b 0) _ none) in
      same (said_as p false q (and_left (yes_or_no p) (yes_or_no b) (and_left _ _ h)))
      (same (sym (eqb-true b 0 (and_left _ (eqb hz 0) none)))
      (same (omega (arith, z, no-hz)) (same (omega (arith, z, no-hz)) (same (omega (arith, z, no-hz)) (same (omega (arith, z, no-hz)) refl)))))

spelled : (l : List ℕ) → at l 2 < 256 → at l 3 < 256 → at l 4 < 256 → at l 5 < 256 →
    hse_hz_in l ≡ ((at l 2 * 256 + at l 3) * 256 + at l 4) * 256 + at l 5
unfolding bits_at
spelled l c8 d8 e8 f8 =
    let b2 = byte (at l 2) 0 c8 ∙ front (at l 2) in
    let b3 = byte (at l 3) _ d8 ∙ ap (λ (y : ℕ). y * 256 + at l 3) b2 in
    let b4 = byte (at l 4) _ e8 ∙ ap (λ (y : ℕ). y * 256 + at l 4) b3 in
    byte (at l 5) _ f8 ∙ ap (λ (y : ℕ). y * 256 + at l 5) b4

module _ (l : List ℕ) (small : (i : ℕ) → at l i < 256) where
  -- what is read of HSE's bytes gives them back
  pub hse_back : hse_allowed (at l 0) (at l 1) (hse_hz_in l) ≡ true →
      hse_bytes (config_hse (yes (at l 0)) (yes (at l 1)) (hse_hz_in l)) ≡ listed (at l) 6
  hse_back =
      hse_as (at l 0) (at l 1) (at l 2) (at l 3) (at l 4) (at l 5) (hse_hz_in l) (small 2) (small 3) (small 4) (small 5)
      (spelled l (small 2) (small 3) (small 4) (small 5)) (yes (at l 0)) refl

-- And the other way: a configuration is read of its bytes.

low_byte : (n : ℕ) → n % 256 < 256
low_byte n = omega arith

low_end : (n : ℕ) → n / 256 * 256 + n % 256 ≡ n
low_end n = omega arith

four : (hz : ℕ) → hz < 4294967296 → ((hz / 16777216 % 256 * 256 + hz / 65536 % 256) * 256 + hz / 256 % 256) * 256 + hz % 256 ≡ hz
four hz h =
    let third : hz / 65536 ≡ hz / 256 / 256 = omega arith in
    let fourth : hz / 16777216 % 256 ≡ hz / 256 / 256 / 256 = omega (arith, h) in
    rw (fourth, third, low_end (hz / 256 / 256), low_end (hz / 256)) (low_end hz)

-- a frequency of 32 bits, of its four bytes
pub hse_hz_read : (p b hz : ℕ) (l : List ℕ) → hz < 4294967296 →
    hse_hz_in (p ∷ b ∷ hz / 16777216 % 256 ∷ hz / 65536 % 256 ∷ hz / 256 % 256 ∷ hz % 256 ∷ l) ≡ hz
hse_hz_read p b hz l h =
    spelled (p ∷ b ∷ hz / 16777216 % 256 ∷ hz / 65536 % 256 ∷ hz / 256 % 256 ∷ hz % 256 ∷ l)
    (low_byte (hz / 16777216)) (low_byte (hz / 65536)) (low_byte (hz / 256)) (low_byte hz) ∙ four hz h

pub hse_says : (h : Option Hse) → hse_allowed (bit (hse_there h)) (bit (hse_bypass h)) (hse_hz h) ≡ true
hse_says None = refl
hse_says (Some hse) = rw (bit_says hse.bypass) refl

pub hse_read : (h : Option Hse) → config_hse (yes (bit (hse_there h))) (yes (bit (hse_bypass h))) (hse_hz h) ≡ h
hse_read None = refl
hse_read (Some hse) = ap (λ (b : Bool). Some (record { bypass = b; freq = hse.freq })) (flag_of_bit hse.bypass)

pub source_says : (s : Source) → yes_or_no (source_byte s) ≡ true
source_says source.Hsi = refl
source_says source.Hse = refl

pub source_read : (s : Source) → source_of (yes (source_byte s)) ≡ s
source_read source.Hsi = refl
source_read source.Hse = refl
