-- Bits of a list of bytes: place 0 is the most significant bit of the first byte. Past the end every bit is 0.
-- Assumes nothing.
use Rattle.std.specs.Prelude.{ℕ, zero, suc, ◌+◌, ◌-◌, ◌*◌, ◌/◌, ◌%◌, ◌^◌, Bool, true, false, cond, List, [], ◌∷◌, ◌++◌, length, get_or, take, drop, ltb, eqb}

-- the bit at place k
abbrev pub bit_at : List ℕ → ℕ → ℕ
bit_at s k = get_or s (k / 8) 0 / 2 ^ (7 - k % 8) % 2

-- the number that the n bits from place `at` on spell
unfoldable pub bits_at : List ℕ → ℕ → ℕ → ℕ
bits_at s at zero = 0
bits_at s at (suc n) = bits_at s at n * 2 + bit_at s (at + n)

-- a bit as a number
abbrev pub bit : Bool → ℕ
bit true = 1
bit false = 0

-- is the bit at place k set?
abbrev pub flag_at : List ℕ → ℕ → Bool
flag_at s k = eqb (bits_at s k 1) 1

-- the fields that a layout cuts out of the bytes, from place `at` on
abbrev pub cut : List ℕ → List ℕ → ℕ → List ℕ
cut [] s at = []
cut (w ∷ ws) s at = bits_at s at w ∷ cut ws s (at + w)

-- n, and never above the limit
abbrev pub up_to : ℕ → ℕ → ℕ
up_to limit n = cond (ltb n limit) n limit

-- widths above eight count as eight
abbrev pub narrowed : List ℕ → List ℕ
narrowed [] = []
narrowed (w ∷ ws) = up_to 8 w ∷ narrowed ws

-- the field k of a layout's first 256; 0 after the last
abbrev pub field_at : List ℕ → List ℕ → ℕ → ℕ
field_at ws s k = get_or (cut (narrowed (take 256 ws)) s 0) k 0

-- the lent bytes l after a load of n fields, and how many are loaded: those for which a byte is lent, and at most 256
abbrev pub loading : ℕ → List ℕ → List ℕ → List ℕ → List ℕ
loading n ws s l = cut (narrowed (take n ws)) s 0 ++ drop n l

abbrev pub loaded : List ℕ → List ℕ → List ℕ → List ℕ
loaded ws s l = loading (up_to 256 (up_to (length l) (length ws))) ws s l
