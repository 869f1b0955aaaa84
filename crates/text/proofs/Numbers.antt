-- A number that is spelt at the end of ten bytes, as a part of a text.
-- Assumes nothing.
use mathlib.Core.Path.{◌≡◌}
use mathlib.Core.List.{List, ◌∷◌}
use Prim.Native.Nat.{ℕ, ◌+◌, ◌-◌}
use native.Mathlib.Omega.{arith}
use lib.ListN.{length, take, drop, length-append}
use lib.Seq.{take_all}
use Rattle.text.specs.Decimal.{decimal}
use Rattle.text.specs.Text.{line_of}

-- the part from its first digit on
pub number_part : (ten : List ℕ) (first n : ℕ) → drop first ten ≡ decimal n → first + length (decimal n) ≡ 10 → take (10 - first) (drop first ten) ≡ decimal n
number_part ten first n e s = rw e (take_all (10 - first) (decimal n) (omega arith))

-- the length of its line
pub line_length : (name : List ℕ) (first n : ℕ) → first + length (decimal n) ≡ 10 → length name + (12 - first) ≡ length (line_of name n)
unfolding line_of
line_length name first n s = simp length-append (omega arith)

-- the length of the number behind a minus sign
pub minus_length : (first n : ℕ) → first + length (decimal n) ≡ 10 → 11 - first ≡ length (45 ∷ decimal n)
minus_length first n s = omega arith
