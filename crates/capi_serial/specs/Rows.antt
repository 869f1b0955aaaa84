-- Worked calls: PCLK and rate, and what is then returned and lent. 7 and -7 were lent, and a refusal leaves them. The first row is document 02's own;
-- in the last no BRR would be in range either, and 33 comes first.
-- Assumes nothing.
use Rattle.std.specs.Prelude.{ℕ, ◌≡◌, refl, List, [], ◌∷◌, map, ℤ, pos, negsuc}
use Rattle.serial.specs.Serial.{nearest_of, divisor_of}
use Rattle.capi_give.specs.Given.{number_in}
use Rattle.capi_serial.specs.Calls.{lent_after}

-- `negsuc n` is -(n + 1)
abbrev Row : Type 0
Row = (ℕ × ℕ) × ℕ × (ℕ × ℤ)

pub rows : List Row
rows =
    ((20000000, 115200), 0, (174, negsuc 44799))
    ∷ ((20000000, 9600), 0, (2083, pos 3200))
    ∷ ((20000000, 2000000), 34, (7, negsuc 6))
    ∷ ((0, 0), 33, (7, negsuc 6))
    ∷ []

pub called : Row → Row
called ((p, r), number, lent) = ((p, r), number_in (divisor_of p r), lent_after (7, negsuc 6) (divisor_of p r))

pub rows_hold : map called rows ≡ rows
unfolding called rows divisor_of nearest_of
rows_hold = refl
