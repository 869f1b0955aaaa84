-- Fractions worked by hand.
-- Assumes nothing.
use Rattle.std.specs.Prelude.{◌≡◌, refl, List, [], ◌∷◌, map, ℕ}
use Rattle.fraction.specs.declared.Fraction.{Fraction}
use Rattle.fraction.specs.Fraction.{repeated, gcd_of, lowest_of}

-- a source and a divisor, and the two in lowest terms
abbrev Row : Type 0
Row = (ℕ × ℕ) × (ℕ × ℕ)

pub rows : List Row
rows =
    -- a fraction is left
    ((100000012, 8), (25000003, 2))
    ∷ ((333333333, 6), (111111111, 2))
    -- none is left
    ∷ ((480000000, 2048), (234375, 1))
    ∷ ((20000000, 8), (2500000, 1))
    ∷ ((0, 8), (0, 1))
    -- nothing to divide by: 0xFFFF_FFFF is odd
    ∷ ((4294967295, 65536), (4294967295, 65536))
    -- a divisor of 0
    ∷ ((7, 0), (0, 0))
    ∷ []

parts : Fraction → ℕ × ℕ
parts x = (x.source, x.divisor)

pub found : Row → ℕ × ℕ
found ((a, b), terms) = parts (lowest_of a b)

pub wanted : Row → ℕ × ℕ
wanted ((a, b), terms) = terms

pub rows_hold : map found rows ≡ map wanted rows
unfolding rows parts found wanted lowest_of gcd_of repeated
rows_hold = refl
