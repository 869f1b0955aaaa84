-- Document 02's own example and cases worked by hand: for divisors a list of those that are given, and one of those that are refused; and so for ports.
-- Assumes nothing.
use Rattle.std.specs.Prelude.{ℕ, ◌≡◌, refl, List, [], ◌∷◌, map, ℤ, pos, negsuc}
use Rattle.answer.specs.Answer.{Answer, gives, refuses}
use Rattle.tree.specs.declared.Clocks.{Clocks}
use Rattle.serial.specs.Serial.{nearest_of, divisor_of, port_of}

-- PCLK and a rate, and what the divisor is; `negsuc n` is -(n + 1)
abbrev Row : Type 0
Row = (ℕ × ℕ) × Answer (ℕ × ℤ)

pub rows : List Row
rows =
    -- the request's own: 20,000,000 / 115,200 = 173.6
    ((20000000, 115200), gives (174, negsuc 44799))
    -- a rate that divides PCLK: no error
    ∷ ((16000000, 1000000), gives (16, pos 0))
    -- 15.5 is 16
    ∷ ((31, 2), gives (16, negsuc 0))
    -- 65,535 and 65,535.49 are 65,535
    ∷ ((65535, 1), gives (65535, pos 0))
    ∷ ((6553549, 100), gives (65535, pos 49))
    ∷ []

pub refusals : List Row
refusals =
    -- 15.49 is 15; 65,535.5 is 65,536
    ((1549, 100), refuses 34)
    ∷ ((131071, 2), refuses 34)
    -- 33 before 34
    ∷ ((0, 0), refuses 33)
    ∷ ((0, 1), refuses 34)
    ∷ []

pub found : Row → Answer (ℕ × ℤ)
found ((p, r), says) = divisor_of p r

pub wanted : Row → Answer (ℕ × ℤ)
wanted ((p, r), says) = says

pub rows_hold : map found rows ≡ map wanted rows
unfolding found wanted rows divisor_of nearest_of
rows_hold = refl

pub refusals_hold : map found refusals ≡ map wanted refusals
unfolding found wanted refusals divisor_of nearest_of
refusals_hold = refl

-- six clocks that are all different
unfoldable pub clocks : Clocks
clocks = record { sysclk = 64000000; hclk = 32000000; pclk1 = 8000000; pclk2 = 4000000; pclk1_tim = 16000000; pclk2_tim = 2000000 }

-- a bus and a rate, and what the port's divisor is
pub ports : List Row
ports =
    -- PCLK1 / 9,600 = 833.3, PCLK2 / 9,600 = 416.7
    ((1, 9600), gives (833, pos 3200))
    ∷ ((2, 9600), gives (417, negsuc 3199))
    ∷ []

pub port_refusals : List Row
port_refusals =
    -- 28 before 33 and 34
    ((0, 9600), refuses 28)
    ∷ ((3, 0), refuses 28)
    ∷ ((3, 8000000), refuses 28)
    ∷ ((1, 0), refuses 33)
    ∷ ((2, 4000000), refuses 34)
    ∷ []

pub found_port : Row → Answer (ℕ × ℤ)
found_port ((bus, r), says) = port_of clocks bus r

pub ports_hold : map found_port ports ≡ map wanted ports
unfolding found_port wanted ports clocks port_of divisor_of nearest_of
ports_hold = refl

pub port_refusals_hold : map found_port port_refusals ≡ map wanted port_refusals
unfolding found_port wanted port_refusals clocks port_of divisor_of nearest_of
port_refusals_hold = refl
