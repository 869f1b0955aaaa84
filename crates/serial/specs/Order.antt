-- Why a serial divisor is refused, in document 02's order. That BRR is outside 16..65,535 is said of the quotient: it is below 15.5, or 65,535.5 and more.
-- The theorems stand in proofs/Order.antt. Assumes nothing.
use Rattle.std.specs.Prelude.{cond, not, ◌&&◌, List, [], ◌∷◌, ℕ, ◌*◌, ltb, leb, eqb}
use Rattle.answer.specs.Order.{Test}
use Rattle.tree.specs.declared.Clocks.{Clocks}

-- 33: rate 0; 34: PCLK / rate below 15.5, or 65,535.5 and more
abbrev pub divisor_tests : ℕ → ℕ → List Test
divisor_tests p r = (33, eqb r 0) ∷ (34, ltb (2 * p) (31 * r)) ∷ (34, leb (131071 * r) (2 * p)) ∷ []

-- the clock of bus 1 or 2
abbrev pub pclk_at : Clocks → ℕ → ℕ
pclk_at k bus = cond (eqb bus 1) k.pclk1 k.pclk2

-- 28: another bus; then the divisor's
abbrev pub port_tests : Clocks → ℕ → ℕ → List Test
port_tests k bus r = (28, not (eqb bus 1) && not (eqb bus 2)) ∷ divisor_tests (pclk_at k bus) r
