-- Document 02, K1: a serial divisor and its error, of a bus's clock and a wanted rate.
-- Assumes nothing.
use Rattle.std.specs.Prelude.{ℕ, ◌+◌, ◌*◌, ◌/◌, cond, ◌||◌, ltb, eqb, ℤ, pos, ◌-ℤ◌}
use Rattle.answer.specs.Answer.{Answer, gives, refuses, refuse, ◌>>=◌, ◌>>◌}
use Rattle.tree.specs.declared.Clocks.{Clocks}

-- the nearest whole number to p / r, halves up: p / r + 1/2 rounded down. Laws.antt says it of every other whole number.
unfoldable pub nearest_of : ℕ → ℕ → ℕ
nearest_of p r = (2 * p + r) / (2 * r)

-- the signed error
abbrev pub error_of : ℕ → ℕ → ℕ → ℤ
error_of p r brr = pos p -ℤ pos (r * brr)

-- BRR and its error: 33 for rate 0, then 34 for BRR outside 16..65,535
unfoldable pub divisor_of : ℕ → ℕ → Answer (ℕ × ℤ)
divisor_of p r = do
  refuse 33 (eqb r 0)
  refuse 34 (ltb (nearest_of p r) 16 || ltb 65535 (nearest_of p r))
  gives (nearest_of p r, error_of p r (nearest_of p r))

-- the clock of a bus: 1 or 2; 28 for another
abbrev pub bus_clock_of : Clocks → ℕ → Answer ℕ
bus_clock_of k bus = cond (eqb bus 1) (gives k.pclk1) (cond (eqb bus 2) (gives k.pclk2) (refuses 28))

-- a port: the bus, then the rate
unfoldable pub port_of : Clocks → ℕ → ℕ → Answer (ℕ × ℤ)
port_of k bus r = do
  pclk ← bus_clock_of k bus
  divisor_of pclk r
