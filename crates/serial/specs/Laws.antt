-- What document 02 says of BRR and its error, over every PCLK and every rate above 0.
-- The theorems stand in proofs/Laws.antt. Assumes nothing.
use Rattle.std.specs.Prelude.{◌≡◌, ◌↔◌, ℕ, ◌+◌, ◌-◌, ◌*◌, ◌<◌, ◌≤◌}
use Rattle.std.specs.Int.{◌∣◌}
use lib.IntN.{ℤ, pos, ◌+ℤ◌}

-- how far two numbers are apart
abbrev pub apart : ℕ → ℕ → ℕ
apart a b = (a - b) + (b - a)

-- BRR is the nearest whole number to p / r: no other is nearer, and of two as near it is the higher. (From p / r to m it is as far as from p to r x m,
-- divided by r.)
pub record Nearest (p r brr : ℕ) : Type 0 where
  pub none_nearer : (m : ℕ) → apart p (r * brr) ≤ apart p (r * m)
  pub the_higher : (m : ℕ) → apart p (r * m) ≡ apart p (r * brr) → m ≤ brr

-- r x BRR is at most half of r away from p: above it by half, or below it by less
pub record Near (p r x : ℕ) : Type 0 where
  pub above : 2 * x ≤ 2 * p + r
  pub below : 2 * p < 2 * x + r

-- So of a divisor that is given: BRR is the nearest, its error is what rate x BRR lacks to PCLK, and is 0 exactly if the rate divides PCLK.
pub record Sets (p r brr : ℕ) (error : ℤ) : Type 0 where
  pub is_nearest : Nearest p r brr
  pub reaches : error +ℤ pos (r * brr) ≡ pos p
  pub zero_exactly : (error ≡ pos 0) ↔ (r ∣ p)
