-- The timers' clock of each family, in document 01's words: "PCLK where the APB divisor is 1, else twice PCLK; for H4 always PCLK".
-- Assumes nothing.
use Rattle.std.specs.Prelude.{◌≡◌, refl, Bool, true, false, cond, ℕ, ◌*◌, eqb}
use Rattle.divider.specs.declared.Family.TheVariants.{V4x7, V1, V30x, H4}
use Rattle.tree.specs.Tree.{timer_clock}

-- V4x7, V1 (and L1, whose family that is) and V30x
abbrev twice_below : ℕ → ℕ → ℕ
twice_below d pclk = cond (eqb d 1) pclk (2 * pclk)

pub v4x7_timers : (d pclk : ℕ) → timer_clock V4x7 d pclk ≡ twice_below d pclk
unfolding timer_clock
v4x7_timers d pclk = refl

pub v1_timers : (d pclk : ℕ) → timer_clock V1 d pclk ≡ twice_below d pclk
unfolding timer_clock
v1_timers d pclk = refl

pub v30x_timers : (d pclk : ℕ) → timer_clock V30x d pclk ≡ twice_below d pclk
unfolding timer_clock
v30x_timers d pclk = refl

same : (b : Bool) (x : ℕ) → cond b x x ≡ x
same true x = refl
same false x = refl

pub h4_timers : (d pclk : ℕ) → timer_clock H4 d pclk ≡ pclk
unfolding timer_clock
h4_timers d pclk = same (eqb d 1) pclk
