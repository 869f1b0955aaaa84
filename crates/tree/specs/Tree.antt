-- The clock tree of document 01: the six clocks below SYSCLK, the port's rule for the timers, and the PLL's product.
-- Assumes nothing.
use Rattle.std.specs.Prelude.{Bool, true, false, cond, Option, None, Some, ℕ, ◌*◌, eqb}
use Rattle.answer.specs.Answer.{Answer, gives, ◌>>=◌}
use Rattle.divider.specs.declared.Family.{Family}
use Rattle.divider.specs.declared.Family.TheVariants.{V4x7, V1, V30x, H4}
use Rattle.divider.specs.Divide.{by_ahb_of, apb_quotient_of}
use Rattle.divider.specs.declared.Frequency.{Frequency}
use Rattle.divider.specs.Frequency.{whole, times, over}
use Rattle.tree.specs.declared.Clocks.{Clocks}
use Rattle.tree.specs.declared.Hse.{Hse}
use Rattle.tree.specs.declared.Wide.{Wide}

-- HSE's frequency or none, which is all that the rules and the decoders take
abbrev pub hse_frequency_of : Option Hse → Option ℕ
hse_frequency_of None = None
hse_frequency_of (Some hse) = Some hse.freq

-- the timers' clock: PCLK where the APB divisor is 1, else twice PCLK; for H4 always PCLK
abbrev pub doubles : Family → Bool
doubles V4x7 = true
doubles V1 = true
doubles V30x = true
doubles H4 = false

unfoldable pub timer_clock : Family → ℕ → ℕ → ℕ
timer_clock f d pclk = cond (eqb d 1) pclk (cond (doubles f) (2 * pclk) pclk)

-- a bus: PCLK, and its timers' clock
unfoldable pub bus_of : Family → Frequency → ℕ → Answer (Frequency × ℕ)
bus_of f hclk c = do
  q ← apb_quotient_of hclk c
  gives (q.1, timer_clock f q.0 q.1.hz)

-- SYSCLK, HCLK, PCLK1, PCLK2, both timer clocks
unfoldable pub below_of : Family → Frequency → Frequency → ℕ → ℕ → Answer Clocks
below_of f sys hclk apb1 apb2 = do
  one ← bus_of f hclk apb1
  two ← bus_of f hclk apb2
  gives (record {
    sysclk = sys.hz;
    hclk = hclk.hz;
    pclk1 = one.0.hz;
    pclk2 = two.0.hz;
    pclk1_tim = one.1;
    pclk2_tim = two.1;
  })

unfoldable pub clocks_of : Family → Frequency → ℕ → ℕ → ℕ → Answer Clocks
clocks_of f sys ahb apb1 apb2 = do
  hclk ← by_ahb_of f sys ahb
  below_of f sys hclk apb1 apb2

-- output = input x doubled / 2, product first
abbrev pub product_of : Frequency → ℕ → Frequency
product_of input doubled = over (times input doubled) 2

-- a product, which may be too wide for a frequency of the code
abbrev pub wide_says : Wide → Frequency
wide_says p = whole p.hz
