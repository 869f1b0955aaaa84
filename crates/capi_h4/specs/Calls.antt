-- The calls of CH32H4 on numbers.
-- Assumes nothing.
use Rattle.std.specs.Prelude.{ℕ}
use Rattle.answer.specs.Answer.{Answer, gives, ◌>>=◌}
use Rattle.divider.specs.declared.Frequency.{Frequency}
use Rattle.divider.specs.Frequency.{whole}
use Rattle.tree.specs.declared.Clocks.{Clocks}
use Rattle.h4.specs.H4.{pclk_of, prescaled_of}

-- a frequency as a number
abbrev pub in_hertz : Answer Frequency → Answer ℕ
in_hertz m = do
  x ← m
  gives x.hz

-- a bus: PCLK and its timers' clock
unfoldable pub bus_words_of : ℕ → ℕ → Answer (ℕ × ℕ)
bus_words_of hclk ppre = do
  bus ← pclk_of (whole hclk) ppre
  gives (bus.0.hz, bus.1)

-- the six clocks and the AHB clock, by the four codes
unfoldable pub clocks_ahb_of : ℕ → ℕ → ℕ → ℕ → ℕ → Answer (Clocks × ℕ)
clocks_ahb_of sys hpre fpre ppre1 ppre2 = do
  a ← prescaled_of (whole sys) (record { hpre = hpre; fpre = fpre; ppre1 = ppre1; ppre2 = ppre2 })
  gives (a.1, a.0)
