-- Laws of CH32H4: each multiplier is its name's, and the timers run at PCLK.
-- Assumes nothing.
use Rattle.std.specs.Prelude.{◌≡◌, refl, Bool, List, [], ◌∷◌, ℕ, ◌*◌, ◌<◌, eqb, get_or}
use Rattle.std.proofs.Common.{eqb→eq}
use Rattle.answer.specs.Answer.{Answer, gives, refuses, ◌>>=◌}
use Rattle.divider.specs.declared.Family.TheVariants.{H4}
use Rattle.divider.specs.declared.Frequency.{Frequency}
use Rattle.divider.specs.Frequency.{whole, over}
use Rattle.divider.specs.Divide.{apb_of, apb_quotient_of, by_ahb_of, ahb_of, ahb_divisor, ahb_divisors, apb_divisor, fpre_divisor}
use Rattle.divider.specs.Laws.{by_apb_quotient}
use Rattle.divider.specs.Table.{at}
use Rattle.tree.specs.Tree.{bus_of, timer_clock, below_of}
use Rattle.tree.specs.Laws.{h4_timers}
use Rattle.h4.specs.H4.{doubles, pclk_of, prescaled_of}

-- the multipliers that 003's list names, in tenths: MUL4, MUL6, MUL7, MUL8, MUL8_5, ..
abbrev tenths : List ℕ
tenths =
    40 ∷ 60 ∷ 70 ∷ 80 ∷ 85 ∷ 90 ∷ 95 ∷ 100 ∷ 105 ∷ 110 ∷ 115 ∷ 120 ∷ 125 ∷ 130 ∷ 140 ∷ 150
    ∷ 160 ∷ 170 ∷ 180 ∷ 190 ∷ 200 ∷ 220 ∷ 240 ∷ 260 ∷ 280 ∷ 300 ∷ 320 ∷ 340 ∷ 360 ∷ 380 ∷ 400 ∷ 590 ∷ []

right : ℕ → ℕ → Bool
right i x = eqb (5 * x) (get_or tenths i 0)

-- by one test that antt computes over the list
pub named : (i : ℕ) → i < 32 → 5 * get_or doubles i 0 ≡ get_or tenths i 0
unfolding right
named i h = eqb→eq (5 * get_or doubles i 0) (get_or tenths i 0) (at right doubles tt i h)

-- what `bus_of` and `pclk_of` make of a divisor and its quotient
abbrev timed : Answer (ℕ × Frequency) → Answer (Frequency × ℕ)
timed m = do
  q ← m
  gives (q.1, timer_clock H4 q.0 q.1.hz)

abbrev quotient : Answer (ℕ × Frequency) → Answer Frequency
quotient m = do
  q ← m
  gives q.1

abbrev twin : Answer Frequency → Answer (Frequency × ℕ)
twin m = do
  pclk ← m
  gives (pclk, pclk.hz)

timer : (m : Answer (ℕ × Frequency)) → timed m ≡ twin (quotient m)
timer (gives q) = rw (h4_timers q.0 q.1.hz)
timer (refuses n) = refl

-- a bus of the record is that of `pclk_of`: timers always PCLK
pub bus_is : (hclk : Frequency) (c : ℕ) → bus_of H4 hclk c ≡ pclk_of hclk c
unfolding bus_of pclk_of
bus_is hclk c = rw (by_apb_quotient hclk c) (timer (apb_quotient_of hclk c))

-- 400 MHz with four different codes: HPRE 8 by 2 is the AHB clock, FPRE 2 by 4 HCLK, PPRE1 4 by 2 and PPRE2 5 by 4 the buses,
-- their timers as they are
pub worked : prescaled_of (whole 400000000) (record { hpre = 8; fpre = 2; ppre1 = 4; ppre2 = 5 }) ≡
    gives (
      200000000,
      record { sysclk = 400000000; hclk = 50000000; pclk1 = 25000000; pclk2 = 12500000; pclk1_tim = 25000000; pclk2_tim = 12500000 },
    )
unfolding prescaled_of by_ahb_of ahb_of ahb_divisor ahb_divisors below_of bus_of timer_clock apb_quotient_of apb_of apb_divisor fpre_divisor over
worked = refl
