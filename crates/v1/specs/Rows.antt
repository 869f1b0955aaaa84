-- Worked configurations and fields of CH32V1 and CH32L1, of the definitions: a list and a statement for the check, for the decoder, and for both by AHB code.
-- Assumes nothing.
use Rattle.std.specs.Prelude.{refl, Bool, true, false, List, [], ◌∷◌, Option, None, Some, ℕ}
use Rattle.answer.specs.Answer.{Answer, gives, refuses, ◌>>=◌}
use Rattle.divider.specs.Divide.{by_ahb_of, ahb_of, ahb_divisor, ahb_divisors, apb_quotient_of, apb_of, apb_divisor}
use Rattle.divider.specs.Frequency.{over}
use Rattle.tree.specs.Tree.{clocks_of, below_of, bus_of, timer_clock}
use Rattle.tree.specs.declared.Hse.{Hse}
use Rattle.pll32.specs.declared.Source.{Source}
use Rattle.pll32.specs.declared.Source.TheVariants as from
use Rattle.pll32.specs.declared.ClockRecord.{ClockRecord}
use Rattle.pll32.specs.Answers.{Worked}
use Rattle.pll32.specs.Pll.{factor, multiplied_of, pll_output_of, sysclk_of, usb_divisor, configured_clocks_of, decoded_sysclk_of, decoded_clocks_of}
use Rattle.v1.specs.declared.Chip.{Chip}
use Rattle.v1.specs.declared.Chip.TheVariants.{V1, L1}
use Rattle.v1.specs.declared.PllPreDiv.{PllPreDiv}
use Rattle.v1.specs.declared.PllPreDiv.TheVariants.{Div1, Div2}
use Rattle.v1.specs.declared.Pll.{Pll}
use Rattle.v1.specs.declared.Config.{Config}
use Rattle.v1.specs.declared.Fields.{Fields}
use Rattle.v1.specs.V1.{wide_config, configured_pll_of, check_of, setting_in, decode_of}

-- HSE, system clock, PLL source, PLL, the code of both APB prescalers; AHB at 1
setup_at : Option Hse → ℕ → Source → Option Pll → ℕ → Config
setup_at hse sys source pll apb =
    record { hse = hse; sys = sys; pll_src = source; pll = pll; ahb_pre = 0; apb1_pre = apb; apb2_pre = apb }

-- the prescalers at 1
setup : Option Hse → ℕ → Source → Option Pll → Config
setup hse sys source pll = setup_at hse sys source pll 0

xtal : ℕ → Option Hse
xtal hz = Some (record { bypass = false; freq = hz })

-- a PLL, by its predivider and the code of its multiplier
on : PllPreDiv → ℕ → Option Pll
on prediv mul = Some (record { prediv = prediv; mul = mul })

-- A row: a configuration, and HCLK with the USB divisor doubled, or the refusal.
brief : Answer ClockRecord → Answer (ℕ × ℕ)
brief m = do
  a ← m
  gives (a.clocks.hclk, a.usb)

pub rows : List ((Chip × Config) × Answer (ℕ × ℕ))
rows =
    ((V1, setup None 0 from.Hsi None), gives (8000000, 0))
    ∷ ((V1, setup (xtal 25000000) 1 from.Hsi None), gives (25000000, 0))
    ∷ ((V1, setup (xtal 25000000) 2 from.Hse (on Div2 6)), gives (100000000, 0))
    ∷ ((V1, setup (xtal 25000000) 2 from.Hsi (on Div2 6)), gives (32000000, 0))
    ∷ ((V1, setup (xtal 8000000) 2 from.Hse (on Div1 7)), gives (72000000, 3))
    ∷ ((V1, setup None 2 from.Hsi (on Div1 4)), gives (48000000, 2))
    ∷ ((V1, setup (xtal 8000000) 2 from.Hse (on Div1 10)), gives (96000000, 0))
    ∷ ((L1, setup (xtal 8000000) 2 from.Hse (on Div1 10)), gives (96000000, 4))
    ∷ ((V1, setup None 2 from.Hsi (on Div2 15)), gives (64000000, 0))
    ∷ ((L1, setup None 2 from.Hsi (on Div2 15)), gives (72000000, 3))
    ∷ ((V1, setup (xtal 268435455) 2 from.Hse (on Div1 15)), gives (4294967280, 0))
    ∷ ((V1, setup (xtal 268435456) 0 from.Hse (on Div1 15)), refuses 24)
    ∷ ((V1, setup None 3 from.Hse (on Div1 16)), refuses 28)
    ∷ ((V1, setup None 3 from.Hse (on Div1 0)), refuses 3)
    ∷ ((V1, setup None 3 from.Hsi None), refuses 20)
    ∷ ((V1, setup None 1 from.Hsi None), refuses 3)
    ∷ ((V1, setup None 2 from.Hsi None), refuses 26)
    ∷ []

pub checks : Chip × Config → Answer (ℕ × ℕ)
checks q = brief (check_of q.0 q.1)

pub rows_hold : Worked checks rows
unfolding setup setup_at xtal on brief rows checks
    check_of wide_config configured_pll_of configured_clocks_of pll_output_of multiplied_of factor sysclk_of usb_divisor
    clocks_of below_of bus_of timer_clock by_ahb_of ahb_of ahb_divisor ahb_divisors apb_quotient_of apb_of apb_divisor over
rows_hold = refl

-- The configurations that the Rust names by their frequency: `SYSCLK_FREQ_48MHZ_HSE`, 72, 96, then `SYSCLK_FREQ_48MHZ_HSI`, 72, 96.
pub named : List (Config × Answer ℕ)
named =
    (setup_at (xtal 8000000) 2 from.Hse (on Div1 4) 0, gives 48000000)
    ∷ (setup_at (xtal 8000000) 2 from.Hse (on Div1 7) 4, gives 72000000)
    ∷ (setup_at (xtal 8000000) 2 from.Hse (on Div1 10) 4, gives 96000000)
    ∷ (setup_at None 2 from.Hsi (on Div1 4) 0, gives 48000000)
    ∷ (setup_at None 2 from.Hsi (on Div1 7) 4, gives 72000000)
    ∷ (setup_at None 2 from.Hsi (on Div1 10) 4, gives 96000000)
    ∷ []

pub runs : Chip → Config → Answer ℕ
runs chip c = do
  a ← check_of chip c
  gives a.clocks.sysclk

pub named_hold : (chip : Chip) → Worked (runs chip) named
unfolding setup_at xtal on named runs
    check_of wide_config configured_pll_of configured_clocks_of pll_output_of multiplied_of factor sysclk_of usb_divisor
    clocks_of below_of bus_of timer_clock by_ahb_of ahb_of ahb_divisor ahb_divisors apb_quotient_of apb_of apb_divisor over
named_hold V1 = refl
named_hold L1 = refl

-- SWS, PLLSRC, PLLXTPRE, PLLMUL, the HSI bit; the prescalers at 1
fields : ℕ → Bool → Bool → ℕ → Bool → Fields
fields sws src half mul hsi =
    record { sws = sws; pllsrc = src; pllxtpre = half; pllmul = mul; hpre = 0; ppre1 = 0; ppre2 = 0; hsipre = hsi }

pub readings : List ((Fields × Option ℕ) × Answer ℕ)
readings =
    ((fields 2 true true 7 false, Some 16000000), gives 72000000)
    ∷ ((fields 1 false false 0 false, Some 25000000), gives 25000000)
    ∷ ((fields 2 true false 6 false, Some 25000000), gives 200000000)
    ∷ ((fields 2 false false 6 true, Some 25000000), gives 64000000)
    ∷ ((fields 2 false true 15 false, None), gives 64000000)
    ∷ ((fields 3 true true 7 false, None), gives 8000000)
    ∷ ((fields 0 true true 7 false, None), gives 8000000)
    ∷ ((fields 2 true true 7 false, None), refuses 3)
    ∷ ((fields 2 true false 15 false, Some 268435456), refuses 24)
    ∷ ((fields 0 true false 16 false, None), refuses 28)
    ∷ []

pub reads : Fields × Option ℕ → Answer ℕ
reads q = do
  k ← decode_of V1 q.0 q.1
  gives k.hclk

pub readings_hold : Worked reads readings
unfolding fields readings reads
    decode_of setting_in decoded_clocks_of decoded_sysclk_of pll_output_of multiplied_of factor
    clocks_of below_of bus_of timer_clock by_ahb_of ahb_of ahb_divisor ahb_divisors apb_quotient_of apb_of apb_divisor over
readings_hold = refl

-- Document 02, K4: HSI by the AHB codes 11 to 15, which divide by 16, 64, 128, 256 and 512: HCLK, and the timers of the first bus, which divides by 2.
pub prescaled : List (ℕ × Answer (ℕ × ℕ))
prescaled =
    (11, gives (500000, 500000))
    ∷ (12, gives (125000, 125000))
    ∷ (13, gives (62500, 62500))
    ∷ (14, gives (31250, 31250))
    ∷ (15, gives (15625, 15624))
    ∷ []

pub checked_at : Chip → ℕ → Answer (ℕ × ℕ)
checked_at chip ahb = do
  a ← check_of chip (record { hse = None; sys = 0; pll_src = from.Hsi; pll = None; ahb_pre = ahb; apb1_pre = 4; apb2_pre = 0 })
  gives (a.clocks.hclk, a.clocks.pclk1_tim)

pub decoded_at : Chip → ℕ → Answer (ℕ × ℕ)
decoded_at chip hpre = do
  k ← decode_of chip
      (record { sws = 0; pllsrc = false; pllxtpre = false; pllmul = 0; hpre = hpre; ppre1 = 4; ppre2 = 0; hsipre = false })
      None
  gives (k.hclk, k.pclk1_tim)

pub prescaled_hold : (chip : Chip) → Worked (checked_at chip) prescaled × Worked (decoded_at chip) prescaled
unfolding prescaled checked_at decoded_at
    check_of wide_config configured_pll_of configured_clocks_of sysclk_of usb_divisor decode_of setting_in decoded_clocks_of decoded_sysclk_of
    clocks_of below_of bus_of timer_clock by_ahb_of ahb_of ahb_divisor ahb_divisors apb_quotient_of apb_of apb_divisor over
prescaled_hold V1 = (refl, refl)
prescaled_hold L1 = (refl, refl)
