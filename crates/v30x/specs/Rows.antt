-- Worked configurations and fields of CH32V30x, of the definitions: for the check a list of its own for the USBHS reference, one for the decoder, and one for both
-- by AHB code.
-- Assumes nothing.
use Rattle.std.specs.Prelude.{refl, Bool, true, false, List, [], ◌∷◌, Option, None, Some, ℕ}
use Rattle.answer.specs.Answer.{Answer, gives, refuses, ◌>>=◌}
use Rattle.divider.specs.Divide.{by_ahb_of, ahb_of, ahb_divisor, ahb_divisors, apb_quotient_of, apb_of, apb_divisor}
use Rattle.divider.specs.Frequency.{over}
use Rattle.tree.specs.Tree.{clocks_of, below_of, bus_of, timer_clock}
use Rattle.tree.specs.declared.Hse.{Hse}
use Rattle.pll32.specs.declared.Source.{Source}
use Rattle.pll32.specs.declared.Source.TheVariants as from
use Rattle.pll32.specs.declared.ClockRecord.{ClockRecord}
use Rattle.pll32.specs.Answers.{Worked}
use Rattle.pll32.specs.Pll.{factor, multiplied_of, pll_output_of, sysclk_of, usb_divisor, configured_clocks_of, decoded_sysclk_of, decoded_clocks_of}
use Rattle.v30x.specs.declared.PllSource.{PllSource}
use Rattle.v30x.specs.declared.PllSource.TheVariants as source
use Rattle.v30x.specs.declared.Pll.{Pll}
use Rattle.v30x.specs.declared.Config.{Config}
use Rattle.v30x.specs.declared.Fields.{Fields}
use Rattle.v30x.specs.V30x.{wide_config, pll_from_oscillator_of, configured_pll_of, usbhs_of, sources_of, check_of, wide_fields, setting_in, decode_of}

-- HSE, system clock, PLL source, PLL, `pllx`, the code of both APB prescalers, USBHS source, USBHS PLL; AHB at 1
setup : Option Hse → ℕ → PllSource → Option Pll → Bool → ℕ → Source → Option ℕ → Config
setup hse sys source pll pllx apb feeds usbhs =
    record {
      hse = hse;
      sys = sys;
      pll_src = source;
      pll = pll;
      pllx = pllx;
      ahb_pre = 0;
      apb1_pre = apb;
      apb2_pre = apb;
      hspll_src = feeds;
      hspll = usbhs;
    }

xtal : ℕ → Option Hse
xtal hz = Some (record { bypass = false; freq = hz })

-- a PLL, by the codes of its predivider and multiplier
on : ℕ → ℕ → Option Pll
on prediv mul = Some (record { prediv = prediv; mul = mul })

-- a configuration without `pllx` and USBHS PLL; one with a USBHS PLL
plain : Option Hse → ℕ → PllSource → Option Pll → Config
plain hse sys source pll = setup hse sys source pll false 0 from.Hsi None

usbhs : Option Hse → ℕ → PllSource → Option Pll → Source → ℕ → Config
usbhs hse sys source pll feeds pre = setup hse sys source pll false 0 feeds (Some pre)

-- A row: a configuration, and HCLK with the USB divisor doubled, or the refusal.
brief : Answer ClockRecord → Answer (ℕ × ℕ)
brief m = do
  a ← m
  gives (a.clocks.hclk, a.usb)

pub rows : List (Config × Answer (ℕ × ℕ))
rows =
    (plain None 0 source.Hsi None, gives (8000000, 0))
    ∷ (plain (xtal 25000000) 1 source.Hsi None, gives (25000000, 0))
    ∷ (plain (xtal 25000000) 2 source.Hsi (on 1 4), gives (24000000, 0))
    ∷ (plain None 2 source.Hsi (on 0 10), gives (96000000, 4))
    ∷ (plain (xtal 8000001) 2 source.Hse (on 0 13), gives (52000006, 0))
    ∷ (plain (xtal 330382099) 2 source.Hse (on 0 13), gives (2147483643, 0))
    ∷ (plain (xtal 330382100) 2 source.Hse (on 0 13), refuses 24)
    ∷ (plain (xtal 16000000) 2 source.Hse (on 15 0), gives (18000000, 0))
    ∷ (plain None 0 source.Pll2 None, gives (8000000, 0))
    ∷ (plain None 0 source.Pll2 (on 0 0), refuses 27)
    ∷ (setup None 0 source.Hse (on 0 0) true 0 from.Hsi None, refuses 27)
    ∷ (usbhs None 3 source.Hsi (on 2 0) from.Hse 0, refuses 25)
    ∷ (usbhs None 3 source.Hsi None from.Hse 0, refuses 3)
    ∷ (usbhs None 3 source.Hsi None from.Hsi 2, refuses 8)
    ∷ (usbhs None 3 source.Hsi None from.Hsi 8, refuses 28)
    ∷ (plain None 3 source.Hsi None, refuses 20)
    ∷ (plain None 2 source.Hsi None, refuses 26)
    ∷ []

-- the USBHS reference: 5, 4, 12.5, 4, 3, 4, 8 and 6 MHz
pub references : List (Config × Answer (ℕ × ℕ))
references =
    (usbhs (xtal 25000000) 2 source.Hse (on 4 10) from.Hse 4, gives (60000000, 0))
    ∷ (usbhs (xtal 25000000) 2 source.Hse (on 4 10) from.Hsi 1, gives (60000000, 0))
    ∷ (usbhs (xtal 25000000) 2 source.Hse (on 4 10) from.Hse 1, refuses 8)
    ∷ (usbhs (xtal 8000000) 2 source.Hse (on 0 0) from.Hse 1, gives (144000000, 6))
    ∷ (usbhs (xtal 24000000) 0 source.Hsi None from.Hse 7, gives (8000000, 0))
    ∷ (usbhs (xtal 12000000) 0 source.Hsi None from.Hse 2, gives (8000000, 0))
    ∷ (usbhs None 0 source.Hsi None from.Hsi 0, gives (8000000, 0))
    ∷ (usbhs (xtal 24000000) 0 source.Hsi None from.Hse 3, refuses 8)
    ∷ []

pub checks : Config → Answer (ℕ × ℕ)
checks c = brief (check_of c)

pub rows_hold : Worked checks rows
unfolding setup plain usbhs xtal on brief rows checks
    check_of wide_config sources_of configured_pll_of pll_from_oscillator_of usbhs_of configured_clocks_of pll_output_of multiplied_of factor sysclk_of usb_divisor
    clocks_of below_of bus_of timer_clock by_ahb_of ahb_of ahb_divisor ahb_divisors apb_quotient_of apb_of apb_divisor over
rows_hold = refl

pub references_hold : Worked checks references
unfolding setup usbhs xtal on brief references checks
    check_of wide_config sources_of configured_pll_of pll_from_oscillator_of usbhs_of configured_clocks_of pll_output_of multiplied_of factor sysclk_of usb_divisor
    clocks_of below_of bus_of timer_clock by_ahb_of ahb_of ahb_divisor ahb_divisors apb_quotient_of apb_of apb_divisor over
references_hold = refl

-- The configurations that the Rust names by their frequency: `SYSCLK_FREQ_144MHZ_HSE`, `144MHZ_HSI`, `96MHZ_HSI`. `SYSCLK_FREQ_96MHZ_HSE` has
-- `PllMul::MUL6` and so gives 48 MHz, half of what its name says.
pub named : List (Config × Answer ℕ)
named =
    (setup (xtal 8000000) 2 source.Hse (on 0 0) false 0 from.Hse (Some 1), gives 144000000)
    ∷ (setup None 2 source.Hsi (on 0 0) false 0 from.Hsi (Some 1), gives 144000000)
    ∷ (setup None 2 source.Hsi (on 0 10) false 5 from.Hsi (Some 1), gives 96000000)
    ∷ (setup (xtal 8000000) 2 source.Hse (on 0 4) false 0 from.Hse (Some 1), gives 48000000)
    ∷ []

pub runs : Config → Answer ℕ
runs c = do
  a ← check_of c
  gives a.clocks.sysclk

pub named_hold : Worked runs named
unfolding setup xtal on named runs
    check_of wide_config sources_of configured_pll_of pll_from_oscillator_of usbhs_of configured_clocks_of pll_output_of multiplied_of factor sysclk_of usb_divisor
    clocks_of below_of bus_of timer_clock by_ahb_of ahb_of ahb_divisor ahb_divisors apb_quotient_of apb_of apb_divisor over
named_hold = refl

-- SWS, PLLSRC, PREDIV1, PREDIV1SRC, PLLMUL, the HSI bit; the prescalers at 1
fields : ℕ → Bool → ℕ → Bool → ℕ → Bool → Fields
fields sws src less pll2 mul hsi =
    record { sws = sws; pllsrc = src; prediv1 = less; prediv1src = pll2; pllmul = mul; hpre = 0; ppre1 = 0; ppre2 = 0; hsipre = hsi }

pub readings : List ((Fields × Option ℕ) × Answer ℕ)
readings =
    ((fields 2 true 1 false 0 false, Some 16000000), gives 144000000)
    ∷ ((fields 1 false 1 false 0 false, Some 25000000), gives 25000000)
    ∷ ((fields 2 true 4 false 10 false, Some 25000000), gives 60000000)
    ∷ ((fields 2 false 4 false 10 true, Some 25000000), gives 96000000)
    ∷ ((fields 2 false 1 true 0 false, None), gives 72000000)
    ∷ ((fields 3 true 1 true 0 false, None), gives 8000000)
    ∷ ((fields 2 true 1 true 0 false, None), refuses 27)
    ∷ ((fields 2 true 1 false 0 false, None), refuses 3)
    ∷ ((fields 2 true 0 false 13 false, Some 330382100), refuses 24)
    ∷ ((fields 2 true 16 true 0 false, None), refuses 28)
    ∷ []

pub reads : Fields × Option ℕ → Answer ℕ
reads q = do
  k ← decode_of q.0 q.1
  gives k.hclk

pub readings_hold : Worked reads readings
unfolding fields readings reads
    decode_of wide_fields setting_in decoded_clocks_of decoded_sysclk_of pll_output_of multiplied_of factor
    clocks_of below_of bus_of timer_clock by_ahb_of ahb_of ahb_divisor ahb_divisors apb_quotient_of apb_of apb_divisor over
readings_hold = refl

-- Document 02, K4: a board at 144 MHz, HSE by 18, by the AHB codes 11 to 15, which divide by 16, 64, 128, 256 and 512: HCLK, and the timers of the first bus,
-- which divides by 4.
pub prescaled : List (ℕ × Answer (ℕ × ℕ))
prescaled =
    (11, gives (9000000, 4500000))
    ∷ (12, gives (2250000, 1125000))
    ∷ (13, gives (1125000, 562500))
    ∷ (14, gives (562500, 281250))
    ∷ (15, gives (281250, 140624))
    ∷ []

pub checked_at : ℕ → Answer (ℕ × ℕ)
checked_at ahb = do
  a ← check_of (record {
    hse = xtal 8000000;
    sys = 2;
    pll_src = source.Hse;
    pll = on 0 0;
    pllx = false;
    ahb_pre = ahb;
    apb1_pre = 5;
    apb2_pre = 0;
    hspll_src = from.Hsi;
    hspll = None;
  })
  gives (a.clocks.hclk, a.clocks.pclk1_tim)

pub decoded_at : ℕ → Answer (ℕ × ℕ)
decoded_at hpre = do
  k ← decode_of
      (record { sws = 2; pllsrc = true; prediv1 = 0; prediv1src = false; pllmul = 0; hpre = hpre; ppre1 = 5; ppre2 = 0; hsipre = false })
      (Some 8000000)
  gives (k.hclk, k.pclk1_tim)

pub prescaled_hold : Worked checked_at prescaled × Worked decoded_at prescaled
unfolding xtal on prescaled checked_at decoded_at
    check_of wide_config sources_of configured_pll_of pll_from_oscillator_of usbhs_of configured_clocks_of sysclk_of usb_divisor
    decode_of wide_fields setting_in decoded_clocks_of decoded_sysclk_of pll_output_of multiplied_of factor
    clocks_of below_of bus_of timer_clock by_ahb_of ahb_of ahb_divisor ahb_divisors apb_quotient_of apb_of apb_divisor over
prescaled_hold = (refl, refl)
