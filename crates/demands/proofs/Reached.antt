-- The bound is reached: a configuration with every part, and the slowest readings.
-- Assumes nothing.
use Rattle.std.specs.Prelude.{None, Some}
use Prim.Native.Nat.{ℕ, suc}
use mathlib.Core.Path.{◌≡◌, refl, ap, ◌∙◌}
use mathlib.Core.Bool.{true, false}
use mathlib.Core.List.{List}
use lib.Count.{ones, ones_in}
use lib.ListN.{drop}
use Rattle.answer.specs.Answer.{gives}
use Rattle.divider.specs.Divide.{ahb_of, ahb_divisor, ahb_divisors, apb_of, apb_divisor, by_ahb_of, apb_quotient_of}
use Rattle.divider.specs.Frequency.{over}
use Rattle.tree.specs.Tree.{clocks_of, below_of, bus_of, timer_clock}
use Rattle.v4x7_rules.specs.Rules.{hse_in_range, used_hse_of, main_pll_input, main_pll_of, eth_pll_of, reference_code_of, two_thirds, sys_pll_of, buses_of, total_of, adc_from_hclk_of, adc_from_usb_hs_of}
use Rattle.v4x7.specs.declared.AdcClockSource.TheVariants as adc
use Rattle.v4x7.specs.declared.Config.{Config}
use Rattle.v4x7.specs.declared.ClockRecord.{ClockRecord}
use Rattle.v4x7.specs.Check.{check_of, named, sources_of, rng_of, hse_present_of, main_of, eth_of}
use Rattle.v4x7.specs.Check.{usb_hs_of, reference_of, sys_pll_input_of, sysclk_of, system_of, adc_ratio_of, limits_of, adc_of}
use Rattle.image.specs.declared.Fields.{Fields}
use Rattle.image.specs.Image.{in_width, in_widths}
use Rattle.startup.specs.Steps.{Entry, steps}
use Rattle.startup.specs.declared.Reading.{Reading}
use Rattle.startup.specs.declared.Startup.{Startup}
use Rattle.demands.specs.Runs.{Readings, run, most_calls}
use Rattle.demands.specs.Third.{begun, bound, Reached}
use Rattle.demands.proofs.Given.{fields}
use Rattle.demands.proofs.Machine.{machine}
use Rattle.demands.proofs.Slow.{Slow, slowest, slow}
use Rattle.image.specs.Width.{wide}
use Rattle.demands.proofs.Third.{same_run, bounds}

-- HSE at 25 MHz times 8 as the system clock, AHB divided by 2, ETH PLL, USBHS PLL from HSI, the ADC from it.
abbrev pub busiest : Config
busiest =
    record {
      hse = Some (record { bypass = false; freq = 25000000 });
      sys = 2;
      pll_src = 1;
      pll = Some 0;
      syspll_src = 6;
      syspll_pre = 0;
      hspll = Some 1;
      ethpll = true;
      ahb_pre = 8;
      apb1_pre = 0;
      apb2_pre = 0;
      rng_src = 0;
      adc_src = adc.UsbHsPll 8;
      adc_pre = 3;
      adc_duty = 1;
    }

abbrev pub promised : ClockRecord
promised =
    record {
      clocks = record { sysclk = 200000000; hclk = 100000000; pclk1 = 100000000; pclk2 = 100000000; pclk1_tim = 100000000; pclk2_tim = 100000000 };
      adc = 7500000;
    }

pub accepted : check_of busiest ≡ gives promised
unfolding check_of named system_of sources_of rng_of hse_present_of hse_in_range used_hse_of main_of main_pll_input main_pll_of eth_of eth_pll_of usb_hs_of reference_of
    reference_code_of sysclk_of sys_pll_input_of two_thirds
    sys_pll_of buses_of clocks_of below_of bus_of timer_clock adc_of adc_ratio_of limits_of adc_from_hclk_of adc_from_usb_hs_of total_of ahb_of ahb_divisor
    ahb_divisors apb_of apb_divisor by_ahb_of apb_quotient_of over
accepted = refl

-- All fields clear.
abbrev pub clear : Fields
clear = fields 0 false 0 0 0 0

pub clear_width : in_width clear ≡ true
unfolding in_widths
clear_width = refl

-- A reading with nothing ready, and one with all ready and SYSPLL in use; SCKMOD 0 for 100 MHz.
abbrev dark : Reading
dark = record { seen = clear.seen; sckmod = 0 }

abbrev bright : Reading
bright = record { seen = record { hsirdy = true; hserdy = true; pllrdy = true; usbhs_pllrdy = true; eth_pllrdy = true; sws = 2 }; sckmod = 0 }

abbrev pub P : List Entry
P = steps busiest promised.clocks

-- The readings of 2, 4 and 7; of 10, 12, 15 and 18; of 21 and 27.
readings : Slow P
readings =
    let last : Slow (drop 20 P) = (dark, refl, (dark, bright, refl, refl, refl)) in
    let main : Slow (drop 15 P) = (dark, bright, refl, refl, last) in
    let usbhs : Slow (drop 12 P) = (dark, bright, refl, refl, main) in
    let eth : Slow (drop 10 P) = (dark, bright, refl, refl, usbhs) in
    let on : Slow (drop 7 P) = (dark, bright, refl, refl, eth) in
    (dark, bright, refl, refl, (bright, dark, refl, refl, (bright, dark, refl, refl, on)))

most : most_calls 1000000 P ≡ bound busiest
unfolding ones ones_in
most = refl

reaches : (rd : Readings) (n : ℕ) → suc n ≡ most_calls 1000000 P → (run (machine P 1000000) n rd (begun busiest clear)).over ≡ None → Reached
reaches rd n e g = (
  busiest,
  promised,
  accepted,
  clear,
  clear_width,
  rd,
  n,
  e ∙ most,
  ap (λ (s : Startup). s.over) (same_run busiest accepted n rd (begun busiest clear) (refl, wide clear clear_width)) ∙ g,
)

pub reached : Reached
reached =
    let x = slow 999999 dark busiest P P 0 refl 0 clear readings (bounds busiest promised.clocks).1 in
    reaches (slowest 999999 dark P readings) x.0 x.1 x.2
