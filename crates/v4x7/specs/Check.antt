-- The V4x7 check of document 01, "V4x7 check, in order". A `do` block refuses by its first refusal. 000 is v4x7.rs.
-- Assumes nothing.
use Rattle.std.specs.Prelude.{Bool, true, false, cond, not, Option, None, Some, ◌&&◌, ◌||◌, List, [], ◌∷◌, ℕ, ◌+◌, ◌*◌, ◌/◌, ltb, leb, eqb}
use Rattle.answer.specs.Answer.{Answer, gives, refuse, ◌>>=◌, ◌>>◌}
use Rattle.answer.specs.Tests.{every}
use Rattle.divider.specs.declared.Frequency.{Frequency}
use Rattle.divider.specs.Frequency.{whole, over}
use Rattle.tree.specs.declared.Hse.{Hse}
use Rattle.tree.specs.Tree.{hse_frequency_of}
use Rattle.v4x7_rules.specs.Rules.{hse_in_range, used_hse_of, main_pll_of, eth_pll_of, reference_code_of, sys_pll_of, buses_of, adc_from_hclk_of, adc_from_usb_hs_of}
use Rattle.v4x7.specs.declared.AdcClockSource.{AdcClockSource}
use Rattle.v4x7.specs.declared.AdcClockSource.TheVariants as adc
use Rattle.v4x7.specs.declared.Config.{Config}
use Rattle.v4x7.specs.declared.ClockRecord.{ClockRecord}

-- Codes that have a name in 000.

abbrev pub named_pll : Option ℕ → Bool
named_pll None = true
named_pll (Some m) = leb m 31

abbrev pub named_hs_pll : Option ℕ → Bool
named_hs_pll None = true
named_hs_pll (Some s) = leb s 2

abbrev pub named_ahb : ℕ → Bool
named_ahb a = eqb a 0 || leb 8 a && leb a 15

abbrev pub named_apb : ℕ → Bool
named_apb a = eqb a 0 || leb 4 a && leb a 7

abbrev pub named_dividers : ℕ → ℕ → ℕ → Bool
named_dividers ahb apb1 apb2 = (named_ahb ahb && named_apb apb1) && named_apb apb2

abbrev pub named_source : ℕ → Bool
named_source s = leb s 3 || eqb s 6

unfoldable pub named : Config → List Bool
named c =
    named_ahb c.ahb_pre ∷ named_apb c.apb1_pre ∷ named_apb c.apb2_pre
    ∷ named_pll c.pll ∷ named_hs_pll c.hspll ∷ leb c.sys 2 ∷ leb c.pll_src 1
    ∷ named_source c.syspll_src ∷ leb c.syspll_pre 7
    ∷ leb c.rng_src 2 ∷ leb c.adc_pre 3 ∷ leb c.adc_duty 2 ∷ []

abbrev pub named_of : Config → Bool
named_of c = every (named c)

-- Parts that are configured.

abbrev pub has_hse : Option Hse → Bool
has_hse None = false
has_hse (Some hse) = true

abbrev pub has_main : Option ℕ → Bool
has_main None = false
has_main (Some m) = true

abbrev pub has_usb_hs : Option ℕ → Bool
has_usb_hs None = false
has_usb_hs (Some s) = true

-- RNG (1, 2)
unfoldable pub rng_of : ℕ → Option ℕ → Bool → Answer (Unit {0})
rng_of source hspll eth = do
  refuse 1 (eqb source 1 && not (has_usb_hs hspll))
  refuse 2 (eqb source 2 && not eth)

-- HSE if present (4)
unfoldable pub hse_present_of : Option ℕ → Answer (Unit {0})
hse_present_of None = gives tt
hse_present_of (Some hz) = hse_in_range hz

-- main PLL if present, used or not: 3 where its source is HSE and absent, then 5
unfoldable pub main_of : Option ℕ → ℕ → Option ℕ → Answer (Option Frequency)
main_of hse source None = gives None
main_of hse source (Some m) = do
  main ← main_pll_of hse (eqb source 1) m
  gives (Some main)

-- ETH PLL: 3, 6
unfoldable pub eth_of : Option ℕ → Bool → Answer (Unit {0})
eth_of hse false = gives tt
eth_of hse true = eth_pll_of hse

-- USBHS PLL: HSE source 3; ETH source 7, else 20 MHz
unfoldable pub reference_of : Option ℕ → Bool → ℕ → Answer Frequency
reference_of hse eth source = cond (eqb source 0) (used_hse_of hse) (do
  refuse 7 (eqb source 2 && not eth)
  gives (whole 20000000))

-- then 8
unfoldable pub usb_hs_of : Option ℕ → Bool → Option ℕ → Answer (Unit {0})
usb_hs_of hse eth None = gives tt
usb_hs_of hse eth (Some source) = do
  x ← reference_of hse eth source
  reference_code_of x.hz
  gives tt

-- RNG, HSE, main PLL, ETH PLL, USBHS PLL; the main PLL's output
unfoldable pub sources_of : Config → Answer (Option Frequency)
sources_of c = do
  rng_of c.rng_src c.hspll c.ethpll
  hse_present_of (hse_frequency_of c.hse)
  main ← main_of (hse_frequency_of c.hse) c.pll_src c.pll
  eth_of (hse_frequency_of c.hse) c.ethpll
  usb_hs_of (hse_frequency_of c.hse) c.ethpll c.hspll
  gives main

-- PLL by source (9, 10, 11)
unfoldable pub sys_pll_input_of : Option Frequency → Option ℕ → Bool → ℕ → Answer Frequency
sys_pll_input_of main hspll eth source = do
  refuse 10 ((eqb source 0 || eqb source 2) && not (has_usb_hs hspll))
  refuse 11 ((eqb source 1 || eqb source 3) && not eth)
  sys_pll_of source main

-- SYSCLK: HSI; HSE (3); PLL by source, then divided by 1..8
unfoldable pub sysclk_of : Option Frequency → Config → Answer Frequency
sysclk_of main c = cond (eqb c.sys 0) (gives (whole 20000000)) (cond (eqb c.sys 1) (used_hse_of (hse_frequency_of c.hse)) (do
  input ← sys_pll_input_of main c.hspll c.ethpll c.syspll_src
  gives (over input (c.syspll_pre + 1))))

-- SYSCLK, after all sources
unfoldable pub system_of : Config → Answer Frequency
system_of c = do
  main ← sources_of c
  sysclk_of main c

-- ADC 13, 14: source SYSCLK or 480 MHz, and the total divisor
unfoldable pub adc_ratio_of : ℕ → ℕ → ℕ → ℕ → Option ℕ → AdcClockSource → Answer (ℕ × ℕ)
adc_ratio_of sys ahb apb2 pre hspll adc.Hclk = adc_from_hclk_of sys ahb apb2 pre
adc_ratio_of sys ahb apb2 pre hspll (adc.UsbHsPll d) = do
  refuse 13 (not (has_usb_hs hspll))
  adc_from_usb_hs_of d apb2 pre

-- 15, 16: source > 30,000,000 x total divisor; below 1 Hz
unfoldable pub limits_of : ℕ → ℕ → Answer ℕ
limits_of source total = do
  refuse 15 (ltb (30000000 * total) source)
  refuse 16 (eqb (source / total) 0)
  gives (source / total)

unfoldable pub adc_of : ℕ → Config → Answer ℕ
adc_of sys c = do
  x ← adc_ratio_of sys c.ahb_pre c.apb2_pre c.adc_pre c.hspll c.adc_src
  limits_of x.0 x.1

-- HCLK (12). ADC 13, 14, 15, 16. The answer: the six clocks and, apart, the ADC frequency
abbrev pub record_of : Frequency → Config → Answer ClockRecord
record_of sys c = do
  clocks ← buses_of sys c.ahb_pre c.apb1_pre c.apb2_pre
  adc ← adc_of sys.hz c
  gives (record { clocks = clocks; adc = adc })

-- The check: 28 before anything else, then in order
unfoldable pub check_of : Config → Answer ClockRecord
check_of c = do
  refuse 28 (not (named_of c))
  sys ← system_of c
  record_of sys c
