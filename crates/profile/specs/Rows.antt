-- Rows A1 to A11 of document 01, of the definitions of the reader and the check: one list and one statement. A row is ten profile bytes, the
-- configuration that they are, and what the check says of it.
-- Assumes nothing.
use Rattle.std.specs.Prelude.{◌≡◌, refl, Bool, true, false, Option, None, Some, List, [], ◌∷◌, map, ℕ}
use Rattle.answer.specs.Answer.{Answer, gives, refuses, ◌>>=◌}
use Rattle.divider.specs.Divide.{ahb_of, ahb_divisor, ahb_divisors, apb_of, apb_divisor, by_ahb_of, apb_quotient_of}
use Rattle.divider.specs.Frequency.{over}
use Rattle.tree.specs.Tree.{clocks_of, below_of, bus_of, timer_clock}
use Rattle.v4x7_rules.specs.Rules.{hse_in_range, used_hse_of, main_pll_input, main_pll_of, eth_pll_of, reference_code_of, two_thirds, sys_pll_of, buses_of}
use Rattle.v4x7_rules.specs.Rules.{total_of, adc_from_hclk_of, adc_from_usb_hs_of}
use Rattle.tree.specs.declared.Hse.{Hse}
use Rattle.v4x7.specs.declared.AdcClockSource.{AdcClockSource}
use Rattle.v4x7.specs.declared.AdcClockSource.TheVariants as source
use Rattle.v4x7.specs.declared.Config.{Config}
use Rattle.v4x7.specs.declared.ClockRecord.{ClockRecord}
use Rattle.v4x7.specs.Check.{check_of, named, sources_of, rng_of, hse_present_of, main_of, eth_of}
use Rattle.v4x7.specs.Check.{usb_hs_of, reference_of, sys_pll_input_of, sysclk_of, system_of, adc_ratio_of, limits_of, adc_of}
use Rattle.layout.specs.Bits.{bits_at}
use Rattle.profile.specs.Profile.{read_profile, check_profile, tests, config_of}

-- The parts of a configuration that rows name: HSE, main PLL with its source, system clock, SYSPLL source with its divisor less one, USBHS PLL,
-- ETH PLL, AHB, APB2, ADC source, ADC prescaler; all by their codes.
abbrev Parts : Type 0
Parts = Option Hse × (ℕ × Option ℕ) × ℕ × (ℕ × ℕ) × Option ℕ × Bool × ℕ × ℕ × AdcClockSource × ℕ

pub config : Parts → Config
config (h, (from, p), sys, (syspll, pre), usbhs, eth, ahb, apb2, src, by) = record {
  hse = h;
  sys = sys;
  pll_src = from;
  pll = p;
  syspll_src = syspll;
  syspll_pre = pre;
  hspll = usbhs;
  ethpll = eth;
  ahb_pre = ahb;
  apb1_pre = 0;
  apb2_pre = apb2;
  rng_src = 0;
  adc_src = src;
  adc_pre = by;
  adc_duty = 1;
}

-- The source's default: HSI, no PLL, SYSPLL from the main PLL, nothing divided but the ADC's clock by 8.
pub default : Parts
default = (None, (0, None), 0, (6, 0), None, false, 0, 0, source.Hclk, 3)

-- What a row names, changed.

hse_at : ℕ → Parts → Parts
hse_at hz (h, m, s, v, u, e, a, b, f, p) = (Some (record { bypass = false; freq = hz }), m, s, v, u, e, a, b, f, p)

main_pll : ℕ → ℕ → Parts → Parts
main_pll from code (h, m, s, v, u, e, a, b, f, p) = (h, (from, Some code), s, v, u, e, a, b, f, p)

system : ℕ → Parts → Parts
system code (h, m, s, v, u, e, a, b, f, p) = (h, m, code, v, u, e, a, b, f, p)

sys_pll : ℕ → ℕ → Parts → Parts
sys_pll from less (h, m, s, v, u, e, a, b, f, p) = (h, m, 2, (from, less), u, e, a, b, f, p)

usb_hs_pll : ℕ → Parts → Parts
usb_hs_pll from (h, m, s, v, u, e, a, b, f, p) = (h, m, s, v, Some from, e, a, b, f, p)

eth_pll : Parts → Parts
eth_pll (h, m, s, v, u, e, a, b, f, p) = (h, m, s, v, u, true, a, b, f, p)

ahb : ℕ → Parts → Parts
ahb code (h, m, s, v, u, e, a, b, f, p) = (h, m, s, v, u, e, code, b, f, p)

apb2 : ℕ → Parts → Parts
apb2 code (h, m, s, v, u, e, a, b, f, p) = (h, m, s, v, u, e, a, code, f, p)

adc_from : ℕ → Parts → Parts
adc_from divisor (h, m, s, v, u, e, a, b, f, p) = (h, m, s, v, u, e, a, b, source.UsbHsPll divisor, p)

adc_by : ℕ → Parts → Parts
adc_by code (h, m, s, v, u, e, a, b, f, p) = (h, m, s, v, u, e, a, b, f, code)

-- What a row asks of the check's answer.
abbrev Asks : Type 0
Asks = ClockRecord → List ℕ

sysclk : Asks
sysclk a = a.clocks.sysclk ∷ []

hclk : Asks
hclk a = a.clocks.hclk ∷ []

adc : Asks
adc a = a.adc ∷ []

-- PCLK2, its timer, ADC
slow : Asks
slow a = a.clocks.pclk2 ∷ a.clocks.pclk2_tim ∷ a.adc ∷ []

-- the seven numbers of the program
seven : Asks
seven a = let k = a.clocks in k.sysclk ∷ k.hclk ∷ k.pclk1 ∷ k.pclk2 ∷ k.pclk1_tim ∷ k.pclk2_tim ∷ a.adc ∷ []

pub record Row : Type 0 where
  pub profile : List ℕ
  pub parts : Parts
  pub asks : Asks
  pub says : Answer (List ℕ)

row : List ℕ → Parts → Asks → Answer (List ℕ) → Row
row bytes what question answer = record { profile = bytes; parts = what; asks = question; says = answer }

pub rows : List Row
rows =
    -- A1 HPRE 11, 12 at 20 MHz: 1,250,000; 312,500
    row (0x00 ∷ 0x00 ∷ 0x00 ∷ 0x00 ∷ 0x00 ∷ 0x18 ∷ 0x05 ∷ 0x80 ∷ 0x00 ∷ 0x34 ∷ [])
    (ahb 11 default) hclk (gives (1250000 ∷ []))
    ∷ row (0x00 ∷ 0x00 ∷ 0x00 ∷ 0x00 ∷ 0x00 ∷ 0x18 ∷ 0x06 ∷ 0x00 ∷ 0x00 ∷ 0x34 ∷ [])
    (ahb 12 default) hclk (gives (312500 ∷ []))
    -- A2 HSE 4,999,999 refused 4; 5,000,000 runs
    ∷ row (0x80 ∷ 0x13 ∷ 0x12 ∷ 0xCF ∷ 0xC0 ∷ 0x18 ∷ 0x00 ∷ 0x00 ∷ 0x00 ∷ 0x34 ∷ [])
    (hse_at 4999999 default) hclk (refuses 4)
    ∷ row (0x80 ∷ 0x13 ∷ 0x12 ∷ 0xD0 ∷ 0x00 ∷ 0x18 ∷ 0x00 ∷ 0x00 ∷ 0x00 ∷ 0x34 ∷ [])
    (hse_at 5000000 default) hclk (gives (20000000 ∷ []))
    -- A3 32,000,000 runs; 32,000,001 refused 4
    ∷ row (0x80 ∷ 0x7A ∷ 0x12 ∷ 0x00 ∷ 0x00 ∷ 0x18 ∷ 0x00 ∷ 0x00 ∷ 0x00 ∷ 0x34 ∷ [])
    (hse_at 32000000 default) hclk (gives (20000000 ∷ []))
    ∷ row (0x80 ∷ 0x7A ∷ 0x12 ∷ 0x00 ∷ 0x40 ∷ 0x18 ∷ 0x00 ∷ 0x00 ∷ 0x00 ∷ 0x34 ∷ [])
    (hse_at 32000001 default) hclk (refuses 4)
    -- A4 HSI x 21, system HSI: 5
    ∷ row (0x00 ∷ 0x00 ∷ 0x00 ∷ 0x00 ∷ 0x06 ∷ 0xB8 ∷ 0x00 ∷ 0x00 ∷ 0x00 ∷ 0x34 ∷ [])
    (main_pll 0 21 default) hclk (refuses 5)
    -- A5 HSI x 20, divided by 2: HCLK 200,000,000
    ∷ row (0x00 ∷ 0x00 ∷ 0x00 ∷ 0x00 ∷ 0x26 ∷ 0x98 ∷ 0x80 ∷ 0x00 ∷ 0x00 ∷ 0x34 ∷ [])
    (main_pll 0 20 (sys_pll 6 1 default)) hclk (gives (200000000 ∷ []))
    -- A6 HSE 8,000,001 x 12.5, as system clock: 100,000,012
    ∷ row (0x80 ∷ 0x1E ∷ 0x84 ∷ 0x80 ∷ 0x6C ∷ 0xB8 ∷ 0x00 ∷ 0x00 ∷ 0x00 ∷ 0x34 ∷ [])
    (hse_at 8000001 (main_pll 1 5 (system 2 default))) sysclk (gives (100000012 ∷ []))
    -- A7 HSE 25 MHz, ETH PLL, system clock two thirds of ETH divided by 2: 166,666,666
    ∷ row (0x80 ∷ 0x5F ∷ 0x5E ∷ 0x10 ∷ 0x20 ∷ 0x0C ∷ 0x88 ∷ 0x00 ∷ 0x00 ∷ 0x34 ∷ [])
    (hse_at 25000000 (eth_pll (sys_pll 3 1 default))) sysclk (gives (166666666 ∷ []))
    -- A8 HSE 17,777,778 x 13.5, divided by 2, ADC by 4: 120,000,001 > 120,000,000, refused 15
    ∷ row (0x80 ∷ 0x43 ∷ 0xD1 ∷ 0x1C ∷ 0xAC ∷ 0xF8 ∷ 0x80 ∷ 0x00 ∷ 0x00 ∷ 0x14 ∷ [])
    (hse_at 17777778 (main_pll 1 7 (sys_pll 6 1 (adc_by 1 default)))) adc (refuses 15)
    -- A9 USBHS PLL from HSI, ADC from it, divisor 2, prescaler 8: 30,000,000; divisor 1: 15
    ∷ row (0x00 ∷ 0x00 ∷ 0x00 ∷ 0x00 ∷ 0x00 ∷ 0x18 ∷ 0x50 ∷ 0x00 ∷ 0x40 ∷ 0xB4 ∷ [])
    (usb_hs_pll 1 (adc_from 2 (adc_by 3 default))) adc (gives (30000000 ∷ []))
    ∷ row (0x00 ∷ 0x00 ∷ 0x00 ∷ 0x00 ∷ 0x00 ∷ 0x18 ∷ 0x50 ∷ 0x00 ∷ 0x40 ∷ 0x74 ∷ [])
    (usb_hs_pll 1 (adc_from 1 (adc_by 3 default))) adc (refuses 15)
    -- A10 HSE 5 MHz as system clock, AHB 512, APB2 16, ADC 8: ADC 76, PCLK2 610, its timer 1,220
    ∷ row (0x80 ∷ 0x13 ∷ 0x12 ∷ 0xD0 ∷ 0x10 ∷ 0x18 ∷ 0x07 ∷ 0x8E ∷ 0x00 ∷ 0x34 ∷ [])
    (hse_at 5000000 (system 1 (ahb 15 (apb2 7 (adc_by 3 default))))) slow (gives (610 ∷ 1220 ∷ 76 ∷ []))
    -- A11 profile 00 00 00 00 00 18 00 00 00 34 is the source's default; the seven numbers of the program
    ∷ row (0x00 ∷ 0x00 ∷ 0x00 ∷ 0x00 ∷ 0x00 ∷ 0x18 ∷ 0x00 ∷ 0x00 ∷ 0x00 ∷ 0x34 ∷ [])
    default seven (gives (20000000 ∷ 20000000 ∷ 20000000 ∷ 20000000 ∷ 20000000 ∷ 20000000 ∷ 2500000 ∷ []))
    ∷ []

-- Reading a row's bytes gives its configuration, and the check of that says what the row says.
pub found : Row → Answer Config × Answer (List ℕ)
found r = (
  read_profile r.profile,
  do
    a ← check_of (config r.parts)
    gives (r.asks a),
)

pub wanted : Row → Answer Config × Answer (List ℕ)
wanted r = (gives (config r.parts), r.says)

pub rows_hold : map found rows ≡ map wanted rows
unfolding found wanted rows row config default hse_at main_pll system sys_pll usb_hs_pll eth_pll ahb apb2 adc_from adc_by sysclk hclk adc slow seven
    read_profile tests config_of bits_at check_of named sources_of rng_of hse_present_of hse_in_range used_hse_of main_of main_pll_of main_pll_input
    eth_of eth_pll_of usb_hs_of reference_of reference_code_of system_of sysclk_of sys_pll_input_of sys_pll_of two_thirds buses_of clocks_of below_of bus_of timer_clock adc_of
    adc_ratio_of limits_of adc_from_hclk_of adc_from_usb_hs_of total_of ahb_of ahb_divisor ahb_divisors apb_divisor by_ahb_of apb_quotient_of apb_of over
rows_hold = refl

-- Three profiles whole, from their bytes to the check's answer: rows A11 and A2, and one whose seven frequencies all differ: HSI, AHB by 2, APB1 by 4, APB2
-- by 16, ADC by 8.

abbrev pub a11_profile : List ℕ
a11_profile = 0x00 ∷ 0x00 ∷ 0x00 ∷ 0x00 ∷ 0x00 ∷ 0x18 ∷ 0x00 ∷ 0x00 ∷ 0x00 ∷ 0x34 ∷ []

abbrev pub a2_profile : List ℕ
a2_profile = 0x80 ∷ 0x13 ∷ 0x12 ∷ 0xCF ∷ 0xC0 ∷ 0x18 ∷ 0x00 ∷ 0x00 ∷ 0x00 ∷ 0x34 ∷ []

abbrev pub divided_profile : List ℕ
divided_profile = 0x00 ∷ 0x00 ∷ 0x00 ∷ 0x00 ∷ 0x00 ∷ 0x18 ∷ 0x04 ∷ 0x5E ∷ 0x00 ∷ 0x34 ∷ []

pub a11 : check_profile a11_profile ≡ gives (record {
  clocks = record { sysclk = 20000000; hclk = 20000000; pclk1 = 20000000; pclk2 = 20000000; pclk1_tim = 20000000; pclk2_tim = 20000000 };
  adc = 2500000;
})
unfolding check_profile read_profile tests config_of bits_at check_of named sources_of rng_of hse_present_of main_of eth_of usb_hs_of system_of sysclk_of
    buses_of clocks_of below_of bus_of timer_clock adc_of adc_ratio_of limits_of adc_from_hclk_of total_of ahb_of ahb_divisor ahb_divisors apb_divisor by_ahb_of apb_quotient_of
    apb_of over
a11 = refl

pub a2 : check_profile a2_profile ≡ refuses 4
unfolding check_profile read_profile tests config_of bits_at check_of named system_of sources_of rng_of hse_present_of hse_in_range
a2 = refl

pub divided : check_profile divided_profile ≡ gives (record {
  clocks = record { sysclk = 20000000; hclk = 10000000; pclk1 = 2500000; pclk2 = 625000; pclk1_tim = 5000000; pclk2_tim = 1250000 };
  adc = 78125;
})
unfolding check_profile read_profile tests config_of bits_at check_of named sources_of rng_of hse_present_of main_of eth_of usb_hs_of system_of sysclk_of
    buses_of clocks_of below_of bus_of timer_clock adc_of adc_ratio_of limits_of adc_from_hclk_of total_of ahb_of ahb_divisor ahb_divisors apb_divisor by_ahb_of apb_quotient_of
    apb_of over
divided = refl
