-- The order of the check's refusals: document 01, "V4x7 check, in order", as a flat list over the configuration alone.
-- Assumes nothing.
use Rattle.std.specs.Prelude.{Bool, true, false, cond, not, Option, None, Some, ◌&&◌, ◌||◌, List, [], ◌∷◌, ℕ, ◌+◌, ◌*◌, ◌/◌, ltb, eqb, get_or}
use Rattle.answer.specs.Order.{Test}
use Rattle.divider.specs.declared.Family.TheVariants.{V4x7}
use Rattle.divider.specs.Divide.{ahb_divisor, apb_divisor}
use Rattle.tree.specs.Order.{hse_hz}
use Rattle.tree.specs.Tree.{hse_frequency_of}
use Rattle.v4x7_rules.specs.Plain.{outside, main_pll_hz, allowed, sys_pll_hz}
use Rattle.v4x7.specs.declared.AdcClockSource.{AdcClockSource}
use Rattle.v4x7.specs.declared.AdcClockSource.TheVariants as adc
use Rattle.v4x7.specs.declared.Config.{Config}
use Rattle.v4x7.specs.Check.{named_of, has_hse, has_main, has_usb_hs}

-- The parts as plain numbers, 0 for what is not there.

abbrev pub hse : Config → ℕ
hse c = hse_hz (hse_frequency_of c.hse)

abbrev pub multiplier : Option ℕ → ℕ
multiplier None = 0
multiplier (Some m) = m

abbrev pub main_pll : Config → ℕ
main_pll c = main_pll_hz (hse_frequency_of c.hse) (eqb c.pll_src 1) (multiplier c.pll)

-- the USBHS PLL comes from source s; its reference
abbrev pub usb_hs_from : ℕ → Option ℕ → Bool
usb_hs_from s None = false
usb_hs_from s (Some source) = eqb source s

abbrev pub reference : Config → ℕ
reference c = cond (usb_hs_from 0 c.hspll) (hse c) 20000000

-- the system clock is PLL, from source s
abbrev pub sys_pll_from : ℕ → Config → Bool
sys_pll_from s c = eqb c.sys 2 && eqb c.syspll_src s

-- HSI, HSE, or PLL divided by 1..8
abbrev pub sysclk : Config → ℕ
sysclk c = get_or (20000000 ∷ hse c ∷ sys_pll_hz c.syspll_src (main_pll c) / (c.syspll_pre + 1) ∷ []) c.sys 0

abbrev pub hclk : Config → ℕ
hclk c = sysclk c / ahb_divisor V4x7 c.ahb_pre

-- ADC from USBHS PLL; what it divides, by the AHB divisor or the USBHS divisor first, then APB2's and 2, 4, 6 or 8
abbrev pub adc_from_usb_hs : AdcClockSource → Bool
adc_from_usb_hs adc.Hclk = false
adc_from_usb_hs (adc.UsbHsPll d) = true

abbrev pub adc_source : Config → ℕ
adc_source c = cond (adc_from_usb_hs c.adc_src) 480000000 (sysclk c)

abbrev pub adc_first : AdcClockSource → ℕ → ℕ
adc_first adc.Hclk ahb = ahb_divisor V4x7 ahb
adc_first (adc.UsbHsPll d) ahb = d

abbrev pub adc_total : Config → ℕ
adc_total c = adc_first c.adc_src c.ahb_pre * apb_divisor c.apb2_pre * (2 * (c.adc_pre + 1))

-- The check refuses by the first of these that holds.
abbrev pub check_tests : Config → List Test
check_tests c =
    -- a code too wide or without a name, before anything else
    (28, not (named_of c))
    -- RNG
    ∷ (1, eqb c.rng_src 1 && not (has_usb_hs c.hspll))
    ∷ (2, eqb c.rng_src 2 && not c.ethpll)
    -- HSE if present
    ∷ (4, has_hse c.hse && outside 5000000 32000000 (hse c))
    -- main PLL if present, used or not
    ∷ (3, has_main c.pll && eqb c.pll_src 1 && not (has_hse c.hse))
    ∷ (5, has_main c.pll && outside 100000000 400000000 (main_pll c))
    -- ETH PLL
    ∷ (3, c.ethpll && not (has_hse c.hse))
    ∷ (6, c.ethpll && not (eqb (hse c) 25000000))
    -- USBHS PLL
    ∷ (3, usb_hs_from 0 c.hspll && not (has_hse c.hse))
    ∷ (7, usb_hs_from 2 c.hspll && not c.ethpll)
    ∷ (8, has_usb_hs c.hspll && not (allowed (reference c)))
    -- SYSCLK
    ∷ (3, eqb c.sys 1 && not (has_hse c.hse))
    ∷ (9, sys_pll_from 6 c && not (has_main c.pll))
    ∷ (10, (sys_pll_from 0 c || sys_pll_from 2 c) && not (has_usb_hs c.hspll))
    ∷ (11, (sys_pll_from 1 c || sys_pll_from 3 c) && not c.ethpll)
    -- HCLK
    ∷ (12, ltb 200000000 (hclk c))
    -- ADC
    ∷ (13, adc_from_usb_hs c.adc_src && not (has_usb_hs c.hspll))
    ∷ (14, adc_from_usb_hs c.adc_src && outside 1 32 (adc_first c.adc_src c.ahb_pre))
    ∷ (15, ltb (30000000 * adc_total c) (adc_source c))
    ∷ (16, eqb (adc_source c / adc_total c) 0)
    ∷ []
