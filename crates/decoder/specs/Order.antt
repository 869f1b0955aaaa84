-- The order of the decoder's refusals: document 01, "V4x7 decoder", as a flat list over the fields and HSE alone. The queries refuse by 28 alone.
-- Assumes nothing.
use Rattle.std.specs.Prelude.{Bool, cond, not, ◌&&◌, ◌||◌, Option, List, [], ◌∷◌, ℕ, ◌+◌, ◌/◌, ltb, eqb, get_or}
use Rattle.answer.specs.Order.{Test}
use Rattle.divider.specs.declared.Family.TheVariants.{V4x7}
use Rattle.divider.specs.Divide.{ahb_divisor}
use Rattle.image.specs.declared.Fields.{Fields}
use Rattle.image.specs.Image.{in_width}
use Rattle.tree.specs.Order.{no_hse, hse_hz}
use Rattle.v4x7_rules.specs.Plain.{outside, main_pll_hz, allowed, reference_code, sys_pll_hz}

-- the USBHS PLL's reference by its source: HSE, else 20 MHz
abbrev pub reference_hz : ℕ → Option ℕ → ℕ
reference_hz source h = cond (eqb source 0) (hse_hz h) 20000000

abbrev pub main_hz : Fields → Option ℕ → ℕ
main_hz f h = main_pll_hz h f.cfgr0.pllsrc f.cfgr0.pllmul

-- SYSCLK by SWS: HSI, HSE, or SYSPLL divided by 1..8
abbrev pub sysclk_hz : Fields → Option ℕ → ℕ
sysclk_hz f h =
    get_or (20000000 ∷ hse_hz h ∷ sys_pll_hz f.cfgr2.syspllsrc (main_hz f h) / (f.cfgr2.sysplldiv + 1) ∷ [])
    f.seen.sws 0

-- what is in use: the clock of code n; behind SYSPLL the USBHS, the ETH or the main PLL; HSE behind the USBHS PLL
abbrev pub in_use : ℕ → Fields → Bool
in_use n f = eqb f.seen.sws n

abbrev pub uses_usb_hs : Fields → Bool
uses_usb_hs f = in_use 2 f && (eqb f.cfgr2.syspllsrc 0 || eqb f.cfgr2.syspllsrc 2)

abbrev pub uses_eth : Fields → Bool
uses_eth f = in_use 2 f && (eqb f.cfgr2.syspllsrc 1 || eqb f.cfgr2.syspllsrc 3)

abbrev pub uses_main : Fields → Bool
uses_main f = in_use 2 f && eqb f.cfgr2.syspllsrc 6

abbrev pub usb_hs_from_hse : Fields → Bool
usb_hs_from_hse f = uses_usb_hs f && (eqb f.cfgr2.usbhspllsrc 0 || eqb f.cfgr2.usbhspllsrc 2)

-- The decoder refuses by the first of these that holds.
abbrev pub decode_tests : Fields → Option ℕ → List Test
decode_tests f h =
    -- a code too wide, before anything else
    (28, not (in_width f))
    -- by SWS: 1 HSE, 3
    ∷ (3, in_use 1 f && no_hse h)
    ∷ (4, in_use 1 f && outside 5000000 32000000 (hse_hz h))
    ∷ (20, in_use 3 f)
    -- SYSPLL, sources 0 and 2: USBHS
    ∷ (3, usb_hs_from_hse f && no_hse h)
    ∷ (4, usb_hs_from_hse f && outside 5000000 32000000 (hse_hz h))
    ∷ (6, uses_usb_hs f && eqb f.cfgr2.usbhspllsrc 2 && not (eqb (hse_hz h) 25000000))
    ∷ (17, uses_usb_hs f && eqb f.cfgr2.usbhspllsrc 3)
    ∷ (8, uses_usb_hs f && not (allowed (reference_hz f.cfgr2.usbhspllsrc h)))
    ∷ (18, uses_usb_hs f && not (eqb (reference_code (reference_hz f.cfgr2.usbhspllsrc h)) f.cfgr2.usbhspllclk))
    -- sources 1 and 3: ETH
    ∷ (3, uses_eth f && no_hse h)
    ∷ (4, uses_eth f && outside 5000000 32000000 (hse_hz h))
    ∷ (6, uses_eth f && not (eqb (hse_hz h) 25000000))
    -- source 6: main PLL
    ∷ (3, uses_main f && f.cfgr0.pllsrc && no_hse h)
    ∷ (4, uses_main f && f.cfgr0.pllsrc && outside 5000000 32000000 (hse_hz h))
    ∷ (5, uses_main f && outside 100000000 400000000 (main_hz f h))
    -- else
    ∷ (19, in_use 2 f && (eqb f.cfgr2.syspllsrc 4 || eqb f.cfgr2.syspllsrc 5 || eqb f.cfgr2.syspllsrc 7))
    -- HCLK
    ∷ (12, ltb 200000000 (sysclk_hz f h / ahb_divisor V4x7 f.cfgr0.hpre))
    ∷ []

abbrev pub query_tests : Fields → List Test
query_tests f = (28, not (in_width f)) ∷ []
