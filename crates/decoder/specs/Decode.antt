-- The V4x7 decoder of document 01, "V4x7 decoder": from register fields and HSE to the six clocks. Enable and ready bits are not looked at.
-- Assumes nothing.
use Rattle.std.specs.Prelude.{Bool, cond, not, ◌||◌, Option, None, Some, ℕ, ◌+◌, eqb}
use Rattle.answer.specs.Answer.{Answer, gives, refuses, refuse, ◌>>=◌, ◌>>◌}
use Rattle.divider.specs.declared.Frequency.{Frequency}
use Rattle.divider.specs.Frequency.{whole, over}
use Rattle.tree.specs.declared.Clocks.{Clocks}
use Rattle.image.specs.declared.Fields.{Fields}
use Rattle.image.specs.declared.Cfgr2.{Cfgr2}
use Rattle.image.specs.Image.{in_width}
use Rattle.v4x7_rules.specs.Rules.{used_hse_of, main_pll_of, eth_pll_of, reference_code_of, sys_pll_of, buses_of}

-- USBHS: source 0 HSE (3, 4), 1 HSI, 2 HSE at 25 MHz (3, 4, 6) with reference 20 MHz, 3 refusal 17
unfoldable pub usb_hs_reference_of : ℕ → Option ℕ → Answer Frequency
usb_hs_reference_of source hse =
    cond (eqb source 0) (used_hse_of hse)
    (cond (eqb source 1) (gives (whole 20000000))
    (cond (eqb source 2) (do
      eth_pll_of hse
      gives (whole 20000000))
    (refuses 17)))

-- then 8, then 18
unfoldable pub usb_hs_pll_of : ℕ → ℕ → Option ℕ → Answer (Unit {0})
usb_hs_pll_of source code hse = do
  reference ← usb_hs_reference_of source hse
  right ← reference_code_of reference.hz
  refuse 18 (not (eqb right code))

-- SYSPLL: sources 0 and 2 check USBHS; sources 1 and 3: 3, 4, 6; source 6: main PLL (3, 4, 5); else 19
unfoldable pub sys_pll_input_of : Cfgr2 → Bool → ℕ → Option ℕ → Answer Frequency
sys_pll_input_of r pllsrc pllmul hse =
    cond (eqb r.syspllsrc 0 || eqb r.syspllsrc 2) (do
      usb_hs_pll_of r.usbhspllsrc r.usbhspllclk hse
      sys_pll_of r.syspllsrc None)
    (cond (eqb r.syspllsrc 1 || eqb r.syspllsrc 3) (do
      eth_pll_of hse
      sys_pll_of r.syspllsrc None)
    (cond (eqb r.syspllsrc 6) (do
      main ← main_pll_of hse pllsrc pllmul
      sys_pll_of r.syspllsrc (Some main))
    (refuses 19)))

-- by SWS: 0 HSI; 1 HSE (3, 4); 2 SYSPLL, divided by 1..8; 3 refusal 20. HSE is looked at only where used
unfoldable pub in_use_of : Fields → Option ℕ → Answer Frequency
in_use_of f hse =
    cond (eqb f.seen.sws 0) (gives (whole 20000000))
    (cond (eqb f.seen.sws 1) (used_hse_of hse)
    (cond (eqb f.seen.sws 2) (do
      input ← sys_pll_input_of f.cfgr2 f.cfgr0.pllsrc f.cfgr0.pllmul hse
      gives (over input (f.cfgr2.sysplldiv + 1)))
    (refuses 20)))

-- The decoder: 28 before anything else; then 12
unfoldable pub decode_of : Fields → Option ℕ → Answer Clocks
decode_of f hse = do
  refuse 28 (not (in_width f))
  sys ← in_use_of f hse
  buses_of sys f.cfgr0.hpre f.cfgr0.ppre1 f.cfgr0.ppre2
