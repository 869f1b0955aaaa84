-- An accepted configuration's codes, laid into register fields as the startup does, decode to the check's clocks.
-- Assumes nothing.
use Rattle.std.specs.Prelude.{Option, None, Some}
use Rattle.std.specs.Prelude.{◌≡◌, true, ℕ, eqb}
use Rattle.answer.specs.Answer.{gives}
use Rattle.divider.specs.declared.Frequency.{Frequency}
use Rattle.image.specs.declared.Fields.{Fields}
use Rattle.image.specs.Image.{in_width}
use Rattle.v4x7_rules.specs.Rules.{reference_code_of}
use Rattle.v4x7.specs.declared.Config.{Config}
use Rattle.tree.specs.Tree.{hse_frequency_of}
use Rattle.v4x7.specs.Check.{reference_of}

-- the main PLL's fields hold its source and multiplier, where it is configured
abbrev pub PllLaid : Option ℕ → ℕ → Fields → Type 0
PllLaid None source f = Unit {0}
PllLaid (Some m) source f = (f.cfgr0.pllsrc ≡ eqb source 1) × (f.cfgr0.pllmul ≡ m)

-- the USBHS PLL's fields hold its source and its reference's code, where it is configured
abbrev pub HsPllLaid : Config → Option ℕ → Fields → Type 0
HsPllLaid c None f = Unit {0}
HsPllLaid c (Some s) f =
    (f.cfgr2.usbhspllsrc ≡ s) × ((x : Frequency) → reference_of (hse_frequency_of c.hse) c.ethpll s ≡ gives x → reference_code_of x.hz ≡ gives f.cfgr2.usbhspllclk)

-- the fields in width that hold what the configuration asks for, the chip running from its system clock
pub record Laid (c : Config) (f : Fields) : Type 0 where
  pub width : in_width f ≡ true
  pub sws : f.seen.sws ≡ c.sys
  pub hpre : f.cfgr0.hpre ≡ c.ahb_pre
  pub ppre1 : f.cfgr0.ppre1 ≡ c.apb1_pre
  pub ppre2 : f.cfgr0.ppre2 ≡ c.apb2_pre
  pub syspllsrc : f.cfgr2.syspllsrc ≡ c.syspll_src
  pub sysplldiv : f.cfgr2.sysplldiv ≡ c.syspll_pre
  pub main : PllLaid c.pll c.pll_src f
  pub usbhs : HsPllLaid c c.hspll f
