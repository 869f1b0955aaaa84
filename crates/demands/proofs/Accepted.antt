-- What the check tells of a configuration that it accepts.
-- Assumes nothing.
use Prim.Native.Nat.{ℕ, ◌-◌, ◌<◌}
use mathlib.Core.Path.{◌≡◌, sym, ap, ◌∙◌}
use mathlib.Core.Bool.{true, false, ◌&&◌}
use native.Mathlib.Omega.{arith}
use borrow.Author.Tests.{ltb-false}
use lib.Dec.{ltb}
use Rattle.answer.specs.Answer.{gives}
use Rattle.answer.specs.Order.{bare, none_holds}
use Rattle.answer.specs.Tools.{neither}
use Rattle.v4x7_rules.specs.Plain.{outside}
use Rattle.v4x7.specs.declared.AdcClockSource.{AdcClockSource}
use Rattle.v4x7.specs.declared.AdcClockSource.TheVariants as adc
use Rattle.v4x7.specs.declared.Config.{Config}
use Rattle.v4x7.specs.declared.ClockRecord.{ClockRecord}
use Rattle.tree.specs.Tree.{hse_frequency_of}
use Rattle.v4x7.specs.Check.{check_of, named_of, usb_hs_of}
use Rattle.v4x7.specs.Laws.{Named, named_given}
use Rattle.v4x7.specs.Order.{adc_from_usb_hs, adc_first, check_tests}
use Rattle.v4x7.proofs.Order.{check_in_order}
use Rattle.demands.proofs.Bridge.{checked, sourced}

-- a USBHS divisor of the ADC fits its field once one is taken off
abbrev pub DivisorFits : AdcClockSource → Type 0
DivisorFits adc.Hclk = Unit {0}
DivisorFits (adc.UsbHsPll d) = d - 1 < 32

pub record Accepted (c : Config) : Type 0 where
  pub names : named_of c ≡ true
  pub named : Named c
  pub usbhs : usb_hs_of (hse_frequency_of c.hse) c.ethpll c.hspll ≡ gives tt
  pub divisor : DivisorFits c.adc_src

divisor_fits : (a : AdcClockSource) (ahb : ℕ) → (adc_from_usb_hs a && outside 1 32 (adc_first a ahb)) ≡ false → DivisorFits a
divisor_fits adc.Hclk ahb q = tt
divisor_fits (adc.UsbHsPll d) ahb q = let top = ltb-false 32 d (neither (ltb d 1) (ltb 32 d) q).1 in omega arith

pub accepted_tells : (c : Config) {x : ClockRecord} → check_of c ≡ gives x → Accepted c
accepted_tells c q =
    let k = checked c q in
    let none = none_holds (check_tests c) (sym (check_in_order c) ∙ ap bare q) in
    record {
      names = k.named;
      named = named_given c k.named;
      usbhs = (sourced c k.sources).usbhs_gave;
      divisor = divisor_fits c.adc_src c.ahb_pre (none 17);
    }
