-- Fields in width, bound by bound.
-- Assumes nothing.
use Rattle.std.specs.Prelude.{◌<◌, ◌≡◌, true}
use Rattle.std.proofs.Common.{lt-ltb, ltb-true}
use Rattle.answer.specs.Tests.{every_at}
use Rattle.image.specs.declared.Cfgr0.{Cfgr0}
use Rattle.image.specs.declared.Cfgr2.{Cfgr2}
use Rattle.image.specs.declared.Fields.{Fields}
use Rattle.image.specs.Image.{in_widths, in_width}

abbrev pub Wide0 : Cfgr0 → Type 0
Wide0 r = (r.sw < 4) × (r.pllmul < 32) × (r.hpre < 16) × (r.ppre1 < 8) × (r.ppre2 < 8) × (r.adcpre < 4) × (r.adc_duty < 4)

abbrev pub Wide2 : Cfgr2 → Type 0
Wide2 r = (r.usbhspllsrc < 4) × (r.usbhspllclk < 4) × (r.syspllsrc < 8) × (r.sysplldiv < 8)

abbrev pub Wide : Fields → Type 0
Wide f = (f.seen.sws < 4) × Wide0 f.cfgr0 × Wide2 f.cfgr2 × (f.cfgr3.adc_clkdiv < 32) × (f.flash.sckmod < 4)

pub wide : (f : Fields) → in_width f ≡ true → Wide f
unfolding in_widths
wide f h =
    let at = every_at (in_widths f) h in (
      ltb-true _ 4 (at 0),
      (
        ltb-true _ 4 (at 1),
        ltb-true _ 32 (at 2),
        ltb-true _ 16 (at 3),
        ltb-true _ 8 (at 4),
        ltb-true _ 8 (at 5),
        ltb-true _ 4 (at 6),
        ltb-true _ 4 (at 7),
      ),
      (ltb-true _ 4 (at 8), ltb-true _ 4 (at 9), ltb-true _ 8 (at 10), ltb-true _ 8 (at 11)),
      ltb-true _ 32 (at 12),
      ltb-true _ 4 (at 13),
    )

pub in_width_lem : (f : Fields) → Wide f → in_width f ≡ true
unfolding in_widths
in_width_lem f w =
    simp (
      lt-ltb _ _ w.0,
      lt-ltb _ _ w.1.0,
      lt-ltb _ _ w.1.1,
      lt-ltb _ _ w.1.2,
      lt-ltb _ _ w.1.3,
      lt-ltb _ _ w.1.4,
      lt-ltb _ _ w.1.5,
      lt-ltb _ _ w.1.6,
      lt-ltb _ _ w.2.0,
      lt-ltb _ _ w.2.1,
      lt-ltb _ _ w.2.2,
      lt-ltb _ _ w.2.3,
      lt-ltb _ _ w.3,
      lt-ltb _ _ w.4,
    )
