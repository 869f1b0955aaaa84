-- The RNG query worked: SYSCLK where RNGSRC is clear, 500 MHz of the ETH PLL where I2SPLLSRC is set, else 480 MHz of the USBHS PLL, each PLL by its own
-- ready bit.
-- Assumes nothing.
use mathlib.Core.Path.{◌≡◌, refl}
use mathlib.Core.Bool.{Bool, true, false}
use mathlib.Core.List.{List, [], ◌∷◌, map}
use Rattle.std.specs.Prelude.{Option, None, Some, ℕ}
use Rattle.answer.specs.Answer.{gives}
use Rattle.image.specs.declared.Fields.{Fields}
use Rattle.image.specs.Image.{in_widths}
use Rattle.decoder.specs.Queries.{rng_query_of}

-- RNGSRC, I2SPLLSRC, ready bits of the ETH PLL and the USBHS PLL; all else clear
abbrev fields : Bool × Bool × Bool × Bool → Fields
fields x = record {
  ctlr = record { hsion = false; hsebyp = false; hseon = false; csson = false; pllon = false; usbhs_pllon = false; eth_pllon = false };
  seen = record { hsirdy = false; hserdy = false; pllrdy = false; usbhs_pllrdy = x.3; eth_pllrdy = x.2; sws = 0 };
  cfgr0 = record { sw = 0; pllsrc = false; pllmul = 0; hpre = 0; ppre1 = 0; ppre2 = 0; adcpre = 0; adcsrc = false; adc_duty = 0 };
  cfgr2 = record { usbhspllsrc = 0; usbhspllclk = 0; syspllsrc = 0; sysplldiv = 0; syspll_gate = false; rngsrc = x.0; i2spllsrc = x.1 };
  cfgr3 = record { adc_clkdiv = 0 };
  flash = record { sckmod = 0; lock = false; flock = false };
}

-- with a SYSCLK of 100 MHz
abbrev rows : List ((Bool × Bool × Bool × Bool) × Option ℕ)
rows =
    ((false, true, true, true), Some 100000000)
    ∷ ((true, true, true, false), Some 500000000)
    ∷ ((true, false, false, true), Some 480000000)
    ∷ ((true, true, false, true), None)
    ∷ ((true, false, true, false), None)
    ∷ []

pub rng_worked : map (λ (r : (Bool × Bool × Bool × Bool) × Option ℕ). rng_query_of (fields r.0) 100000000) rows ≡
    map (λ (r : (Bool × Bool × Bool × Bool) × Option ℕ). gives r.1) rows
unfolding rng_query_of in_widths
rng_worked = refl
