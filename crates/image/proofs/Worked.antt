-- The image that docs/FORMATS.md works bit by bit, and others that tell its fields apart. Assumes nothing.
use Prim.Native.Nat.{ℕ, ◌/◌, ◌%◌}
use mathlib.Core.Path.{◌≡◌, refl}
use mathlib.Core.Bool.{true, false, cond}
use mathlib.Core.List.{List, [], ◌∷◌, map}
use lib.Dec.{eqb}
use lib.ListN.{get_or}
use Rattle.answer.specs.Answer.{gives}
use Rattle.image.specs.declared.Fields.{Fields}
use Rattle.image.specs.Image.{in_widths, list_of, image_bytes, read_image}
use Rattle.image.proofs.RoundTrip.{inverse}

abbrev example : Fields
example = record {
  ctlr = record { hsion = true; hsebyp = true; hseon = true; csson = false; pllon = true; usbhs_pllon = true; eth_pllon = true };
  seen = record { hsirdy = true; hserdy = true; pllrdy = true; usbhs_pllrdy = true; eth_pllrdy = true; sws = 2 };
  cfgr0 = record { sw = 2; pllsrc = true; pllmul = 12; hpre = 8; ppre1 = 5; ppre2 = 4; adcpre = 3; adcsrc = true; adc_duty = 1 };
  cfgr2 = record { usbhspllsrc = 0; usbhspllclk = 0; syspllsrc = 6; sysplldiv = 1; syspll_gate = true; rngsrc = true; i2spllsrc = false };
  cfgr3 = record { adc_clkdiv = 3 };
  flash = record { sckmod = 0; lock = true; flock = true };
}

abbrev bytes : List ℕ
bytes = 0xEF ∷ 0xFA ∷ 0xB2 ∷ 0x2C ∷ 0xE8 ∷ 0x63 ∷ 0x86 ∷ 0x60 ∷ []

pub worked : image_bytes example ≡ gives bytes
unfolding image_bytes in_widths list_of
worked = refl

pub worked_back : read_image bytes ≡ gives example
worked_back = inverse.read_write example bytes worked

-- One whose bits differ from their neighbours, and its codes from one another: two fields exchanged show.
-- 1010101 01010 01 10 0 10001 1001 100 110 01 0 10 01 10 011 101 0 1 0 10011 01 1 0 00000
abbrev apart : Fields
apart = record {
  ctlr = record { hsion = true; hsebyp = false; hseon = true; csson = false; pllon = true; usbhs_pllon = false; eth_pllon = true };
  seen = record { hsirdy = false; hserdy = true; pllrdy = false; usbhs_pllrdy = true; eth_pllrdy = false; sws = 1 };
  cfgr0 = record { sw = 2; pllsrc = false; pllmul = 17; hpre = 9; ppre1 = 4; ppre2 = 6; adcpre = 1; adcsrc = false; adc_duty = 2 };
  cfgr2 = record { usbhspllsrc = 1; usbhspllclk = 2; syspllsrc = 3; sysplldiv = 5; syspll_gate = false; rngsrc = true; i2spllsrc = false };
  cfgr3 = record { adc_clkdiv = 19 };
  flash = record { sckmod = 1; lock = true; flock = false };
}

pub apart_worked : image_bytes apart ≡ gives (0xAA ∷ 0xA6 ∷ 0x46 ∷ 0x66 ∷ 0x53 ∷ 0x3A ∷ 0xA6 ∷ 0xC0 ∷ [])
unfolding image_bytes in_widths list_of
apart_worked = refl

-- And one in which flags and codes differ that are the same in both: HSION and HSEON, USBHSPLLSRC and SCKMOD.
-- 0010110 00101 11 00 1 00110 1100 001 010 11 0 01 10 01 100 010 1 0 1 00101 11 0 1 00000
abbrev other : Fields
other = record {
  ctlr = record { hsion = false; hsebyp = false; hseon = true; csson = false; pllon = true; usbhs_pllon = true; eth_pllon = false };
  seen = record { hsirdy = false; hserdy = false; pllrdy = true; usbhs_pllrdy = false; eth_pllrdy = true; sws = 3 };
  cfgr0 = record { sw = 0; pllsrc = true; pllmul = 6; hpre = 12; ppre1 = 1; ppre2 = 2; adcpre = 3; adcsrc = false; adc_duty = 1 };
  cfgr2 = record { usbhspllsrc = 2; usbhspllclk = 1; syspllsrc = 4; sysplldiv = 2; syspll_gate = true; rngsrc = false; i2spllsrc = true };
  cfgr3 = record { adc_clkdiv = 5 };
  flash = record { sckmod = 3; lock = false; flock = true };
}

pub other_worked : image_bytes other ≡ gives (0x2C ∷ 0x5C ∷ 0x9B ∷ 0x0A ∷ 0xCC ∷ 0xC5 ∷ 0x4B ∷ 0xA0 ∷ [])
unfolding image_bytes in_widths list_of
other_worked = refl

-- Each flag alone, at the place that document 01's order gives it, counted in bits: no two flags are exchanged.
abbrev alone : ℕ → Fields
alone n = record {
  ctlr = record {
    hsion = eqb n 0;
    hsebyp = eqb n 1;
    hseon = eqb n 2;
    csson = eqb n 3;
    pllon = eqb n 4;
    usbhs_pllon = eqb n 5;
    eth_pllon = eqb n 6;
  };
  seen = record { hsirdy = eqb n 7; hserdy = eqb n 8; pllrdy = eqb n 9; usbhs_pllrdy = eqb n 10; eth_pllrdy = eqb n 11; sws = 0 };
  cfgr0 = record { sw = 0; pllsrc = eqb n 16; pllmul = 0; hpre = 0; ppre1 = 0; ppre2 = 0; adcpre = 0; adcsrc = eqb n 34; adc_duty = 0 };
  cfgr2 = record { usbhspllsrc = 0; usbhspllclk = 0; syspllsrc = 0; sysplldiv = 0; syspll_gate = eqb n 47; rngsrc = eqb n 48; i2spllsrc = eqb n 49 };
  cfgr3 = record { adc_clkdiv = 0 };
  flash = record { sckmod = 0; lock = eqb n 57; flock = eqb n 58 };
}

-- eight bytes with bit n alone set, the most significant first
abbrev byte_at : ℕ → ℕ → ℕ
byte_at n i = cond (eqb (n / 8) i) (get_or (128 ∷ 64 ∷ 32 ∷ 16 ∷ 8 ∷ 4 ∷ 2 ∷ 1 ∷ []) (n % 8) 0) 0

abbrev one_bit : ℕ → List ℕ
one_bit n = map (byte_at n) (0 ∷ 1 ∷ 2 ∷ 3 ∷ 4 ∷ 5 ∷ 6 ∷ 7 ∷ [])

abbrev flags : List ℕ
flags = 0 ∷ 1 ∷ 2 ∷ 3 ∷ 4 ∷ 5 ∷ 6 ∷ 7 ∷ 8 ∷ 9 ∷ 10 ∷ 11 ∷ 16 ∷ 34 ∷ 47 ∷ 48 ∷ 49 ∷ 57 ∷ 58 ∷ []

pub each_alone : map (λ (n : ℕ). image_bytes (alone n)) flags ≡ map (λ (n : ℕ). gives (one_bit n)) flags
unfolding image_bytes in_widths list_of
each_alone = refl
