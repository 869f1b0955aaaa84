-- The image, 64 bits: 33 fields, register by register, and five zeros. Document 01, "Fields, packed most significant bit first".
-- Assumes nothing.
use Rattle.std.specs.Prelude.{ℕ, Bool, not, List, [], ◌∷◌, length, get_or, eqb, ltb}
use Rattle.answer.specs.Answer.{Answer, gives, refuse, ◌>>◌}
use Rattle.layout.specs.Layout.{packed}
use Rattle.layout.specs.Bits.{cut, bit}
use Rattle.answer.specs.Tests.{every}
use Rattle.image.specs.declared.Ctlr.{Ctlr}
use Rattle.image.specs.declared.Seen.{Seen}
use Rattle.image.specs.declared.Cfgr0.{Cfgr0}
use Rattle.image.specs.declared.Cfgr2.{Cfgr2}
use Rattle.image.specs.declared.Flash.{Flash}
use Rattle.image.specs.declared.Fields.{Fields}

-- the widths, in order
abbrev pub widths : List ℕ
widths =
    1 ∷ 1 ∷ 1 ∷ 1 ∷ 1 ∷ 1 ∷ 1  -- HSION, HSEBYP, HSEON, CSSON, PLLON, USBHS_PLLON, ETH_PLLON
    ∷ 1 ∷ 1 ∷ 1 ∷ 1 ∷ 1 ∷ 2  -- HSIRDY, HSERDY, PLLRDY, USBHS_PLLRDY, ETH_PLLRDY, SWS
    ∷ 2 ∷ 1 ∷ 5 ∷ 4 ∷ 3 ∷ 3 ∷ 2 ∷ 1 ∷ 2  -- SW, PLLSRC, PLLMUL, HPRE, PPRE1, PPRE2, ADCPRE, ADCSRC, ADC_DUTY
    ∷ 2 ∷ 2 ∷ 3 ∷ 3 ∷ 1 ∷ 1 ∷ 1  -- USBHSPLLSRC, USBHSPLLCLK, SYSPLLSRC, SYSPLLDIV, SYSPLL_GATE, RNGSRC, I2SPLLSRC
    ∷ 5  -- ADC_CLKDIV
    ∷ 2 ∷ 1 ∷ 1  -- SCKMOD, LOCK, FLOCK
    ∷ 5  -- zeros
    ∷ []

-- ---- fields of a list, by their place in it

abbrev pub ctlr_of : List ℕ → Ctlr
ctlr_of l = record {
  hsion = eqb (get_or l 0 0) 1;
  hsebyp = eqb (get_or l 1 0) 1;
  hseon = eqb (get_or l 2 0) 1;
  csson = eqb (get_or l 3 0) 1;
  pllon = eqb (get_or l 4 0) 1;
  usbhs_pllon = eqb (get_or l 5 0) 1;
  eth_pllon = eqb (get_or l 6 0) 1;
}

abbrev pub seen_of : List ℕ → Seen
seen_of l = record {
  hsirdy = eqb (get_or l 7 0) 1;
  hserdy = eqb (get_or l 8 0) 1;
  pllrdy = eqb (get_or l 9 0) 1;
  usbhs_pllrdy = eqb (get_or l 10 0) 1;
  eth_pllrdy = eqb (get_or l 11 0) 1;
  sws = get_or l 12 0;
}

abbrev pub cfgr0_of : List ℕ → Cfgr0
cfgr0_of l = record {
  sw = get_or l 13 0;
  pllsrc = eqb (get_or l 14 0) 1;
  pllmul = get_or l 15 0;
  hpre = get_or l 16 0;
  ppre1 = get_or l 17 0;
  ppre2 = get_or l 18 0;
  adcpre = get_or l 19 0;
  adcsrc = eqb (get_or l 20 0) 1;
  adc_duty = get_or l 21 0;
}

abbrev pub cfgr2_of : List ℕ → Cfgr2
cfgr2_of l = record {
  usbhspllsrc = get_or l 22 0;
  usbhspllclk = get_or l 23 0;
  syspllsrc = get_or l 24 0;
  sysplldiv = get_or l 25 0;
  syspll_gate = eqb (get_or l 26 0) 1;
  rngsrc = eqb (get_or l 27 0) 1;
  i2spllsrc = eqb (get_or l 28 0) 1;
}

abbrev pub flash_of : List ℕ → Flash
flash_of l = record { sckmod = get_or l 30 0; lock = eqb (get_or l 31 0) 1; flock = eqb (get_or l 32 0) 1 }

unfoldable pub fields_of : List ℕ → Fields
fields_of l = record { ctlr = ctlr_of l; seen = seen_of l; cfgr0 = cfgr0_of l; cfgr2 = cfgr2_of l; cfgr3 = record { adc_clkdiv = get_or l 29 0 }; flash = flash_of l }

-- are the five bits after the fields zero?
abbrev pub zero_filled : List ℕ → Bool
zero_filled l = eqb (get_or l 33 0) 0

-- ---- the list of the fields and the filling

unfoldable pub list_of : Fields → List ℕ
list_of f =
    bit f.ctlr.hsion ∷ bit f.ctlr.hsebyp ∷ bit f.ctlr.hseon ∷ bit f.ctlr.csson ∷ bit f.ctlr.pllon
    ∷ bit f.ctlr.usbhs_pllon ∷ bit f.ctlr.eth_pllon
    ∷ bit f.seen.hsirdy ∷ bit f.seen.hserdy ∷ bit f.seen.pllrdy ∷ bit f.seen.usbhs_pllrdy
    ∷ bit f.seen.eth_pllrdy ∷ f.seen.sws
    ∷ f.cfgr0.sw ∷ bit f.cfgr0.pllsrc ∷ f.cfgr0.pllmul ∷ f.cfgr0.hpre ∷ f.cfgr0.ppre1 ∷ f.cfgr0.ppre2 ∷ f.cfgr0.adcpre
    ∷ bit f.cfgr0.adcsrc ∷ f.cfgr0.adc_duty
    ∷ f.cfgr2.usbhspllsrc ∷ f.cfgr2.usbhspllclk ∷ f.cfgr2.syspllsrc ∷ f.cfgr2.sysplldiv ∷ bit f.cfgr2.syspll_gate
    ∷ bit f.cfgr2.rngsrc ∷ bit f.cfgr2.i2spllsrc
    ∷ f.cfgr3.adc_clkdiv
    ∷ f.flash.sckmod ∷ bit f.flash.lock ∷ bit f.flash.flock
    ∷ 0 ∷ []

-- is each code within its field's width?
unfoldable pub in_widths : Fields → List Bool
in_widths f =
    ltb f.seen.sws 4
    ∷ ltb f.cfgr0.sw 4 ∷ ltb f.cfgr0.pllmul 32 ∷ ltb f.cfgr0.hpre 16 ∷ ltb f.cfgr0.ppre1 8 ∷ ltb f.cfgr0.ppre2 8
    ∷ ltb f.cfgr0.adcpre 4 ∷ ltb f.cfgr0.adc_duty 4
    ∷ ltb f.cfgr2.usbhspllsrc 4 ∷ ltb f.cfgr2.usbhspllclk 4 ∷ ltb f.cfgr2.syspllsrc 8 ∷ ltb f.cfgr2.sysplldiv 8
    ∷ ltb f.cfgr3.adc_clkdiv 32
    ∷ ltb f.flash.sckmod 4 ∷ []

abbrev pub in_width : Fields → Bool
in_width f = every (in_widths f)

-- ---- the reader and the writer

-- 31: not 8 bytes, or filling not zero
unfoldable pub read_image : List ℕ → Answer Fields
read_image s = do
  refuse 31 (not (eqb (length s) 8))
  refuse 31 (not (zero_filled (cut widths s 0)))
  gives (fields_of (cut widths s 0))

-- the eight bytes of an image. 28: a code too wide
unfoldable pub image_bytes : Fields → Answer (List ℕ)
image_bytes f = do
  refuse 28 (not (in_width f))
  gives (packed 8 widths (list_of f))
