-- The image as two numbers of 32 bits, which meet between two fields: PPRE2 ends the first, ADCPRE begins the second.
-- Assumes nothing.
use Rattle.std.specs.Prelude.{ℕ, ◌+◌, ◌*◌}
use Rattle.layout.specs.Bits.{bit}
use Rattle.image.specs.declared.Ctlr.{Ctlr}
use Rattle.image.specs.declared.Seen.{Seen}
use Rattle.image.specs.declared.Cfgr0.{Cfgr0}
use Rattle.image.specs.declared.Cfgr2.{Cfgr2}
use Rattle.image.specs.declared.Flash.{Flash}
use Rattle.image.specs.declared.Fields.{Fields}

-- the fields of each register, each behind the one before

abbrev pub ctlr_number : Ctlr → ℕ
ctlr_number c =
    64 * bit c.hsion + 32 * bit c.hsebyp + 16 * bit c.hseon + 8 * bit c.csson + 4 * bit c.pllon + 2 * bit c.usbhs_pllon
    + bit c.eth_pllon

abbrev pub seen_number : Seen → ℕ
seen_number s =
    64 * bit s.hsirdy + 32 * bit s.hserdy + 16 * bit s.pllrdy + 8 * bit s.usbhs_pllrdy + 4 * bit s.eth_pllrdy + s.sws

abbrev pub cfgr0_early : Cfgr0 → ℕ
cfgr0_early c = 65536 * c.sw + 32768 * bit c.pllsrc + 1024 * c.pllmul + 64 * c.hpre + 8 * c.ppre1 + c.ppre2

abbrev pub cfgr0_late : Cfgr0 → ℕ
cfgr0_late c = 8 * c.adcpre + 4 * bit c.adcsrc + c.adc_duty

abbrev pub cfgr2_number : Cfgr2 → ℕ
cfgr2_number c =
    2048 * c.usbhspllsrc + 512 * c.usbhspllclk + 64 * c.syspllsrc + 8 * c.sysplldiv + 4 * bit c.syspll_gate + 2 * bit c.rngsrc
    + bit c.i2spllsrc

abbrev pub flash_number : Flash → ℕ
flash_number c = 4 * c.sckmod + 2 * bit c.lock + bit c.flock

-- the two numbers: 7, 7 and 18 bits; and 5, 13, 5, 4 and the filling's 5

abbrev pub early_of : Fields → ℕ
early_of f = 0x2000000 * ctlr_number f.ctlr + 0x40000 * seen_number f.seen + cfgr0_early f.cfgr0

abbrev pub late_of : Fields → ℕ
late_of f = 0x8000000 * cfgr0_late f.cfgr0 + 0x4000 * cfgr2_number f.cfgr2 + 512 * f.cfgr3.adc_clkdiv + 32 * flash_number f.flash
