-- Laws of the rules, which callers use in place of their text.
-- Assumes nothing.
use Rattle.std.specs.Prelude.{◌≡◌, refl, ◌||◌, List, [], ◌∷◌, map, ℕ, ◌+◌, ◌*◌, ◌<◌, leb, ltb}
use Rattle.std.proofs.Common.{arith, leb-false, ltb-false}
use Rattle.answer.specs.Answer.{gives, refuses}
use Rattle.answer.specs.Each.{Each, each_gives, each_past, each_bind, each_at}
use Rattle.answer.specs.Tools.{neither}
use Rattle.divider.specs.declared.Family.TheVariants.{V4x7}
use Rattle.divider.specs.Divide.{ahb_of, ahb_divisor, ahb_divisors, apb_of, apb_divisor, by_ahb_of, apb_quotient_of}
use Rattle.divider.specs.Facts.{Between, between_times}
use Rattle.divider.specs.Frequency.{whole, over}
use Rattle.divider.specs.Laws.{ahb_each, apb_each}
use Rattle.tree.specs.Tree.{clocks_of, below_of, bus_of, timer_clock}
use Rattle.v4x7_rules.specs.Rules.{doubled, two_thirds, buses_of, total_of, adc_from_hclk_of, adc_from_usb_hs_of}

-- the ADC's own divisor
own : (adcpre : ℕ) → adcpre < 4 → Between 8 (2 * (adcpre + 1))
own adcpre h = record { low = omega arith; high = omega arith }

-- the whole divisor of an ADC source that is divided by 1 to 512: never 0, and at most 65,536
total : (d ppre2 adcpre : ℕ) → Each (λ t. Between 512 d → Between 65536 t) (total_of d ppre2 adcpre)
unfolding total_of
total d ppre2 adcpre =
    each_past 28 (leb 4 adcpre) (λ narrow. each_bind (apb_each ppre2) (λ p h.
    each_gives (λ within. between_times (between_times within h) (own adcpre (leb-false 4 adcpre narrow)))))

-- so that of each source of the ADC: no caller divides by 0

from_usbhs : (d ppre2 adcpre : ℕ) → Each (λ (x : ℕ × ℕ). Between 65536 x.1) (adc_from_usb_hs_of d ppre2 adcpre)
unfolding adc_from_usb_hs_of
from_usbhs d ppre2 adcpre =
    each_bind (total d ppre2 adcpre) (λ t divides. each_past 14 (ltb d 1 || ltb 32 d) (λ e.
    let within = neither (ltb d 1) (ltb 32 d) e in
    each_gives (divides (record { low = ltb-false d 1 within.0; high = omega (arith, ltb-false 32 d within.1) }))))

from_hclk : (sys hpre ppre2 adcpre : ℕ) → Each (λ (x : ℕ × ℕ). Between 65536 x.1) (adc_from_hclk_of sys hpre ppre2 adcpre)
unfolding adc_from_hclk_of
from_hclk sys hpre ppre2 adcpre =
    each_bind (ahb_each V4x7 hpre) (λ a within. each_bind (total a ppre2 adcpre) (λ t divides. each_gives (divides within)))

pub usbhs_given : (d ppre2 adcpre : ℕ) {x : ℕ × ℕ} → adc_from_usb_hs_of d ppre2 adcpre ≡ gives x → Between 65536 x.1
usbhs_given d ppre2 adcpre = each_at (from_usbhs d ppre2 adcpre)

pub hclk_given : (sys hpre ppre2 adcpre : ℕ) {x : ℕ × ℕ} → adc_from_hclk_of sys hpre ppre2 adcpre ≡ gives x → Between 65536 x.1
hclk_given sys hpre ppre2 adcpre = each_at (from_hclk sys hpre ppre2 adcpre)

-- the multipliers that 000's list names, in tenths: MUL8, MUL9, MUL10, MUL11, MUL12, MUL12_5, ..
abbrev tenths : List ℕ
tenths =
    80 ∷ 90 ∷ 100 ∷ 110 ∷ 120 ∷ 125 ∷ 130 ∷ 135 ∷ 140 ∷ 145 ∷ 150 ∷ 155 ∷ 160 ∷ 165 ∷ 170 ∷ 175
    ∷ 180 ∷ 185 ∷ 190 ∷ 195 ∷ 200 ∷ 210 ∷ 220 ∷ 240 ∷ 260 ∷ 280 ∷ 300 ∷ 320 ∷ 340 ∷ 360 ∷ 380 ∷ 400 ∷ []

pub named : map (λ (x : ℕ). 5 * x) doubled ≡ tenths
named = refl

-- two thirds of USBHS 320 MHz, two thirds of ETH 333,333,333 Hz
pub two_thirds_of_usbhs : two_thirds 480000000 ≡ whole 320000000
unfolding two_thirds over
two_thirds_of_usbhs = refl

pub two_thirds_of_eth : two_thirds 500000000 ≡ whole 333333333
unfolding two_thirds over
two_thirds_of_eth = refl

-- HCLK above 200 MHz is refused from the first hertz on, though no configuration comes to that one
pub hclk_limit : buses_of (whole 200000001) 0 0 0 ≡ refuses 12
unfolding buses_of clocks_of below_of bus_of timer_clock by_ahb_of ahb_of ahb_divisor ahb_divisors apb_quotient_of apb_of apb_divisor over
hclk_limit = refl
