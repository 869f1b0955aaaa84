-- Each number of the first demand's lists is given: an input for each, and its definition computed.
-- Assumes nothing.
use Rattle.std.specs.Prelude.{Option, None, Some}
use Prim.Native.Nat.{ℕ}
use mathlib.Core.Path.{◌≡◌, refl, ap, ◌∙◌}
use mathlib.Core.Bool.{Bool, true, false}
use mathlib.Core.List.{List, [], ◌∷◌, map}
use native.Mathlib.Omega.{arith}
use Rattle.answer.specs.Answer.{Answer, gives, refuses, ◌>>=◌, ◌>>◌, gives_refuses, same_refusal}
use Rattle.divider.specs.Divide.{ahb_of, ahb_divisor, ahb_divisors, apb_of, apb_divisor, by_ahb_of, apb_quotient_of}
use Rattle.divider.specs.Frequency.{over}
use Rattle.tree.specs.Tree.{clocks_of, below_of, bus_of, timer_clock}
use Rattle.v4x7_rules.specs.Rules.{hse_in_range, used_hse_of, main_pll_input, main_pll_of, eth_pll_of, reference_code_of, two_thirds, sys_pll_of, buses_of, adc_from_hclk_of, adc_from_usb_hs_of, total_of}
use Rattle.v4x7.specs.declared.Config.{Config}
use Rattle.tree.specs.declared.Hse.{Hse}
use Rattle.v4x7.specs.declared.AdcClockSource.{AdcClockSource}
use Rattle.v4x7.specs.declared.AdcClockSource.TheVariants as adc
use Rattle.v4x7.specs.Check.{named, rng_of, hse_present_of, main_of, eth_of, reference_of, usb_hs_of, sources_of, sys_pll_input_of, sysclk_of, system_of}
use Rattle.v4x7.specs.Check.{adc_ratio_of, limits_of, adc_of, check_of}
use Rattle.layout.specs.Bits.{bits_at}
use Rattle.profile.specs.Profile as profile
use Rattle.image.specs.declared.Fields.{Fields}
use Rattle.image.specs.Image as image
use Rattle.decoder.specs.Decode.{usb_hs_reference_of, usb_hs_pll_of, in_use_of, decode_of}
use Rattle.decoder.specs.Decode as decode
use Rattle.decoder.specs.Queries.{adc_query_of, rng_query_of}
use Rattle.startup.specs.Call.{start_of, going}
use Rattle.demands.specs.First.{Refusing, EachGiven, write_of, decode_given, check_given, check_profile_given}

pub by : {I A : Type 0} {of : I → Answer A} {n : ℕ} (i : I) → of i ≡ refuses n → Refusing of n
by i e = record { input = i; number = e }

-- an input for each number
pub by_row : {I A : Type 0} (of : I → Answer A) (inputs : List I) (l : List ℕ) → map of inputs ≡ map refuses l → EachGiven of l
by_row of [] [] e = tt
by_row of (i ∷ is) (n ∷ l) e = (by i (cc e), by_row of is l (cc e))
by_row of [] (n ∷ l) e = absurd (let z : ◌≡◌ {A = ℕ} 0 1 = cc in omega arith)
by_row of (i ∷ is) [] e = absurd (let z : ◌≡◌ {A = ℕ} 0 1 = cc in omega arith)

-- a call that goes on from another refuses as that does
refused_behind : {A B : Type 0} (n : ℕ) (m : Answer A) (f : A → Answer B) → m ≡ refuses n → (◌>>=◌ m f) ≡ refuses n
refused_behind n (gives a) f e = gives_refuses e
refused_behind n (refuses k) f e = ap refuses (same_refusal e)

pub each_behind : {I J A B : Type 0} (of : I → Answer A) (other : J → Answer B) (into : I → J) (f : I → A → Answer B) →
    ((i : I) → other (into i) ≡ ◌>>=◌ (of i) (f i)) → (l : List ℕ) → EachGiven of l → EachGiven other l
each_behind of other into f goes [] e = tt
each_behind of other into f goes (n ∷ l) e =
    let i = e.0.input in
    (by (into i) (goes i ∙ refused_behind n (of i) (f i) e.0.number), each_behind of other into f goes l e.1)

-- a configuration: HSE, system clock, PLL source, PLL, SYSPLL source, USBHS PLL, ETH PLL, RNG, ADC source; all prescalers at 1, the ADC's at 8
abbrev setup : Option Hse → ℕ → ℕ → Option ℕ → ℕ → Option ℕ → Bool → ℕ → AdcClockSource → Config
setup h sys source p syspll usbhs eth rng ad =
    record {
      hse = h;
      sys = sys;
      pll_src = source;
      pll = p;
      syspll_src = syspll;
      syspll_pre = 0;
      hspll = usbhs;
      ethpll = eth;
      ahb_pre = 0;
      apb1_pre = 0;
      apb2_pre = 0;
      rng_src = rng;
      adc_src = ad;
      adc_pre = 3;
      adc_duty = 0;
    }

abbrev xtal : ℕ → Option Hse
xtal hz = Some (record { bypass = false; freq = hz })

pub checks : EachGiven check_of check_given
unfolding check_of named system_of sources_of rng_of hse_present_of hse_in_range used_hse_of main_of main_pll_input main_pll_of eth_of eth_pll_of usb_hs_of reference_of
    reference_code_of sysclk_of sys_pll_input_of sys_pll_of two_thirds buses_of clocks_of below_of bus_of timer_clock adc_of adc_ratio_of limits_of adc_from_hclk_of
    adc_from_usb_hs_of total_of ahb_of ahb_divisor ahb_divisors apb_of apb_divisor by_ahb_of apb_quotient_of over
checks =
    let inputs : List Config =
    setup None 3 0 None 0 None false 0 adc.Hclk
    ∷ setup None 0 0 None 0 None false 1 adc.Hclk
    ∷ setup None 0 0 None 0 None false 2 adc.Hclk
    ∷ setup (xtal 4999999) 0 0 None 0 None false 0 adc.Hclk
    ∷ setup None 0 1 (Some 0) 0 None false 0 adc.Hclk
    ∷ setup None 0 0 (Some 31) 0 None false 0 adc.Hclk
    ∷ setup (xtal 24000000) 0 0 None 0 None true 0 adc.Hclk
    ∷ setup None 0 0 None 0 (Some 2) false 0 adc.Hclk
    ∷ setup (xtal 10000000) 0 0 None 0 (Some 0) false 0 adc.Hclk
    ∷ setup None 2 0 None 6 None false 0 adc.Hclk
    ∷ setup None 2 0 None 0 None false 0 adc.Hclk
    ∷ setup None 2 0 None 1 None false 0 adc.Hclk
    ∷ setup None 2 0 None 0 (Some 1) false 0 adc.Hclk
    ∷ setup None 0 0 None 0 None false 0 (adc.UsbHsPll 8)
    ∷ setup None 0 0 None 0 (Some 1) false 0 (adc.UsbHsPll 0)
    ∷ setup None 0 0 None 0 (Some 1) false 0 (adc.UsbHsPll 1)
    ∷ [] in
    by_row check_of inputs check_given refl

-- fields: SWS, PLLSRC, PLLMUL, USBHSPLLSRC, USBHSPLLCLK, SYSPLLSRC; the rest clear
abbrev pub fields : ℕ → Bool → ℕ → ℕ → ℕ → ℕ → Fields
fields sws pllsrc pllmul usbhssrc usbhsclk syspllsrc =
    record {
      ctlr = record { hsion = false; hsebyp = false; hseon = false; csson = false; pllon = false; usbhs_pllon = false; eth_pllon = false };
      seen = record { hsirdy = false; hserdy = false; pllrdy = false; usbhs_pllrdy = false; eth_pllrdy = false; sws = sws };
      cfgr0 = record { sw = 0; pllsrc = pllsrc; pllmul = pllmul; hpre = 0; ppre1 = 0; ppre2 = 0; adcpre = 0; adcsrc = false; adc_duty = 0 };
      cfgr2 =
          record {
            usbhspllsrc = usbhssrc;
            usbhspllclk = usbhsclk;
            syspllsrc = syspllsrc;
            sysplldiv = 0;
            syspll_gate = false;
            rngsrc = false;
            i2spllsrc = false;
          };
      cfgr3 = record { adc_clkdiv = 0 };
      flash = record { sckmod = 0; lock = false; flock = false };
    }

pub decodes : EachGiven (λ (x : Fields × Option ℕ). decode_of x.0 x.1) decode_given
unfolding decode_of image.in_widths in_use_of decode.sys_pll_input_of usb_hs_pll_of usb_hs_reference_of hse_in_range used_hse_of main_pll_input main_pll_of eth_pll_of
    reference_code_of sys_pll_of two_thirds buses_of clocks_of below_of bus_of timer_clock ahb_of ahb_divisor ahb_divisors apb_of apb_divisor by_ahb_of
    apb_quotient_of over
decodes =
    let inputs : List (Fields × Option ℕ) =
    (fields 4 false 0 0 0 0, None)
    ∷ (fields 1 false 0 0 0 0, None)
    ∷ (fields 1 false 0 0 0 0, Some 4999999)
    ∷ (fields 3 false 0 0 0 0, None)
    ∷ (fields 2 false 0 0 0 1, Some 24000000)
    ∷ (fields 2 false 0 3 0 0, None)
    ∷ (fields 2 false 0 0 0 0, Some 10000000)
    ∷ (fields 2 false 0 1 0 0, None)
    ∷ (fields 2 false 31 0 0 6, None)
    ∷ (fields 2 false 0 0 0 4, None)
    ∷ (fields 2 false 0 1 1 0, None)
    ∷ [] in
    by_row (λ x. decode_of x.0 x.1) inputs decode_given refl

-- nine bytes; AHB 1; then a profile for each of the check's numbers, as docs/REFUSALS.md shows them
pub check_profiles : EachGiven profile.check_profile check_profile_given
unfolding profile.check_profile profile.read_profile profile.tests profile.config_of bits_at check_of named system_of sources_of rng_of hse_present_of hse_in_range used_hse_of
    main_of main_pll_input main_pll_of eth_of eth_pll_of usb_hs_of reference_of reference_code_of sysclk_of sys_pll_input_of sys_pll_of two_thirds buses_of clocks_of below_of bus_of
    timer_clock adc_of adc_ratio_of limits_of adc_from_hclk_of adc_from_usb_hs_of total_of ahb_of ahb_divisor ahb_divisors apb_of apb_divisor by_ahb_of apb_quotient_of over
check_profiles =
    let inputs : List (List ℕ) =
    (0x00 ∷ 0x00 ∷ 0x00 ∷ 0x00 ∷ 0x00 ∷ 0x18 ∷ 0x00 ∷ 0x00 ∷ 0x00 ∷ [])
    ∷ (0x00 ∷ 0x00 ∷ 0x00 ∷ 0x00 ∷ 0x00 ∷ 0x18 ∷ 0x00 ∷ 0x80 ∷ 0x00 ∷ 0x34 ∷ [])
    ∷ (0x00 ∷ 0x00 ∷ 0x00 ∷ 0x00 ∷ 0x00 ∷ 0x18 ∷ 0x00 ∷ 0x00 ∷ 0x80 ∷ 0x34 ∷ [])
    ∷ (0x00 ∷ 0x00 ∷ 0x00 ∷ 0x00 ∷ 0x00 ∷ 0x18 ∷ 0x00 ∷ 0x01 ∷ 0x00 ∷ 0x34 ∷ [])
    ∷ (0x00 ∷ 0x00 ∷ 0x00 ∷ 0x00 ∷ 0x10 ∷ 0x18 ∷ 0x00 ∷ 0x00 ∷ 0x00 ∷ 0x34 ∷ [])
    ∷ (0x80 ∷ 0x13 ∷ 0x12 ∷ 0xCF ∷ 0xC0 ∷ 0x18 ∷ 0x00 ∷ 0x00 ∷ 0x00 ∷ 0x34 ∷ [])
    ∷ (0x00 ∷ 0x00 ∷ 0x00 ∷ 0x00 ∷ 0x06 ∷ 0xB8 ∷ 0x00 ∷ 0x00 ∷ 0x00 ∷ 0x34 ∷ [])
    ∷ (0x80 ∷ 0x5B ∷ 0x8D ∷ 0x80 ∷ 0x00 ∷ 0x18 ∷ 0x08 ∷ 0x00 ∷ 0x00 ∷ 0x34 ∷ [])
    ∷ (0x00 ∷ 0x00 ∷ 0x00 ∷ 0x00 ∷ 0x00 ∷ 0x18 ∷ 0x60 ∷ 0x00 ∷ 0x00 ∷ 0x34 ∷ [])
    ∷ (0x80 ∷ 0x1E ∷ 0x84 ∷ 0x80 ∷ 0x00 ∷ 0x18 ∷ 0x40 ∷ 0x00 ∷ 0x00 ∷ 0x34 ∷ [])
    ∷ (0x00 ∷ 0x00 ∷ 0x00 ∷ 0x00 ∷ 0x20 ∷ 0x18 ∷ 0x00 ∷ 0x00 ∷ 0x00 ∷ 0x34 ∷ [])
    ∷ (0x00 ∷ 0x00 ∷ 0x00 ∷ 0x00 ∷ 0x20 ∷ 0x00 ∷ 0x00 ∷ 0x00 ∷ 0x00 ∷ 0x34 ∷ [])
    ∷ (0x00 ∷ 0x00 ∷ 0x00 ∷ 0x00 ∷ 0x20 ∷ 0x04 ∷ 0x00 ∷ 0x00 ∷ 0x00 ∷ 0x34 ∷ [])
    ∷ (0x00 ∷ 0x00 ∷ 0x00 ∷ 0x00 ∷ 0x26 ∷ 0x98 ∷ 0x00 ∷ 0x00 ∷ 0x00 ∷ 0x34 ∷ [])
    ∷ (0x00 ∷ 0x00 ∷ 0x00 ∷ 0x00 ∷ 0x00 ∷ 0x18 ∷ 0x00 ∷ 0x00 ∷ 0x40 ∷ 0xB4 ∷ [])
    ∷ (0x00 ∷ 0x00 ∷ 0x00 ∷ 0x00 ∷ 0x00 ∷ 0x18 ∷ 0x50 ∷ 0x00 ∷ 0x48 ∷ 0x74 ∷ [])
    ∷ (0x00 ∷ 0x00 ∷ 0x00 ∷ 0x00 ∷ 0x00 ∷ 0x18 ∷ 0x50 ∷ 0x00 ∷ 0x40 ∷ 0x74 ∷ [])
    ∷ [] in
    by_row profile.check_profile inputs check_profile_given refl

pub read_profiles : EachGiven profile.read_profile (29 ∷ 30 ∷ [])
unfolding profile.read_profile profile.tests
    bits_at
read_profiles = (by [] refl, (by (0 ∷ 0 ∷ 0 ∷ 0 ∷ 0 ∷ 0 ∷ 0 ∷ 0 ∷ 0 ∷ 1 ∷ []) refl, tt))

pub read_images : EachGiven image.read_image (31 ∷ [])
unfolding image.read_image
read_images = (by [] refl, tt)

abbrev eight : List ℕ
eight = 0 ∷ 0 ∷ 0 ∷ 0 ∷ 0 ∷ 0 ∷ 0 ∷ 0 ∷ []

pub write_profiles : EachGiven (λ (x : Config × List ℕ). write_of 10 (profile.profile_bytes x.0) x.1) (32 ∷ 30 ∷ [])
unfolding profile.profile_bytes profile.writable profile.tests profile.rest_of
write_profiles = (
  by (setup None 0 0 None 0 None false 0 adc.Hclk, []) refl,
  (by (setup None 3 0 None 0 None false 0 adc.Hclk, 0 ∷ 0 ∷ eight) refl, tt),
)

pub write_images : EachGiven (λ (x : Fields × List ℕ). write_of 8 (image.image_bytes x.0) x.1) (32 ∷ 28 ∷ [])
unfolding image.image_bytes image.in_widths
write_images = (by (fields 0 false 0 0 0 0, []) refl, (by (fields 4 false 0 0 0 0, eight) refl, tt))

pub adc_queries : EachGiven (λ (x : Fields × ℕ). adc_query_of x.0 x.1) (28 ∷ [])
unfolding adc_query_of image.in_widths
adc_queries = (by (fields 4 false 0 0 0 0, 0) refl, tt)

pub rng_queries : EachGiven (λ (x : Fields × ℕ). rng_query_of x.0 x.1) (28 ∷ [])
unfolding rng_query_of image.in_widths
rng_queries = (by (fields 4 false 0 0 0 0, 0) refl, tt)

then_bound : {A B : Type 0} (m : Answer A) (p : Answer B) → (◌>>◌ m p) ≡ (◌>>=◌ m (λ a. p))
then_bound (gives a) p = refl
then_bound (refuses k) p = refl

pub starts : EachGiven (λ (x : Config × Fields). start_of x.0 x.1) check_given
unfolding start_of image.in_widths
starts =
    let clear = fields 0 false 0 0 0 0 in
    each_behind check_of (λ x. start_of x.0 x.1) (λ c. (c, clear)) (λ c x. gives (going c clear 1 0 0))
    (λ c. then_bound (check_of c) (gives (going c clear 1 0 0))) check_given checks
