-- The same of V1, L1, V30x, H4, serial divisors and trays, and all of it together.
-- Assumes nothing.
use Rattle.std.specs.Prelude.{Option, None, Some}
use Prim.Native.Nat.{ℕ, ◌*◌}
use mathlib.Core.Path.{refl}
use mathlib.Core.Bool.{Bool, true, false}
use mathlib.Core.List.{List, [], ◌∷◌}
use lib.ListN.{replicate}
use Rattle.answer.specs.Answer.{gives}
use Rattle.divider.specs.declared.Family.TheVariants.{H4}
use Rattle.divider.specs.declared.Frequency.{Frequency}
use Rattle.divider.specs.Frequency.{whole, over}
use Rattle.divider.specs.Divide.{ahb_of, apb_of, by_ahb_of, by_apb_of}
use Rattle.tree.specs.declared.Clocks.{Clocks}
use Rattle.tree.specs.declared.Hse.{Hse}
use Rattle.pll32.specs.declared.Source.{Source}
use Rattle.pll32.specs.declared.Source.TheVariants as from
use Rattle.pll32.specs.Pll.{factor, multiplied_of, pll_output_of, sysclk_of, configured_clocks_of, decoded_sysclk_of, decoded_clocks_of}
use Rattle.v1.specs.declared.Chip.{Chip}
use Rattle.v1.specs.declared.Chip.TheVariants.{V1}
use Rattle.v1.specs.declared.PllPreDiv.TheVariants.{Div1}
use Rattle.v1.specs.declared.Pll as pll1
use Rattle.v1.specs.declared.Config as config1
use Rattle.v1.specs.declared.Fields as in1
use Rattle.v1.specs.V1 as v1
use Rattle.v30x.specs.declared.Pll as pll30
use Rattle.v30x.specs.declared.PllSource.{PllSource}
use Rattle.v30x.specs.declared.PllSource.TheVariants as source30
use Rattle.v30x.specs.declared.Config as config30
use Rattle.v30x.specs.declared.Fields as in30
use Rattle.v30x.specs.V30x as v30x
use Rattle.h4.specs.declared.Prescale.{Prescale}
use Rattle.h4.specs.H4.{pclk_of, doubled_of, prescaled_of}
use Rattle.serial.specs.Serial.{nearest_of, divisor_of, port_of}
use Rattle.serial.specs.Rows.{clocks}
use Rattle.boards.specs.Tray.{boards_in, tray_of}
use Rattle.demands.specs.First.{EachGiven, write_of, check_given1, check_given30, tray_given, Demand1Exact}
use Rattle.demands.proofs.Given.{by, by_row, each_behind, checks, starts, decodes, adc_queries, rng_queries}
use Rattle.demands.proofs.Given.{check_profiles, read_profiles, read_images, write_profiles, write_images}

abbrev xtal : ℕ → Option Hse
xtal hz = Some (record { bypass = false; freq = hz })

-- ---- V1: HSE, system clock, PLL source, PLL; the prescalers at 1

abbrev setup1 : Option Hse → ℕ → Source → Option pll1.Pll → config1.Config
setup1 h sys source p = record { hse = h; sys = sys; pll_src = source; pll = p; ahb_pre = 0; apb1_pre = 0; apb2_pre = 0 }

checks1 : EachGiven (λ (x : Chip × config1.Config). v1.check_of x.0 x.1) check_given1
unfolding v1.check_of v1.wide_config v1.configured_pll_of pll_output_of multiplied_of factor over configured_clocks_of sysclk_of
checks1 =
    let inputs : List (Chip × config1.Config) =
    (V1, setup1 None 0 from.Hsi (Some (record { prediv = Div1; mul = 16 })))
    ∷ (V1, setup1 None 1 from.Hsi None)
    ∷ (V1, setup1 (xtal 268435456) 0 from.Hse (Some (record { prediv = Div1; mul = 15 })))
    ∷ (V1, setup1 None 3 from.Hsi None)
    ∷ (V1, setup1 None 2 from.Hsi None)
    ∷ [] in
    by_row (λ x. v1.check_of x.0 x.1) inputs check_given1 refl

-- SWS, PLLSRC, PLLMUL
abbrev fields1 : ℕ → Bool → ℕ → in1.Fields
fields1 sws src mul = record { sws = sws; pllsrc = src; pllxtpre = false; pllmul = mul; hpre = 0; ppre1 = 0; ppre2 = 0; hsipre = false }

writes1 : EachGiven (λ (x : Chip × config1.Config × in1.Fields). v1.fields_of x.0 x.1 x.2) check_given1
unfolding v1.fields_of v1.wide_fields
writes1 =
    let f = fields1 0 false 0 in
    each_behind (λ (x : Chip × config1.Config). v1.check_of x.0 x.1) (λ x. v1.fields_of x.0 x.1 x.2) (λ x. (x.0, x.1, f))
    (λ x k. gives (v1.written_of x.1 f)) (λ x. refl) check_given1 checks1

decodes1 : EachGiven (λ (x : Chip × in1.Fields × Option ℕ). v1.decode_of x.0 x.1 x.2) (28 ∷ 3 ∷ 24 ∷ [])
unfolding v1.decode_of v1.setting_in decoded_clocks_of decoded_sysclk_of pll_output_of multiplied_of factor over
decodes1 =
    let inputs : List (Chip × in1.Fields × Option ℕ) =
    (V1, fields1 4 false 0, None)
    ∷ (V1, fields1 1 false 0, None)
    ∷ (V1, fields1 2 true 15, Some 268435456)
    ∷ [] in
    by_row (λ x. v1.decode_of x.0 x.1 x.2) inputs (28 ∷ 3 ∷ 24 ∷ []) refl

-- ---- V30x: HSE, system clock, PLL source, PLL, `pllx`, USBHS PLL from HSI; the prescalers at 1

abbrev setup30 : Option Hse → ℕ → PllSource → Option pll30.Pll → Bool → Option ℕ → config30.Config
setup30 h sys source p pllx usbhs =
    record {
      hse = h;
      sys = sys;
      pll_src = source;
      pll = p;
      pllx = pllx;
      ahb_pre = 0;
      apb1_pre = 0;
      apb2_pre = 0;
      hspll_src = from.Hsi;
      hspll = usbhs;
    }

checks30 : EachGiven v30x.check_of check_given30
unfolding v30x.check_of v30x.wide_config v30x.sources_of v30x.configured_pll_of v30x.pll_from_oscillator_of v30x.usbhs_of pll_output_of multiplied_of factor over configured_clocks_of sysclk_of
checks30 =
    let inputs : List config30.Config =
    setup30 None 4 source30.Hsi None false None
    ∷ setup30 None 0 source30.Hsi None true None
    ∷ setup30 None 1 source30.Hsi None false None
    ∷ setup30 (xtal 330382100) 0 source30.Hse (Some (record { prediv = 0; mul = 13 })) false None
    ∷ setup30 None 0 source30.Hsi (Some (record { prediv = 2; mul = 0 })) false None
    ∷ setup30 None 0 source30.Hsi None false (Some 2)
    ∷ setup30 None 3 source30.Hsi None false None
    ∷ setup30 None 2 source30.Hsi None false None
    ∷ [] in
    by_row v30x.check_of inputs check_given30 refl

-- SWS, PREDIV1SRC, PLLMUL; the PLL from HSE
abbrev fields30 : ℕ → Bool → ℕ → in30.Fields
fields30 sws pll2 mul =
    record { sws = sws; pllsrc = true; prediv1 = 0; prediv1src = pll2; pllmul = mul; hpre = 0; ppre1 = 0; ppre2 = 0; hsipre = false }

writes30 : EachGiven (λ (x : config30.Config × in30.Fields). v30x.fields_of x.0 x.1) check_given30
unfolding v30x.fields_of v30x.wide_fields
writes30 =
    let f = fields30 0 false 0 in
    each_behind v30x.check_of (λ x. v30x.fields_of x.0 x.1) (λ c. (c, f)) (λ c k. gives (v30x.written_of c f)) (λ c. refl) check_given30 checks30

decodes30 : EachGiven (λ (x : in30.Fields × Option ℕ). v30x.decode_of x.0 x.1) (28 ∷ 27 ∷ 3 ∷ 24 ∷ [])
unfolding v30x.decode_of v30x.wide_fields v30x.setting_in decoded_clocks_of decoded_sysclk_of pll_output_of multiplied_of factor over
decodes30 =
    let inputs : List (in30.Fields × Option ℕ) =
    (fields30 4 false 0, None)
    ∷ (fields30 2 true 0, None)
    ∷ (fields30 2 false 0, None)
    ∷ (fields30 2 false 13, Some 330382100)
    ∷ [] in
    by_row (λ x. v30x.decode_of x.0 x.1) inputs (28 ∷ 27 ∷ 3 ∷ 24 ∷ []) refl

-- ---- H4: HPRE 16, PPRE 8, multiplier 32

clocks_4 : EachGiven (λ (x : Frequency × Prescale). prescaled_of x.0 x.1) (28 ∷ [])
unfolding prescaled_of by_ahb_of ahb_of
clocks_4 = (by (whole 0, record { hpre = 16; fpre = 0; ppre1 = 0; ppre2 = 0 }) refl, tt)

pclk_4 : EachGiven (λ (x : Frequency × ℕ). pclk_of x.0 x.1) (28 ∷ [])
unfolding pclk_of by_apb_of apb_of
pclk_4 = (by (whole 0, 8) refl, tt)

ahb_4 : EachGiven (λ (x : Frequency × ℕ). by_ahb_of H4 x.0 x.1) (28 ∷ [])
unfolding by_ahb_of ahb_of
ahb_4 = (by (whole 0, 16) refl, tt)

doubled_4 : EachGiven doubled_of (28 ∷ [])
unfolding doubled_of
doubled_4 = (by 32 refl, tt)

divisors : EachGiven (λ (x : ℕ × ℕ). divisor_of x.0 x.1) (33 ∷ 34 ∷ [])
unfolding divisor_of nearest_of
divisors = (by (0, 0) refl, (by (0, 1) refl, tt))

ports : EachGiven (λ (x : Clocks × ℕ × ℕ). port_of x.0 x.1 x.2) (28 ∷ 33 ∷ 34 ∷ [])
unfolding clocks port_of divisor_of nearest_of
ports = (by (clocks, 0, 0) refl, (by (clocks, 1, 0) refl, (by (clocks, 1, 8000000) refl, tt)))

-- ten bytes of profiles, and one, with nothing lent
trays : EachGiven (λ (x : List ℕ × List ℕ). write_of (32 * boards_in x.0) (tray_of x.0) x.1) tray_given
unfolding tray_of
trays = (by (replicate 10 0, []) refl, (by (0 ∷ [], []) refl, tt))

pub demand1_exact : Demand1Exact
demand1_exact = record {
  check = checks;
  check_profile_lem = check_profiles;
  read_profile_lem = read_profiles;
  read_image_lem = read_images;
  write_profile = write_profiles;
  write_image = write_images;
  decode = decodes;
  adc_query = adc_queries;
  rng_query = rng_queries;
  start = starts;
  check1 = checks1;
  fields1 = writes1;
  decode1 = decodes1;
  check30 = checks30;
  fields30 = writes30;
  decode30 = decodes30;
  clocks4 = clocks_4;
  pclk4 = pclk_4;
  ahb4 = ahb_4;
  doubled4 = doubled_4;
  divisor = divisors;
  port = ports;
  tray = trays;
}
