-- Laws of the shared PLL: the USB clock is 48 MHz, and a decoder given what a check took gives the check's clocks.
-- Assumes nothing.
use Rattle.std.specs.Prelude.{◌≡◌, Bool, true, false, cond, Option, None, Some, List, [], ◌∷◌, ℕ, ◌+◌, ◌*◌, ◌/◌, ◌<◌, ◌≤◌, eqb, leb, ltb}
use Rattle.std.proofs.Math.Path.{refl}
use Rattle.std.proofs.Common.{◌∙◌, ap, subst, arith, div-le_self, le_trans, mul-le-mul_left, mul-le-mul_right, eqb-true, le-ltb, leb→le, lit≤}
use Rattle.answer.specs.Answer.{Answer, gives, refuse, ◌>>◌, bound, passed, same_given, refuses_gives}
use Rattle.divider.specs.declared.Frequency.{Frequency}
use Rattle.divider.specs.Frequency.{whole}
use Rattle.divider.specs.Table.{at}
use Rattle.tree.specs.Tree.{clocks_of}
use Rattle.pll32.specs.declared.Part.{Part}
use Rattle.pll32.specs.declared.Part.TheVariants.{V1, L1, V30x}
use Rattle.pll32.specs.declared.Setting.{Setting}
use Rattle.pll32.specs.declared.ClockRecord.{ClockRecord}
use Rattle.pll32.specs.Answers.{Given}
use Rattle.pll32.specs.Pll.{factor, too_wide, wide_setting, family_of, needed_hse_of, pll_output_of, pll_as_sysclk_of, sysclk_of, usb_divisor, configured_clocks_of, decoded_sysclk_of, decoded_clocks_of}

-- The USB clock: where there is a divisor, it makes 48 MHz of the PLL's output.

first : (e : Bool) (hz at x rest : ℕ) → (e ≡ true → hz ≡ at) → 2 * at ≡ 48000000 * x →
    (1 ≤ rest → 2 * hz ≡ 48000000 * rest) → 1 ≤ cond e x rest → 2 * hz ≡ 48000000 * cond e x rest
first true hz at x rest is right others some = rw (is refl) right
first false hz at x rest is right others some = others some

module _ (hz : ℕ) where
  divides : (at x rest : ℕ) → 2 * at ≡ 48000000 * x → (1 ≤ rest → 2 * hz ≡ 48000000 * rest) →
      1 ≤ cond (eqb hz at) x rest → 2 * hz ≡ 48000000 * cond (eqb hz at) x rest
  divides at x rest = first (eqb hz at) hz at x rest (eqb-true hz at)

  none : 1 ≤ 0 → 2 * hz ≡ 0
  none h = absurd (omega arith)

  pub usb_48_mhz : (part : Part) → 1 ≤ usb_divisor part hz → 2 * hz ≡ 48000000 * usb_divisor part hz
  unfolding usb_divisor
  usb_48_mhz V1 = divides 48000000 2 (cond (eqb hz 72000000) 3 0) refl (divides 72000000 3 0 refl none)
  usb_48_mhz L1 =
      divides 48000000 2 (cond (eqb hz 72000000) 3 (cond (eqb hz 96000000) 4 0)) refl
      (divides 72000000 3 (cond (eqb hz 96000000) 4 0) refl (divides 96000000 4 0 refl none))
  usb_48_mhz V30x =
      divides 48000000 2 (cond (eqb hz 96000000) 4 (cond (eqb hz 144000000) 6 0)) refl
      (divides 96000000 4 (cond (eqb hz 144000000) 6 0) refl (divides 144000000 6 0 refl none))

-- HSI's product always fits, so no PLL is refused by both 24 and 25: only HSE's product passes 32 bits, only HSI's predivider is limited.

sixteen : List ℕ
sixteen = 0 ∷ 1 ∷ 2 ∷ 3 ∷ 4 ∷ 5 ∷ 6 ∷ 7 ∷ 8 ∷ 9 ∷ 10 ∷ 11 ∷ 12 ∷ 13 ∷ 14 ∷ 15 ∷ []

at_most_18 : Part → ℕ → ℕ → Bool
at_most_18 part c x = leb (factor part c) 18

factor_most : (part : Part) (c : ℕ) → c < 16 → factor part c ≤ 18
unfolding sixteen at_most_18 factor
factor_most V1 c h = leb→le (factor V1 c) 18 (at (at_most_18 V1) sixteen tt c h)
factor_most L1 c h = leb→le (factor L1 c) 18 (at (at_most_18 L1) sixteen tt c h)
factor_most V30x c h = leb→le (factor V30x c) 18 (at (at_most_18 V30x) sixteen tt c h)

pub hsi_fits : (part : Part) (n c : ℕ) → c < 16 → ltb 4294967295 (8000000 / (n + 1) * factor part c) ≡ false
hsi_fits part n c h =
    let input : 8000000 / (n + 1) ≤ 8000000 = div-le_self 8000000 (n + 1) in
    let product = le_trans (mul-le-mul_right (factor part c) input) (mul-le-mul_left 8000000 (factor_most part c h)) in
    le-ltb _ _ (le_trans product (lit≤ tt))

-- The end of a check and the end of a decoder.

-- the setting s gives a decoder what the check has as the PLL's output
pub record Reads (part : Part) (hse : Option ℕ) (out : Option Frequency) (s : Setting) : Type 0 where
  pub fits : wide_setting s.prediv s.mul ≡ false
  pub same : (x : Frequency) → pll_as_sysclk_of out ≡ gives x → pll_output_of part hse s ≡ gives x

-- any setting where no PLL is configured, since the check does not choose it
pub reads_absent : (part : Part) (hse : Option ℕ) (s : Setting) → wide_setting s.prediv s.mul ≡ false → Reads part hse None s
reads_absent part hse s fits =
    record { fits = fits; same = λ x e. refuses_gives e }

pub reads_hz : (part : Part) (hse : Option ℕ) (s : Setting) {x : Frequency} → pll_output_of part hse s ≡ gives x →
    Reads part hse (Some x) s
unfolding pll_output_of
reads_hz part hse s e = record { fits = (passed 28 (wide_setting s.prediv s.mul) _ e).failed; same = λ x q. e ∙ q }

-- 20 in the check, and the choice
picks : (three one two : Bool) (hse checks reads : Answer Frequency) → ((x : Frequency) → checks ≡ gives x → reads ≡ gives x) →
    (x : Frequency) → ◌>>◌ (refuse 20 three) (cond one hse (cond two checks (gives (whole 8000000)))) ≡ gives x →
    cond one hse (cond two reads (gives (whole 8000000))) ≡ gives x
picks three true two hse checks reads same x e = (passed 20 three hse e).after
picks three false true hse checks reads same x e = same x (passed 20 three checks e).after
picks three false false hse checks reads same x e = (passed 20 three (gives (whole 8000000)) e).after

-- then a decoder given the check's codes gives its clocks
pub read_back : (part : Part) (hse : Option ℕ) (out : Option Frequency) (s : Setting) (sys ahb apb1 apb2 : ℕ) {x : ClockRecord} →
    Reads part hse out s → configured_clocks_of part hse out sys ahb apb1 apb2 ≡ gives x →
    decoded_clocks_of part hse s sys ahb apb1 apb2 ≡ gives x.clocks
unfolding configured_clocks_of sysclk_of decoded_clocks_of decoded_sysclk_of
read_back part hse out s sys ahb apb1 apb2 {x} reads e =
    let wide = passed 28 (too_wide sys ahb apb1 apb2) _ e in
    let system = bound (sysclk_of hse out sys) _ wide.after in
    let buses = bound (clocks_of (family_of part) system.value ahb apb1 apb2) _ system.after in
    let clocks : buses.value ≡ x.clocks = ap (λ (y : ClockRecord). y.clocks) (same_given buses.after) in
    let chosen : decoded_sysclk_of part hse s sys ≡ gives system.value =
    picks (eqb sys 3) (eqb sys 1) (eqb sys 2) (needed_hse_of hse) (pll_as_sysclk_of out) (pll_output_of part hse s) reads.same
    system.value system.gave in
    rw (reads.fits, wide.failed, chosen, buses.gave, clocks)

-- a check whose system clock is the PLL has its output
pub pll_chosen : (part : Part) (hse : Option ℕ) (out : Option Frequency) (sys ahb apb1 apb2 : ℕ) {x : ClockRecord} →
    configured_clocks_of part hse out sys ahb apb1 apb2 ≡ gives x → sys ≡ 2 → Given (pll_as_sysclk_of out)
unfolding configured_clocks_of sysclk_of
pll_chosen part hse out sys ahb apb1 apb2 e two =
    let wide = passed 28 (too_wide sys ahb apb1 apb2) _ e in
    let system = bound (sysclk_of hse out sys) _ wide.after in
    record {
      value = system.value;
      given = subst (λ (s : ℕ). sysclk_of hse out s ≡ gives system.value) two system.gave;
    }
