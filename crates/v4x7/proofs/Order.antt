-- The check refuses by the first refusal in document 01's order, and accepts exactly where none applies.
-- Assumes nothing.
use mathlib.Core.Path.{◌≡◌, refl, ap}
use mathlib.Core.Bool.{Bool, true, false, cond, not, ◌&&◌, ◌||◌}
use mathlib.Core.List.{[], ◌∷◌}
use Rattle.std.specs.Prelude.{Option, None, Some}
use Prim.Native.Nat.{ℕ, zero, suc, ◌+◌, ◌*◌, ◌/◌, ◌≤◌}
use native.Mathlib.Omega.{arith}
use borrow.Author.Tests.{lt-leb, leb-true, ne_eqb, not-false}
use lib.Dec.{ltb, eqb}
use lib.ListN.{take, drop}
use Rattle.answer.specs.Answer.{gives, ◌>>◌}
use Rattle.answer.specs.Order.{first_of, bare, none_holds, failed, OrElse, else_gives, else_known, else_not, else_skip, else_drop, else_past, else_refuse, else_bind, else_where, else_then, else_order}
use Rattle.answer.specs.Tools.{false_true}
use Rattle.divider.specs.declared.Family.TheVariants.{V4x7}
use Rattle.divider.specs.declared.Frequency.{Frequency}
use Rattle.divider.specs.Divide.{apb_divisor}
use Rattle.divider.specs.Frequency.{whole, over}
use Rattle.tree.specs.Order.{no_hse, hse_hz, clocks_at}
use Rattle.v4x7_rules.specs.Rules.{hse_in_range, used_hse_of, reference_code_of, two_thirds, sys_pll_of, buses_of}
use Rattle.v4x7_rules.specs.Plain.{outside, main_pll_hz, allowed, sys_pll_hz}
use Rattle.v4x7_rules.proofs.Order.{used_hse_else, main_pll_else, eth_pll_else, reference_code_else, buses_else, adc_from_hclk_else, adc_from_usbhs_else}
use Rattle.tree.specs.declared.Hse.{Hse}
use Rattle.tree.specs.Tree.{hse_frequency_of}
use Rattle.v4x7.specs.declared.AdcClockSource.{AdcClockSource}
use Rattle.v4x7.specs.declared.AdcClockSource.TheVariants as adc
use Rattle.v4x7.specs.declared.Config.{Config}
use Rattle.v4x7.specs.declared.ClockRecord.{ClockRecord}
use Rattle.v4x7.specs.Check.{named_pll, named_source, named_of, has_hse, has_main, has_usb_hs, rng_of, hse_present_of, main_of, eth_of, reference_of, usb_hs_of, sources_of, sys_pll_input_of, sysclk_of, system_of, adc_ratio_of, limits_of, adc_of, record_of, check_of}
use Rattle.v4x7.specs.Laws.{Named, named_given}
use Rattle.v4x7.specs.Order.{multiplier, main_pll, usb_hs_from, sysclk, adc_from_usb_hs, adc_source, adc_first, adc_total, check_tests}

rng : (source : ℕ) (p : Option ℕ) (eth : Bool) →
    OrElse ((1, eqb source 1 && not (has_usb_hs p)) ∷ (2, eqb source 2 && not eth) ∷ []) tt (rng_of source p eth)
unfolding rng_of
rng source p eth = else_past 1 (eqb source 1 && not (has_usb_hs p)) (λ e. else_refuse 2 (eqb source 2 && not eth))

-- HSE's range is tested here, whatever needs HSE later
abbrev out : Option Hse → Bool
out h = has_hse h && outside 5000000 32000000 (hse_hz (hse_frequency_of h))

hse_present_lem : (h : Option Hse) → OrElse ((4, out h) ∷ []) tt (hse_present_of (hse_frequency_of h))
unfolding hse_present_of hse_in_range
hse_present_lem None = record { is = refl }
hse_present_lem (Some hse) = else_refuse 4 (outside 5000000 32000000 hse.freq)

-- so that a part that needs HSE refuses by 3 alone
absent : (h : Option Hse) → no_hse (hse_frequency_of h) ≡ not (has_hse h)
absent None = refl
absent (Some hse) = refl

tested : (h : Option Hse) (b : Bool) → out h ≡ false → (b && not (has_hse h)) ≡ false → (b && outside 5000000 32000000 (hse_hz (hse_frequency_of h))) ≡ false
tested None true fits there = there
tested None false fits there = refl
tested (Some hse) true fits there = fits
tested (Some hse) false fits there = refl

needed : (h : Option Hse) → out h ≡ false → OrElse ((3, not (has_hse h)) ∷ []) (whole (hse_hz (hse_frequency_of h))) (used_hse_of (hse_frequency_of h))
needed h fits = else_drop (rw (absent h) at (used_hse_else (hse_frequency_of h))) (tested h true fits)

main_pll_lem : (h : Option Hse) (source : ℕ) (p : Option ℕ) → out h ≡ false → named_pll p ≡ true →
    let hz = main_pll_hz (hse_frequency_of h) (eqb source 1) (multiplier p) in
    OrElse ((3, has_main p && eqb source 1 && not (has_hse h)) ∷ (5, has_main p && outside 100000000 400000000 hz) ∷ [])
    (cond (has_main p) (Some (whole hz)) None) (main_of (hse_frequency_of h) source p)
unfolding main_of
main_pll_lem h source None fits named = record { is = refl }
main_pll_lem h source (Some m) fits named =
    let rule = else_skip (main_pll_else (hse_frequency_of h) (eqb source 1) m) (lt-leb 32 m (omega (arith, leb-true m 31 named))) in
    else_bind (else_drop (rw (absent h) at rule) (tested h (eqb source 1) fits)) (λ main e. else_known (ap Some e))

eth_pll_lem : (h : Option Hse) (eth : Bool) → out h ≡ false →
    OrElse ((3, eth && not (has_hse h)) ∷ (6, eth && not (eqb (hse_hz (hse_frequency_of h)) 25000000)) ∷ []) tt (eth_of (hse_frequency_of h) eth)
unfolding eth_of
eth_pll_lem h false fits = record { is = refl }
eth_pll_lem h true fits = else_drop (rw (absent h) at (eth_pll_else (hse_frequency_of h))) (tested h true fits)

allowed_else : (hz : ℕ) → OrElse {A = Unit {0}} ((8, not (allowed hz)) ∷ []) tt (◌>>◌ (reference_code_of hz) (gives tt))
allowed_else hz = else_then (reference_code_else hz) (λ e. else_gives)

usbhs_pll : (h : Option Hse) (eth : Bool) (p : Option ℕ) → out h ≡ false →
    OrElse ((3, usb_hs_from 0 p && not (has_hse h)) ∷ (7, usb_hs_from 2 p && not eth)
    ∷ (8, has_usb_hs p && not (allowed (cond (usb_hs_from 0 p) (hse_hz (hse_frequency_of h)) 20000000))) ∷ []) tt (usb_hs_of (hse_frequency_of h) eth p)
unfolding usb_hs_of reference_of
usbhs_pll h eth None fits = record { is = refl }
usbhs_pll h eth (Some zero) fits = else_bind (needed h fits) (λ x e. rw e (else_not (allowed_else (hse_hz (hse_frequency_of h)))))
usbhs_pll h eth (Some (suc n)) fits =
    rw (ne_eqb (suc n) 0 (omega arith))
    (else_not (else_bind (else_past 7 (eqb (suc n) 2 && not eth) (λ e. else_gives)) (λ x e. rw e (allowed_else 20000000))))

-- the main PLL's output as the sources leave it
abbrev main : Config → Option Frequency
main c = cond (has_main c.pll) (Some (whole (main_pll c))) None

sources : (c : Config) → Named c → OrElse (take 10 (drop 1 (check_tests c))) (main c) (sources_of c)
unfolding sources_of
sources c n =
    else_then (rng c.rng_src c.hspll c.ethpll) (λ e.
    else_then (hse_present_lem c.hse) (λ e.
    let fits = failed 4 (out c.hse) e in
    else_bind (main_pll_lem c.hse c.pll_src c.pll fits n.pll) (λ main e.
    else_then (eth_pll_lem c.hse c.ethpll fits) (λ ok.
    else_then (usbhs_pll c.hse c.ethpll c.hspll fits) (λ ok. else_known e)))))

sys_pll_input : (p : Option ℕ) (hz : ℕ) (q : Option ℕ) (eth : Bool) (source : ℕ) → named_source source ≡ true →
    OrElse ((9, eqb source 6 && not (has_main p)) ∷ (10, (eqb source 0 || eqb source 2) && not (has_usb_hs q))
    ∷ (11, (eqb source 1 || eqb source 3) && not eth) ∷ []) (whole (sys_pll_hz source hz))
    (sys_pll_input_of (cond (has_main p) (Some (whole hz)) None) q eth source)
unfolding sys_pll_input_of sys_pll_of two_thirds over
sys_pll_input p hz q eth zero named = else_not (else_past 10 (not (has_usb_hs q)) (λ e. else_not else_gives))
sys_pll_input p hz q eth (suc zero) named = else_not (else_not (else_past 11 (not eth) (λ e. else_gives)))
sys_pll_input p hz q eth (suc (suc zero)) named = else_not (else_past 10 (not (has_usb_hs q)) (λ e. else_not else_gives))
sys_pll_input p hz q eth (suc (suc (suc zero))) named = else_not (else_not (else_past 11 (not eth) (λ e. else_gives)))
sys_pll_input p hz q eth (suc (suc (suc (suc zero)))) named = false_true named
sys_pll_input p hz q eth (suc (suc (suc (suc (suc zero))))) named = false_true named
sys_pll_input None hz q eth (suc (suc (suc (suc (suc (suc zero)))))) named = record { is = refl }
sys_pll_input (Some m) hz q eth (suc (suc (suc (suc (suc (suc zero)))))) named = record { is = refl }
sys_pll_input p hz q eth (suc (suc (suc (suc (suc (suc (suc n))))))) named =
    false_true (rw (lt-leb (suc (suc (suc (suc (suc (suc (suc n))))))) 3 (omega arith), ne_eqb (suc (suc (suc (suc (suc (suc (suc n))))))) 6 (omega arith)) at named)

system_cases : {P : Type 0} (s : ℕ) → s ≤ 2 → (s ≡ 0 → P) → (s ≡ 1 → P) → (s ≡ 2 → P) → P
system_cases zero small hsi hse pll = hsi refl
system_cases (suc zero) small hsi hse pll = hse refl
system_cases (suc (suc zero)) small hsi hse pll = pll refl
system_cases (suc (suc (suc n))) small hsi hse pll = absurd (omega arith)

sysclk_else : (c : Config) (m : Option Frequency) → m ≡ main c → Named c → out c.hse ≡ false →
    OrElse (take 4 (drop 11 (check_tests c))) (whole (sysclk c)) (sysclk_of m c)
unfolding sysclk_of over
sysclk_else c m e n fits =
    rw e (system_cases c.sys n.sys
    (λ is. rw is (record { is = refl }))
    (λ is. rw is (record { is = (needed c.hse fits).is }))
    (λ is. rw is (else_not (else_bind (sys_pll_input c.pll (main_pll c) c.hspll c.ethpll c.syspll_src n.source)
    (λ x e. else_known (ap (λ (y : Frequency). over y (c.syspll_pre + 1)) e))))))

system : (c : Config) → Named c → OrElse (take 14 (drop 1 (check_tests c))) (whole (sysclk c)) (system_of c)
unfolding system_of
system c n = else_where (sources c n) (λ m e none. sysclk_else c m e n (none_holds (take 10 (drop 1 (check_tests c))) none 2))

ratio : (sys ahb apb2 pre : ℕ) (p : Option ℕ) (source : AdcClockSource) → ahb ≤ 15 → apb2 ≤ 7 → pre ≤ 3 →
    OrElse ((13, adc_from_usb_hs source && not (has_usb_hs p)) ∷ (14, adc_from_usb_hs source && outside 1 32 (adc_first source ahb)) ∷ [])
    (cond (adc_from_usb_hs source) 480000000 sys, adc_first source ahb * apb_divisor apb2 * (2 * (pre + 1))) (adc_ratio_of sys ahb apb2 pre p source)
unfolding adc_ratio_of
ratio sys ahb apb2 pre p adc.Hclk h k l =
    else_not (else_not
    (else_skip (else_skip (else_skip (adc_from_hclk_else sys ahb apb2 pre) (lt-leb 16 ahb (omega arith))) (lt-leb 4 pre (omega arith))) (lt-leb 8 apb2 (omega arith))))
ratio sys ahb apb2 pre p (adc.UsbHsPll d) h k l =
    else_past 13 (not (has_usb_hs p)) (λ e.
    else_skip (else_skip (adc_from_usbhs_else d apb2 pre) (lt-leb 4 pre (omega arith))) (lt-leb 8 apb2 (omega arith)))

limits : (x : ℕ × ℕ) {source total : ℕ} → x ≡ (source, total) →
    OrElse ((15, ltb (30000000 * total) source) ∷ (16, eqb (source / total) 0) ∷ []) (source / total) (limits_of x.0 x.1)
unfolding limits_of
limits x {source} {total} e =
    rw e (else_past 15 (ltb (30000000 * total) source) (λ e. else_past 16 (eqb (source / total) 0) (λ e. else_gives)))

adc_else : (c : Config) → Named c → OrElse (take 4 (drop 16 (check_tests c))) (adc_source c / adc_total c) (adc_of (sysclk c) c)
unfolding adc_of
adc_else c n =
    else_bind (ratio (sysclk c) c.ahb_pre c.apb2_pre c.adc_pre c.hspll c.adc_src n.ahb_pre n.apb2_pre n.adc_pre)
    (λ x e. limits x e)

buses : (c : Config) → Named c →
    OrElse (take 1 (drop 15 (check_tests c))) (clocks_at V4x7 (whole (sysclk c)) c.ahb_pre c.apb1_pre c.apb2_pre)
    (buses_of (whole (sysclk c)) c.ahb_pre c.apb1_pre c.apb2_pre)
buses c n =
    else_skip (else_skip (else_skip (buses_else (whole (sysclk c)) c.ahb_pre c.apb1_pre c.apb2_pre)
    (lt-leb 16 c.ahb_pre (omega (arith, n.ahb_pre)))) (lt-leb 8 c.apb1_pre (omega (arith, n.apb1_pre))))
    (lt-leb 8 c.apb2_pre (omega (arith, n.apb2_pre)))

-- the clock record, of plain numbers
abbrev recorded : Config → ClockRecord
recorded c =
    record {
      clocks = clocks_at V4x7 (whole (sysclk c)) c.ahb_pre c.apb1_pre c.apb2_pre;
      adc = adc_source c / adc_total c;
    }

below : (c : Config) (sys : Frequency) → sys ≡ whole (sysclk c) → Named c →
    OrElse (take 5 (drop 15 (check_tests c))) (recorded c) (record_of sys c)
below c sys e n =
    rw e (else_bind (buses c n) (λ k clocks. rw clocks (else_bind (adc_else c n) (λ a adc. rw adc else_gives))))

-- the whole check: refused by the first of the list, or else the plain numbers
pub check_else : (c : Config) → OrElse (check_tests c) (recorded c) (check_of c)
unfolding check_of
check_else c =
    else_past 28 (not (named_of c)) (λ e.
    let n = named_given c (not-false (named_of c) e) in
    else_bind (system c n) (λ sys e. below c sys e n))

pub check_in_order : (c : Config) → bare (check_of c) ≡ first_of (check_tests c)
check_in_order c = (else_order (check_else c)).goes
