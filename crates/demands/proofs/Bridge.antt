-- An accepted configuration's codes, laid into any fields in width, decode to the clocks that the check promised.
-- Assumes nothing.
use Rattle.std.specs.Prelude.{Option, None, Some}
use mathlib.Core.Path.{◌≡◌, ◌∙◌, refl, sym, ap, subst}
use mathlib.Core.Bool.{Bool, true, false, not, ◌&&◌, ◌||◌}
use Prim.Native.Nat.{ℕ, ◌+◌}
use native.Mathlib.Omega.{arith}
use borrow.Author.Tests.{eq-eqb, eqb-true, eqb-false, leb-true, not-false}
use lib.Dec.{eqb, leb}
use Rattle.answer.specs.Answer.{gives, refuses, refuse, ◌>>=◌, ◌>>◌, bound, followed, passed, refuses_gives, same_given}
use Rattle.answer.specs.Tools.{false_true, cases, and_other, neither}
use Rattle.divider.specs.declared.Frequency.{Frequency}
use Rattle.divider.specs.Frequency.{whole, over}
use Rattle.image.specs.declared.Fields.{Fields}
use Rattle.v4x7_rules.specs.Rules.{main_pll_of, eth_pll_of, sys_pll_of, buses_of}
use Rattle.v4x7.specs.declared.Config.{Config}
use Rattle.v4x7.specs.declared.ClockRecord.{ClockRecord}
use Rattle.tree.specs.Tree.{hse_frequency_of}
use Rattle.v4x7.specs.Check.{check_of, named_of, named_hs_pll, has_usb_hs, hse_present_of, rng_of, main_of, eth_of, reference_of, usb_hs_of, sources_of}
use Rattle.v4x7.specs.Check as check
use Rattle.v4x7.specs.Laws.{Named, named_given}
use Rattle.decoder.specs.Decode.{usb_hs_reference_of, usb_hs_pll_of, sys_pll_input_of, in_use_of, decode_of}
use Rattle.demands.specs.Laid.{PllLaid, HsPllLaid, Laid}

-- what SYSPLL takes in is the main PLL's affair at source 6 alone
ignores : (source : ℕ) (main : Option Frequency) → eqb source 6 ≡ false → sys_pll_of source main ≡ sys_pll_of source None
unfolding sys_pll_of
ignores source main e = simp e

-- and no other source gives anything
no_source : (source : ℕ) (main : Option Frequency) {P : Type 0} {x : Frequency} → (eqb source 0 || eqb source 2) ≡ false →
    (eqb source 1 || eqb source 3) ≡ false → eqb source 6 ≡ false → sys_pll_of source main ≡ gives x → P
unfolding sys_pll_of
no_source source main {P} {x} even odd six q =
    let n = neither (eqb source 0) (eqb source 2) even in
    let m = neither (eqb source 1) (eqb source 3) odd in
    let left : ◌>>◌ {B = Frequency} (refuse 28 (leb 8 source)) (refuses 19) ≡ gives x = simp (n.0, n.1, m.0, m.1, six) at q in
    refuses_gives (passed 28 (leb 8 source) (refuses 19) left).after

-- the decoder sees the reference that the check saw
reference : (h : Option ℕ) (eth : Bool) (s : ℕ) {x : Frequency} → eth_of h eth ≡ gives tt → leb s 2 ≡ true →
    reference_of h eth s ≡ gives x → usb_hs_reference_of s h ≡ gives x
unfolding usb_hs_reference_of reference_of eth_of
reference h eth s {x} runs named q =
    cases (eqb s 0)
    (λ e. simp e (simp e at q))
    (λ e.
    let p = passed 7 (eqb s 2 && not eth) (gives (whole 20000000)) (simp e at q) in
    cases (eqb s 1)
    (λ k. simp (e, k) p.after)
    (λ k. cases (eqb s 2)
    (λ l.
    let on = not-false eth (and_other (eqb s 2) (not eth) p.failed l) in
    let eth-runs : eth_pll_of h ≡ gives tt = simp on at runs in
    simp (e, k, l, eth-runs) p.after)
    (λ l. absurd (omega (arith, leb-true s 2 named, eqb-false s 0 e, eqb-false s 1 k, eqb-false s 2 l)))))

-- the decoder finds the USBHS PLL running where it is configured
usbhs : (c : Config) (f : Fields) (p : Option ℕ) → eth_of (hse_frequency_of c.hse) c.ethpll ≡ gives tt →
    usb_hs_of (hse_frequency_of c.hse) c.ethpll p ≡ gives tt → named_hs_pll p ≡ true → HsPllLaid c p f → has_usb_hs p ≡ true →
    usb_hs_pll_of f.cfgr2.usbhspllsrc f.cfgr2.usbhspllclk (hse_frequency_of c.hse) ≡ gives tt
unfolding usb_hs_pll_of usb_hs_of
usbhs c f None eth q named laid there = false_true there
usbhs c f (Some s) eth q named laid there =
    let r = bound (reference_of (hse_frequency_of c.hse) c.ethpll s) _ q in
    let seen = reference (hse_frequency_of c.hse) c.ethpll s eth named r.gave in
    let code = laid.1 r.value r.gave in
    simp (laid.0, seen, code, eq-eqb f.cfgr2.usbhspllclk f.cfgr2.usbhspllclk refl)

-- the main PLL decodes to what the check made of it, where SYSPLL takes it in
main_pll_lem : (h : Option ℕ) (source : ℕ) (p : Option ℕ) (f : Fields) {main : Option Frequency} {x : Frequency} → main_of h source p ≡ gives main →
    PllLaid p source f → sys_pll_of 6 main ≡ gives x →
    (◌>>=◌ (main_pll_of h f.cfgr0.pllsrc f.cfgr0.pllmul) (λ m. sys_pll_of 6 (Some m))) ≡ gives x
unfolding main_of sys_pll_of
main_pll_lem h source None f {main} {x} q laid r =
    let none : sys_pll_of 6 None ≡ gives x = subst (λ (o : Option Frequency). sys_pll_of 6 o ≡ gives x) (sym (same_given q)) r in
    refuses_gives none
main_pll_lem h source (Some m) f {main} {x} q laid r =
    let b = bound (main_pll_of h (eqb source 1) m) _ q in
    rw (laid.0, laid.1, b.gave) (subst (λ (o : Option Frequency). sys_pll_of 6 o ≡ gives x) (sym (same_given b.after)) r)

-- what the check's sources tell, of the parts that may feed SYSCLK
pub record Sourced (c : Config) (main : Option Frequency) : Type 0 where
  pub main_gave : main_of (hse_frequency_of c.hse) c.pll_src c.pll ≡ gives main
  pub eth_gave : eth_of (hse_frequency_of c.hse) c.ethpll ≡ gives tt
  pub usbhs_gave : usb_hs_of (hse_frequency_of c.hse) c.ethpll c.hspll ≡ gives tt

pub sourced : (c : Config) {main : Option Frequency} → sources_of c ≡ gives main → Sourced c main
unfolding sources_of
sourced c q =
    let h = hse_frequency_of c.hse in
    let rng = followed (rng_of c.rng_src c.hspll c.ethpll) _ q in
    let hse = followed (hse_present_of h) _ rng.after in
    let main = bound (main_of h c.pll_src c.pll) _ hse.after in
    let eth = followed (eth_of h c.ethpll) _ main.after in
    let usbhs = followed (usb_hs_of h c.ethpll c.hspll) _ eth.after in
    record { main_gave = main.gave ∙ usbhs.after; eth_gave = eth.gave; usbhs_gave = usbhs.gave }

-- what SYSPLL takes in: a PLL that the check found configured, and the decoder finds running
input : (c : Config) (f : Fields) {main : Option Frequency} {x : Frequency} → Laid c f → Sourced c main → named_hs_pll c.hspll ≡ true →
    check.sys_pll_input_of main c.hspll c.ethpll c.syspll_src ≡ gives x →
    sys_pll_input_of f.cfgr2 f.cfgr0.pllsrc f.cfgr0.pllmul (hse_frequency_of c.hse) ≡ gives x
unfolding check.sys_pll_input_of sys_pll_input_of eth_of
input c f {main} {x} laid s named q =
    let source : ℕ = c.syspll_src in
    let from_usbhs : Bool = eqb source 0 || eqb source 2 in
    let from-eth : Bool = eqb source 1 || eqb source 3 in
    let ten = passed 10 (from_usbhs && not (has_usb_hs c.hspll)) _ q in
    let eleven = passed 11 (from-eth && not c.ethpll) _ ten.after in
    cases (eqb source 6)
    (λ six.
    let is : source ≡ 6 = eqb-true source 6 six in
    rw (laid.syspllsrc, is) (main_pll_lem (hse_frequency_of c.hse) c.pll_src c.pll f s.main_gave laid.main (rw is at eleven.after)))
    (λ six.
    let any = ignores source main six in
    cases from_usbhs
    (λ e.
    let there = not-false (has_usb_hs c.hspll) (and_other from_usbhs (not (has_usb_hs c.hspll)) ten.failed e) in
    let runs = usbhs c f c.hspll s.eth_gave s.usbhs_gave named laid.usbhs there in
    simp (laid.syspllsrc, e, runs) (sym any ∙ eleven.after))
    (λ e. cases from-eth
    (λ k.
    let on = not-false c.ethpll (and_other from-eth (not c.ethpll) eleven.failed k) in
    let runs : eth_pll_of (hse_frequency_of c.hse) ≡ gives tt = simp on at s.eth_gave in
    simp (laid.syspllsrc, e, k, runs) (sym any ∙ eleven.after))
    (λ k. no_source source main e k six eleven.after)))

-- SYSCLK
system : (c : Config) (f : Fields) {main : Option Frequency} {sys : Frequency} → Laid c f → Sourced c main → Named c → check.sysclk_of main c ≡ gives sys →
    in_use_of f (hse_frequency_of c.hse) ≡ gives sys
unfolding check.sysclk_of in_use_of
system c f {main} {sys} laid s named q =
    cases (eqb c.sys 0)
    (λ e. simp (laid.sws, e) (simp e at q))
    (λ e. cases (eqb c.sys 1)
    (λ k. simp (laid.sws, e, k) (simp (e, k) at q))
    (λ k. cases (eqb c.sys 2)
    (λ l.
    let fed = check.sys_pll_input_of main c.hspll c.ethpll c.syspll_src in
    let b = bound fed (λ x. gives (over x (c.syspll_pre + 1))) (simp (e, k) at q) in
    simp (laid.sws, e, k, l, input c f laid s named.hspll b.gave, laid.sysplldiv) b.after)
    (λ l. absurd (omega (arith, named.sys, eqb-false c.sys 0 e, eqb-false c.sys 1 k, eqb-false c.sys 2 l)))))

-- what an accepted check tells, step by step
pub record Checked (c : Config) (x : ClockRecord) : Type 0 where
  pub named : named_of c ≡ true
  pub main : Option Frequency
  pub sources : sources_of c ≡ gives main
  pub sys : Frequency
  pub sysclk : check.sysclk_of main c ≡ gives sys
  pub buses : buses_of sys c.ahb_pre c.apb1_pre c.apb2_pre ≡ gives x.clocks

pub checked : (c : Config) {x : ClockRecord} → check_of c ≡ gives x → Checked c x
unfolding check_of check.system_of
checked c {x} q =
    let names = passed 28 (not (named_of c)) _ q in
    let system = bound (check.system_of c) _ names.after in
    let sources = bound (sources_of c) _ system.gave in
    let buses = bound (buses_of system.value c.ahb_pre c.apb1_pre c.apb2_pre) _ system.after in
    let adc = bound (check.adc_of system.value.hz c) _ buses.after in
    record {
      named = not-false (named_of c) names.failed;
      main = sources.value;
      sources = sources.gave;
      sys = system.value;
      sysclk = sources.after;
      buses = buses.gave ∙ ap (λ (y : ClockRecord). gives y.clocks) (same_given adc.after);
    }

pub laid_decodes : (c : Config) (f : Fields) {x : ClockRecord} → check_of c ≡ gives x → Laid c f → decode_of f (hse_frequency_of c.hse) ≡ gives x.clocks
unfolding decode_of
laid_decodes c f q laid =
    let k = checked c q in
    let runs = system c f laid (sourced c k.sources) (named_given c k.named) k.sysclk in
    simp (laid.width, runs, laid.hpre, laid.ppre1, laid.ppre2) k.buses
