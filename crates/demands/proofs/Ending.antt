-- An accepted configuration's steps leave fields that hold what it asks for, so that they decode to the promised clocks.
-- Assumes nothing.
use Rattle.std.specs.Prelude.{Option, None, Some}
use Prim.Native.Nat.{ℕ, ◌+◌}
use mathlib.Core.Path.{◌≡◌, refl, sym, ap, ◌∙◌}
use mathlib.Core.Bool.{Bool, true, false, cond, not, ◌&&◌}
use mathlib.Core.List.{List}
use borrow.Author.Tests.{eq-eqb, eqb-true}
use lib.Dec.{eqb}
use lib.ListN.{take}
use Rattle.answer.specs.Answer.{Answer, gives, refuse, ◌>>◌, bound, followed, passed, refuses_gives, same_given}
use Rattle.divider.specs.declared.Frequency.{Frequency}
use Rattle.divider.specs.Frequency.{whole}
use Rattle.tree.specs.declared.Clocks.{Clocks}
use Rattle.v4x7_rules.specs.Rules.{hse_in_range, used_hse_of, reference_code_of}
use Rattle.tree.specs.declared.Hse.{Hse}
use Rattle.v4x7.specs.declared.AdcClockSource.{AdcClockSource}
use Rattle.v4x7.specs.declared.AdcClockSource.TheVariants as adc
use Rattle.v4x7.specs.declared.Config.{Config}
use Rattle.v4x7.specs.declared.ClockRecord.{ClockRecord}
use Rattle.tree.specs.Tree.{hse_frequency_of}
use Rattle.v4x7.specs.Check.{check_of, has_hse, has_usb_hs, has_main, reference_of, usb_hs_of}
use Rattle.image.specs.declared.Fields.{Fields}
use Rattle.decoder.specs.Decode.{decode_of}
use Rattle.demands.specs.Laid.{PllLaid, HsPllLaid, Laid}
use Rattle.demands.proofs.Bridge.{laid_decodes}
use Rattle.startup.specs.Writes.{with_seen, switch, gate, all_off, bypass, hse_on, eth_on, usb_hs_source}
use Rattle.startup.specs.Writes.{usb_hs_on, main_source, main_on, from_usb_hs, adc_divisor, hse_hz, reference, or_zero, code_of}
use Rattle.startup.specs.Steps.{Entry, steps, same_clocks, is_clocks, agrees_of}
use Rattle.startup.specs.declared.Reading.{Reading}
use Rattle.startup.specs.Call.{seen_of, mask_of}
use Rattle.demands.specs.Runs.{written}
use Rattle.demands.specs.Third.{enable_bits}
use Rattle.demands.proofs.Walk.{Always}
use Rattle.demands.proofs.Fair.{Tame}
use Rattle.demands.proofs.Held.{always, tame_take, written_kept}
use Rattle.demands.proofs.Accepted.{Accepted, accepted_tells}
use Rattle.image.specs.Width.{Wide, in_width_lem}
use Rattle.demands.proofs.Width.{see, tame}

-- Steps 8 and 9, 11, 13 and 14, 16 and 17, taken or skipped.
abbrev hse_out : Option Hse → Fields → Fields
hse_out h f =
    let on = has_hse h in
    let g = cond on (bypass h f) f in
    cond on (hse_on g) g

abbrev usb_hs_out : Option Hse → Option ℕ → Fields → Fields
usb_hs_out h p f =
    let on = has_usb_hs p in
    let g = cond on (usb_hs_source h p f) f in
    cond on (usb_hs_on g) g

abbrev main_out : ℕ → Option ℕ → Fields → Fields
main_out source p f =
    let on = has_main p in
    let g = cond on (main_source source p f) f in
    cond on (main_on g) g

-- The bits of the USBHS PLL and of the main PLL, in fields that have them clear.
pll_bits : (h : Option Hse) (u : Option ℕ) (source : ℕ) (p : Option ℕ) (f : Fields) → f.ctlr.usbhs_pllon ≡ false → f.ctlr.pllon ≡ false →
    enable_bits (main_out source p (usb_hs_out h u f)).ctlr ≡
    cond f.ctlr.hseon 8 0 + cond f.ctlr.eth_pllon 4 0 + cond (has_usb_hs u) 2 0 + cond (has_main p) 1 0
pll_bits h None source None f a b = rw (a, b)
pll_bits h None source (Some m) f a b = rw a
pll_bits h (Some s) source None f a b = rw b
pll_bits h (Some s) source (Some m) f a b = refl

-- The parts that these turn on, after step 6, are those of the enable bits.
turned_on_lem : (h : Option Hse) (eth : Bool) (u : Option ℕ) (source : ℕ) (p : Option ℕ) (f : Fields) →
    let g = hse_out h (all_off f) in
    enable_bits (main_out source p (usb_hs_out h u (cond eth (eth_on g) g))).ctlr ≡
    cond (has_hse h) 8 0 + cond eth 4 0 + cond (has_usb_hs u) 2 0 + cond (has_main p) 1 0
turned_on_lem None false u source p f = pll_bits None u source p (all_off f) refl refl
turned_on_lem None true u source p f = pll_bits None u source p (eth_on (all_off f)) refl refl
turned_on_lem (Some hse) false u source p f = pll_bits (Some hse) u source p (hse_out (Some hse) (all_off f)) refl refl
turned_on_lem (Some hse) true u source p f = pll_bits (Some hse) u source p (eth_on (hse_out (Some hse) (all_off f))) refl refl

-- The main PLL's fields, where it is configured, are as step 16 wrote them; step 16 keeps CFGR2.
main_laid : (source : ℕ) (p : Option ℕ) (f g : Fields) → g.cfgr0.pllsrc ≡ (main_out source p f).cfgr0.pllsrc →
    g.cfgr0.pllmul ≡ (main_out source p f).cfgr0.pllmul → PllLaid p source g
main_laid source None f g a b = tt
main_laid source (Some m) f g a b = (a, b)

main_keeps : (source : ℕ) (p : Option ℕ) (f : Fields) → (main_out source p f).cfgr2 ≡ f.cfgr2
main_keeps source None f = refl
main_keeps source (Some m) f = refl

-- The reference that the check found is the one that step 13 has the code of.
used_hz : (h : Option Hse) {x : Frequency} → used_hse_of (hse_frequency_of h) ≡ gives x → hse_hz h ≡ x.hz
unfolding used_hse_of
used_hz None q = refuses_gives q
used_hz (Some hse) q = ap (λ (x : Frequency). x.hz) (same_given (followed (hse_in_range hse.freq) (gives (whole hse.freq)) q).after)

reference_is : (h : Option Hse) (eth : Bool) (s : ℕ) {x : Frequency} → reference_of (hse_frequency_of h) eth s ≡ gives x → reference h s ≡ x.hz
unfolding reference_of
reference_is h eth s {x} q = at (eqb s 0) q
  where
    at : (b : Bool) → cond b (used_hse_of (hse_frequency_of h)) (◌>>◌ (refuse 7 (eqb s 2 && not eth)) (gives (whole 20000000))) ≡ gives x →
        cond b (hse_hz h) 20000000 ≡ x.hz
    at true e = used_hz h e
    at false e = ap (λ (x : Frequency). x.hz) (same_given (passed 7 (eqb s 2 && not eth) (gives (whole 20000000)) e).after)

usbhs_laid : (c : Config) (p : Option ℕ) (f g : Fields) → g.cfgr2.usbhspllsrc ≡ (usb_hs_out c.hse p f).cfgr2.usbhspllsrc →
    g.cfgr2.usbhspllclk ≡ (usb_hs_out c.hse p f).cfgr2.usbhspllclk → usb_hs_of (hse_frequency_of c.hse) c.ethpll p ≡ gives tt → HsPllLaid c p g
unfolding usb_hs_of
usbhs_laid c None f g a b q = tt
usbhs_laid c (Some s) f g a b q =
    let r = bound (reference_of (hse_frequency_of c.hse) c.ethpll s) _ q in
    let k = followed (reference_code_of r.value.hz) _ r.after in
    let found = reference_is c.hse c.ethpll s r.gave in
    let code : code_of c.hse s ≡ k.value = ap (λ (hz : ℕ). or_zero (reference_code_of hz)) found ∙ ap or_zero k.gave in (
      a,
      λ x e.
          let is : x.hz ≡ r.value.hz = sym (reference_is c.hse c.ethpll s e) ∙ found in
          ap reference_code_of is ∙ k.gave ∙ ap gives (sym (b ∙ code)),
    )

-- What steps 24 and 25 keep, taken or skipped.
cond_keeps : {A : Type 0} (F : Fields → A) (w : Fields → Fields) → ((f : Fields) → F (w f) ≡ F f) → (b : Bool) (f : Fields) → F (cond b (w f) f) ≡ F f
cond_keeps F w h true f = h f
cond_keeps F w h false f = refl

adc_keeps : {A : Type 0} (F : Fields → A) → ((f : Fields) (n : ℕ) → F (adc_divisor (adc.UsbHsPll n) f) ≡ F f) →
    (a : AdcClockSource) (f : Fields) → F (adc_divisor a f) ≡ F f
adc_keeps F h adc.Hclk f = refl
adc_keeps F h (adc.UsbHsPll d) f = h f d

module _ (c : Config) {x : ClockRecord} (q : check_of c ≡ gives x) (earlier : Fields) (width : Wide earlier) where
  abbrev ok : Accepted c
  ok = accepted_tells c q

  abbrev front : List Entry
  front = take 26 (steps c x.clocks)

  abbrev tamed : Tame Wide front
  tamed = tame_take Wide 26 (steps c x.clocks) (tame c ok x.clocks)

  abbrev last : Fields
  last = written front earlier

  -- before step 24
  abbrev mid : Fields
  mid = written (take 23 (steps c x.clocks)) earlier

  keeps : {A : Type 0} (F : Fields → A) → ((f : Fields) → F (switch c.sys f) ≡ F f) → ((f : Fields) → F (gate true f) ≡ F f) →
      ((f : Fields) (n : ℕ) → F (adc_divisor (adc.UsbHsPll n) f) ≡ F f) → F last ≡ F mid
  keeps F s g d =
      let on = eqb c.sys 2 in
      let with-adc = cond (from_usb_hs c.adc_src) (adc_divisor c.adc_src mid) mid in
      s (cond on (gate true with-adc) with-adc) ∙ cond_keeps F (gate true) g on with-adc ∙
      cond_keeps F (adc_divisor c.adc_src) (adc_keeps F d c.adc_src) (from_usb_hs c.adc_src) mid

  pub enables : enable_bits (written (steps c x.clocks) earlier).ctlr ≡ mask_of c
  enables =
      ap enable_bits (keeps (λ f. f.ctlr) (λ f. refl) (λ f. refl) (λ f n. refl)) ∙
      turned_on_lem c.hse c.ethpll c.hspll c.pll_src c.pll (written (take 5 (steps c x.clocks)) earlier)

  laid : (r : Reading) → eqb (seen_of r).sws c.sys ≡ true → Laid c (with_seen last (seen_of r))
  laid r e =
      let before = written (take 15 (steps c x.clocks)) earlier in
      let twelve = written (take 12 (steps c x.clocks)) earlier in
      let two = main_keeps c.pll_src c.pll before in
      record {
        width = in_width_lem (with_seen last (seen_of r)) (see last r (written_kept Wide front tamed earlier width));
        sws = eqb-true (seen_of r).sws c.sys e;
        hpre = keeps (λ f. f.cfgr0.hpre) (λ f. refl) (λ f. refl) (λ f n. refl);
        ppre1 = keeps (λ f. f.cfgr0.ppre1) (λ f. refl) (λ f. refl) (λ f n. refl);
        ppre2 = keeps (λ f. f.cfgr0.ppre2) (λ f. refl) (λ f. refl) (λ f n. refl);
        syspllsrc = keeps (λ f. f.cfgr2.syspllsrc) (λ f. refl) (λ f. refl) (λ f n. refl);
        sysplldiv = keeps (λ f. f.cfgr2.sysplldiv) (λ f. refl) (λ f. refl) (λ f n. refl);
        main =
            main_laid c.pll_src c.pll before (with_seen last (seen_of r))
            (keeps (λ f. f.cfgr0.pllsrc) (λ f. refl) (λ f. refl) (λ f n. refl))
            (keeps (λ f. f.cfgr0.pllmul) (λ f. refl) (λ f. refl) (λ f n. refl));
        usbhs =
            usbhs_laid c c.hspll twelve (with_seen last (seen_of r))
            (keeps (λ f. f.cfgr2.usbhspllsrc) (λ f. refl) (λ f. refl) (λ f n. refl) ∙ ap (λ r. r.usbhspllsrc) two)
            (keeps (λ f. f.cfgr2.usbhspllclk) (λ f. refl) (λ f. refl) (λ f n. refl) ∙ ap (λ r. r.usbhspllclk) two) ok.usbhs;
      }

  eqb_self : (n : ℕ) → eqb n n ≡ true
  eqb_self n = eq-eqb n n refl

  same_self : (k : Clocks) → same_clocks k k ≡ true
  same_self k = simp eqb_self

  -- What holds at step 28.
  abbrev pub Ends : ℕ → Fields → Type 0
  Ends k f = (k ≡ 28) × (f ≡ with_seen (written (steps c x.clocks) earlier) f.seen) × (decode_of f (hse_frequency_of c.hse) ≡ gives x.clocks)

  decodes : (r : Reading) → eqb (seen_of r).sws c.sys ≡ true → decode_of (with_seen last (seen_of r)) (hse_frequency_of c.hse) ≡ gives x.clocks
  decodes r e = laid_decodes c (with_seen last (seen_of r)) q (laid r e)

  agrees : (r : Reading) → eqb (seen_of r).sws c.sys ≡ true → agrees_of c x.clocks (with_seen last (seen_of r)) ≡ true
  unfolding agrees_of
  agrees r e = ap (λ (a : Answer Clocks). is_clocks a x.clocks) (decodes r e) ∙ same_self x.clocks

  pub ending : Always Ends 1 (steps c x.clocks) earlier
  ending =
      always Wide Ends (λ s. eqb s.sws c.sys) (agrees_of c x.clocks) front tamed tt 1 earlier
      (λ r e. (agrees r e, (refl, refl, decodes r e)))
