-- Laws of CH32V30x: decoding the written fields gives the check's clocks.
-- Assumes nothing.
use Rattle.std.specs.Prelude.{◌≡◌, refl, Bool, true, false, cond, ◌&&◌, ◌||◌, Option, None, Some, ℕ, zero, suc, eqb, leb}
use Rattle.std.proofs.Common.{subst, arith, eqb-true, leb-false}
use Rattle.answer.specs.Answer.{gives, bound, followed, passed, refuses_gives}
use Rattle.answer.specs.Tools.{neither}
use Rattle.divider.specs.declared.Frequency.{Frequency}
use Rattle.pll32.specs.declared.Part.TheVariants as part
use Rattle.pll32.specs.declared.Source.{Source}
use Rattle.pll32.specs.declared.Source.TheVariants as from
use Rattle.pll32.specs.declared.ClockRecord.{ClockRecord}
use Rattle.tree.specs.Tree.{hse_frequency_of}
use Rattle.pll32.specs.Pll.{prediv_code_in, too_wide, wide_setting, pll_output_of, pll_as_sysclk_of, configured_clocks_of}
use Rattle.pll32.specs.Laws.{Reads, reads_absent, reads_hz, read_back, pll_chosen}
use Rattle.v30x.specs.declared.PllSource.{PllSource}
use Rattle.v30x.specs.declared.PllSource.TheVariants as source
use Rattle.v30x.specs.declared.Pll.{Pll}
use Rattle.v30x.specs.declared.Config.{Config}
use Rattle.v30x.specs.declared.Fields.{Fields}
use Rattle.v30x.specs.V30x.{wide_pll, wide_hs_pll, wide_config, from_hsi, setting_of, pll_from_oscillator_of, configured_pll_of, usbhs_of, sources_of, check_of, setting_in, decode_of, pll_fields, written_of, wide_fields, fields_of}

-- Decoding the fields that starting a configuration leaves.

-- what starting the PLL leaves in g serves a decoder that is to give what the check has as its output
record Serves (hse : Option ℕ) (out : Option Frequency) (g : Fields) : Type 0 where
  reads : Reads part.V30x hse out (setting_in g)
  narrow : wide_setting g.prediv1 g.pllmul ≡ false
  not_pll2 : (x : Frequency) → pll_as_sysclk_of out ≡ gives x → (g.pllsrc && g.prediv1src) ≡ false

-- HSI's bit holds a predivider of 1 or 2
hsi_bit : (prediv : ℕ) → leb 2 prediv ≡ false → cond (eqb prediv 0) 0 1 ≡ prediv
hsi_bit zero e = refl
hsi_bit (suc zero) e = refl
hsi_bit (suc (suc n)) e = absurd (omega (arith, leb-false 2 (suc (suc n)) e))

-- and the fields hold a predivider of four bits
narrow_code : (pllsrc : Bool) (prediv1 : ℕ) (hsipre : Bool) → leb 16 prediv1 ≡ false → leb 16 (prediv_code_in pllsrc prediv1 hsipre) ≡ false
narrow_code true prediv1 hsipre h = h
narrow_code false prediv1 true h = refl
narrow_code false prediv1 false h = refl

-- a PLL that is fed: its predivider, and what a decoder of the same setting reads
record Fed (hse : Option ℕ) (s : Source) (prediv mul : ℕ) (out : Option Frequency) : Type 0 where
  allowed : (from_hsi s && leb 2 prediv) ≡ false
  reads : Reads part.V30x hse out (setting_of s prediv mul)

fed : (hse : Option ℕ) (s : Source) (prediv mul : ℕ) {out : Option Frequency} → pll_from_oscillator_of hse s prediv mul ≡ gives out →
    Fed hse s prediv mul out
unfolding pll_from_oscillator_of
fed hse s prediv mul {out} e =
    let made = bound (pll_output_of part.V30x hse (setting_of s prediv mul)) _ e in
    let by = passed 25 (from_hsi s && leb 2 prediv) _ made.after in
    let some : ◌≡◌ {A = Option Frequency} (Some made.value) out = cc by.after in
    record {
      allowed = by.failed;
      reads =
          subst (λ (o : Option Frequency). Reads part.V30x hse o (setting_of s prediv mul)) some
          (reads_hz part.V30x hse (setting_of s prediv mul) made.gave);
    }

serves : (hse : Option ℕ) (from : PllSource) (p : Option Pll) (f : Fields) {out : Option Frequency} → leb 16 f.prediv1 ≡ false →
    leb 16 f.pllmul ≡ false → wide_pll p ≡ false → configured_pll_of hse from p ≡ gives out →
    Serves hse out (pll_fields from p f)
unfolding configured_pll_of setting_in pll_fields
serves hse from None f {out} narrow fits codes e =
    let none : ◌≡◌ {A = Option Frequency} None out = cc in
    subst (λ (o : Option Frequency). Serves hse o f) none
    (record {
      reads = reads_absent part.V30x hse (setting_in f) (rw (narrow_code f.pllsrc f.prediv1 f.hsipre narrow) fits);
      narrow = rw narrow fits;
      not_pll2 = λ x q. refuses_gives q;
    })
serves hse source.Hsi (Some p) f {out} narrow fits codes e =
    let by = fed hse from.Hsi p.prediv p.mul e in
    record {
      reads = rw (hsi_bit p.prediv by.allowed) by.reads;
      narrow = rw narrow (neither (leb 16 p.prediv) (leb 16 p.mul) codes).1;
      not_pll2 = λ x q. refl;
    }
serves hse source.Hse (Some p) f {out} narrow fits codes e =
    record {
      reads = (fed hse from.Hse p.prediv p.mul e).reads;
      narrow = codes;
      not_pll2 = λ x q. refl;
    }
serves hse source.Pll2 (Some p) f narrow fits codes e =
    refuses_gives e

-- what a configuration that the check accepts has passed
record Takes (c : Config) (x : ClockRecord) : Type 0 where
  out : Option Frequency
  main : configured_pll_of (hse_frequency_of c.hse) c.pll_src c.pll ≡ gives out
  narrow : wide_pll c.pll ≡ false
  codes : too_wide c.sys c.ahb_pre c.apb1_pre c.apb2_pre ≡ false
  ends : configured_clocks_of part.V30x (hse_frequency_of c.hse) out c.sys c.ahb_pre c.apb1_pre c.apb2_pre ≡ gives x

takes : (c : Config) {x : ClockRecord} → check_of c ≡ gives x → Takes c x
unfolding check_of sources_of wide_config
takes c e =
    let wide = passed 28 (wide_config c) _ e in
    let plls = wide_pll c.pll || wide_hs_pll c.hspll in
    let codes = neither plls (too_wide c.sys c.ahb_pre c.apb1_pre c.apb2_pre) wide.failed in
    let sources = bound (sources_of (hse_frequency_of c.hse) c) _ wide.after in
    let pllx = passed 27 c.pllx _ sources.gave in
    let main = bound (configured_pll_of (hse_frequency_of c.hse) c.pll_src c.pll) _ pllx.after in
    let same : main.value ≡ sources.value = cc (followed (usbhs_of (hse_frequency_of c.hse) c.hspll_src c.hspll) _ main.after).after in
    record {
      out = sources.value;
      main = rw (← same) main.gave;
      narrow = (neither (wide_pll c.pll) (wide_hs_pll c.hspll) codes.0).0;
      codes = codes.1;
      ends = sources.after;
    }

unless : (a b d : Bool) → (a ≡ true → (b && d) ≡ false) → (a && b && d) ≡ false
unless true b d h = h refl
unless false b d h = refl

decodes : (c : Config) (f : Fields) {x : ClockRecord} → leb 16 f.prediv1 ≡ false → leb 16 f.pllmul ≡ false →
    check_of c ≡ gives x → decode_of (written_of c f) (hse_frequency_of c.hse) ≡ gives x.clocks
unfolding decode_of written_of wide_fields setting_in
decodes c f narrow fits e =
    let t = takes c e in
    let g : Fields = pll_fields c.pll_src c.pll f in
    let by = serves (hse_frequency_of c.hse) c.pll_src c.pll f narrow fits t.narrow t.main in
    let not-27 = unless (eqb c.sys 2) g.pllsrc g.prediv1src (λ two.
    let chosen = pll_chosen part.V30x (hse_frequency_of c.hse) t.out c.sys c.ahb_pre c.apb1_pre c.apb2_pre t.ends (eqb-true c.sys 2 two) in
    by.not_pll2 chosen.value chosen.given) in
    rw (by.narrow, t.codes, not-27)
    (read_back part.V30x (hse_frequency_of c.hse) t.out (setting_in g) c.sys c.ahb_pre c.apb1_pre c.apb2_pre
    by.reads t.ends)

-- decoding the written fields, with the same HSE, gives the clocks that the check promised
pub fields_decode : (c : Config) (f : Fields) {g : Fields} {x : ClockRecord} → fields_of c f ≡ gives g →
    check_of c ≡ gives x → decode_of g (hse_frequency_of c.hse) ≡ gives x.clocks
unfolding fields_of wide_fields
fields_decode c f {g} {x} e q =
    let wide = passed 28 (wide_fields f) _ e in
    let checked = bound (check_of c) _ wide.after in
    let left : written_of c f ≡ g = cc checked.after in
    let codes = neither (wide_setting f.prediv1 f.pllmul) (too_wide f.sws f.hpre f.ppre1 f.ppre2) wide.failed in
    let both = neither (leb 16 f.prediv1) (leb 16 f.pllmul) codes.0 in
    subst (λ (g : Fields). decode_of g (hse_frequency_of c.hse) ≡ gives x.clocks) left (decodes c f both.0 both.1 q)
