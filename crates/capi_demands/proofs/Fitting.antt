-- A call that leaves no place as it was leaves fields that are in width, and so can be stored.
-- Assumes nothing.
use Rattle.std.specs.Prelude.{Option, None, Some}
use mathlib.Core.Path.{◌≡◌, refl, sym, ap, ◌∙◌}
use mathlib.Core.Bool.{Bool, true, false, cond, not, ◌||◌}
use borrow.Author.Tests.{not-false}
use Rattle.answer.specs.Answer.{Answer, gives, refuses}
use Rattle.answer.specs.Tools.{true_false, neither}
use Rattle.v4x7.specs.declared.ClockRecord.{ClockRecord}
use Rattle.v4x7.specs.Check.{named_of, check_of}
use Rattle.image.specs.Image.{in_width}
use Rattle.image.specs.Width.{wide, in_width_lem}
use Rattle.startup.specs.declared.Report.{Report}
use Rattle.startup.specs.declared.Reading.{Reading}
use Rattle.startup.specs.declared.Startup.{Startup}
use Rattle.startup.specs.declared.Stepped.{Stepped}
use Rattle.startup.specs.Call.{handed_back, step_by, step_of}
use Rattle.place.specs.Place.{leaves_as_it_was}
use Rattle.demands.proofs.Third.{Sound, same_step, stays_sound}

module _ (s : Startup) (r : Reading) where
  abbrev Fits : Stepped → Type 0
  Fits x = leaves_as_it_was x.report ≡ false → in_width x.startup.fields ≡ true

  accepted : {x : ClockRecord} → check_of s.config ≡ gives x → in_width s.fields ≡ true → in_width (step_of s r).startup.fields ≡ true
  accepted q w =
      let so : Sound s.config q s = (refl, wide s.fields w) in
      ap (λ (x : Stepped). in_width x.startup.fields) (same_step s.config q s r so)
      ∙ in_width_lem _ (stays_sound s.config q s r so).1

  by_phase : (p : Option Report) (check : Answer ClockRecord) → check_of s.config ≡ check → in_width s.fields ≡ true → step_of s r ≡ step_by check s r p →
      Fits (step_of s r)
  by_phase p (gives x) q w e h = accepted q w
  by_phase (Some last) (refuses n) q w e h = ap (λ (x : Stepped). in_width x.startup.fields) e ∙ w
  by_phase None (refuses n) q w e h = true_false (sym (ap (λ (x : Stepped). leaves_as_it_was x.report) e) ∙ h)

  by_code : (bad : Bool) → (not (named_of s.config) || not (in_width s.fields)) ≡ bad →
      step_of s r ≡ cond bad (handed_back s) (step_by (check_of s.config) s r s.over) → Fits (step_of s r)
  by_code true t e h = true_false (sym (ap (λ (x : Stepped). leaves_as_it_was x.report) e) ∙ h)
  by_code false t e h =
      let w = (neither (not (named_of s.config)) (not (in_width s.fields)) t).1 in
      by_phase s.over (check_of s.config) refl (not-false (in_width s.fields) w) e h

  pub call_fits : Fits (step_of s r)
  unfolding step_of
  call_fits = by_code (not (named_of s.config) || not (in_width s.fields)) refl refl
