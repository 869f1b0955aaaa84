-- The number that a call of a startup answers is the first of its list of tests.
-- Assumes nothing.
use Rattle.std.specs.Prelude.{Option, None, Some}
use Prim.Native.Nat.{ℕ}
use mathlib.Core.Path.{◌≡◌, refl, sym, ap, ◌∙◌, subst}
use mathlib.Core.Logic.{inl, inr}
use mathlib.Core.Bool.{Bool, true, false, cond, not, ◌||◌}
use mathlib.Core.List.{List, [], ◌∷◌}
use borrow.Author.Tests.{eqb-true}
use lib.Dec.{eqb}
use Rattle.answer.specs.Answer.{Answer, gives, refuses}
use Rattle.answer.specs.Order.{Test, first_of}
use Rattle.v4x7.specs.declared.ClockRecord.{ClockRecord}
use Rattle.v4x7.specs.Check.{named_of, check_of}
use Rattle.image.specs.Image.{in_width}
use Rattle.startup.specs.declared.Reading.{Reading}
use Rattle.startup.specs.declared.Report.{Report}
use Rattle.startup.specs.declared.Report.TheVariants.{Worked, Waiting, Running, Failed, Refused}
use Rattle.startup.specs.declared.Startup.{Startup}
use Rattle.startup.specs.declared.Stepped.{Stepped}
use Rattle.startup.specs.Call.{number_of, handed_back, step_by, step_of}
use Rattle.startup.proofs.Order.{step_in_order, unaccepted_28}
use Rattle.capi_give.specs.Given.{number_in}
use Rattle.capi_startup.specs.Order.{called_tests}
use Rattle.capi_demands.proofs.Answers.{Known, KnownIn}

-- ---- the five numbers

-- what holds of each of them holds of a known answer's
of_five : (P : ℕ → Type 0) → P 0 → P 21 → P 22 → P 23 → P 28 → (report : Report) → Known report → P (number_of report)
of_five P a b c d e (Worked step used) k = a
of_five P a b c d e (Waiting step used) k = a
of_five P a b c d e (Running step used) k = a
of_five P a b c d e (Failed n step used) (inl h) = subst P (sym h) b
of_five P a b c d e (Failed n step used) (inr h) = subst P (sym h) c
of_five P a b c d e (Refused n) (inl h) = subst P (sym h) d
of_five P a b c d e (Refused n) (inr h) = subst P (sym h) e

-- the tests of a last number
abbrev number_tests : ℕ → List Test
number_tests n = (21, eqb n 21) ∷ (22, eqb n 22) ∷ (23, eqb n 23) ∷ (28, eqb n 28) ∷ []

abbrev FirstIs : ℕ → Type 0
FirstIs n = n ≡ number_in (first_of (number_tests n))

-- ---- a call

told_number : (n : ℕ) (none : Bool) → (none ≡ true → n ≡ 0) → n ≡ number_in (cond {A = Answer (Unit {0})} none (gives tt) (refuses n))
told_number n true h = h refl
told_number n false h = refl

module _ (s : Startup) (r : Reading) where
  abbrev number : ℕ
  number = number_of (step_of s r).report

  going : s.over ≡ None → (check : Answer ClockRecord) → check_of s.config ≡ check → number ≡ number_in (first_of (called_tests s r))
  going e (gives x) q =
      told_number number (eqb number 0) (eqb-true number 0) ∙ ap number_in (step_in_order s r e q) ∙ rw (e, q)
  going e (refuses n) q = ap (λ (x : Stepped). number_of x.report) (unaccepted_28 s r e q) ∙ rw (e, q)

  -- the codes before the last number
  codes_first : (last : Report) → Known last → (named width : Bool) →
      number_of (cond (not named || not width) (handed_back s) (record { startup = s; report = last })).report ≡
      number_in (first_of ((28, not named) ∷ (28, not width) ∷ number_tests (number_of last)))
  codes_first last k false width = refl
  codes_first last k true false = refl
  codes_first last k true true = of_five FirstIs refl refl refl refl refl last k

  over : (last : Report) → s.over ≡ Some last → Known last → number ≡ number_in (first_of (called_tests s r))
  unfolding step_of
  over last e k =
      let bad = not (named_of s.config) || not (in_width s.fields) in
      ap (λ (p : Option Report). number_of (cond bad (handed_back s) (step_by (check_of s.config) s r p)).report) e
      ∙ codes_first last k (named_of s.config) (in_width s.fields) ∙ rw e

  by_phase : (p : Option Report) → s.over ≡ p → KnownIn p → number ≡ number_in (first_of (called_tests s r))
  by_phase None e k = going e (check_of s.config) refl
  by_phase (Some last) e k = over last e k

  pub first_test : KnownIn s.over → number ≡ number_in (first_of (called_tests s r))
  first_test = by_phase s.over refl
