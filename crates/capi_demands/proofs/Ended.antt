-- With which numbers a call ends a startup in its place; that a call on a place that is over changes no byte; and that a call gives its report's number.
-- Assumes nothing.
use Rattle.std.specs.Prelude.{Option, None, Some}
use Prim.Native.Nat.{ℕ}
use mathlib.Core.Path.{◌≡◌, refl, sym, ap, ◌∙◌, subst}
use mathlib.Core.Logic.{◌⊎◌, inl, inr}
use mathlib.Core.Bool.{Bool, true, false, cond, not, ◌||◌}
use mathlib.Core.List.{List, ◌++◌}
use lib.Dec.{ltb}
use lib.ListN.{length, take, drop, take-append-drop}
use Rattle.answer.specs.Answer.{Answer, gives, refuses, refuse, ◌>>=◌, ◌>>◌, bound, same_given}
use Rattle.answer.specs.Tools.{true_false, neither}
use Rattle.layout.specs.Layout.{packed}
use Rattle.v4x7.specs.declared.ClockRecord.{ClockRecord}
use Rattle.v4x7.specs.Check.{named_of, check_of}
use Rattle.image.specs.declared.Fields.{Fields}
use Rattle.image.specs.Image.{widths, list_of, in_width, image_bytes}
use Rattle.startup.specs.Steps.{next_of}
use Rattle.startup.specs.declared.Reading.{Reading}
use Rattle.startup.specs.declared.Report.{Report}
use Rattle.startup.specs.declared.Report.TheVariants.{Worked, Waiting, Running, Failed, Refused}
use Rattle.startup.specs.declared.Startup.{Startup}
use Rattle.startup.specs.declared.Stepped.{Stepped}
use Rattle.startup.specs.Call.{number_of, handed_back, Event, back, wrote, met, waiting, missed, misread, compared}
use Rattle.startup.specs.Call.{came_to, seeing, comes_to, step_by, step_of}
use Rattle.ticks.specs.declared.Ticked.{Ticked}
use Rattle.ticks.specs.Ticks.{ticked_of}
use Rattle.place.specs.Place.{leaves_as_it_was, stepped_in}
use Rattle.capi_startup.specs.Kept.{startup_in}
use Rattle.ticks.specs.Ticks.{is_over}
use Rattle.capi_startup.specs.Calls.{reading_of, call_bytes, step_bytes, bytes_left}
use Rattle.capi_demands.specs.Place.{HeldPhase, CallAnswers, OverStays}
use Rattle.capi_demands.proofs.Fitting.{call_fits}
use Rattle.capi_demands.proofs.Answers.{place_by}
use Rattle.capi_demands.proofs.Shown.{Agrees, image_given}

-- ---- a report's number is 0, or the startup is over by it

abbrev pub Ends : Option Report → Report → Type 0
Ends p report = (number_of report ≡ 0) ⊎ ((step used : ℕ) × (p ≡ Some (Failed (number_of report) step used)))

abbrev Ended : Stepped → Type 0
Ended x = leaves_as_it_was x.report ≡ false → Ends x.startup.over x.report

last_ends : (last : Report) → leaves_as_it_was last ≡ false → Ends (Some last) last
last_ends (Worked step used) h = inl refl
last_ends (Waiting step used) h = inl refl
last_ends (Running step used) h = inl refl
last_ends (Failed n step used) h = inr (step, used, refl)
last_ends (Refused n) h = true_false h

came : (next : ℕ) (s : Startup) (f : Fields) (e : Event) → Ended (came_to next s f e)
came next s f back h = true_false h
came next s f (wrote g) h = inl refl
came next s f met h = inl refl
came next s f waiting h = inl refl
came next s f missed h = last_ends _ h
came next s f misread h = last_ends _ h
came next s f (compared same) h = last_ends _ h

by_phase : (s : Startup) (r : Reading) (bad : Bool) (check : Answer ClockRecord) (p : Option Report) → s.over ≡ p →
    Ended (cond bad (handed_back s) (step_by check s r p))
by_phase s r true check p e h = true_false h
by_phase s r false check (Some last) e h = subst (λ (p : Option Report). Ends p last) (sym e) (last_ends last h)
by_phase s r false (refuses n) None e h = true_false h
by_phase s r false (gives x) None e h = came (next_of s.config s.step) s (seeing s r) (comes_to x.clocks s r) h

ended : (s : Startup) (r : Reading) → Ended (step_of s r)
unfolding step_of
ended s r = by_phase s r (not (named_of s.config) || not (in_width s.fields)) (check_of s.config) s.over refl

pub ends_then : (t : Ticked) (r : Reading) (tick : ℕ) → leaves_as_it_was (step_of t.startup r).report ≡ false →
    Ends (stepped_in t r tick).place.startup.over (stepped_in t r tick).report
unfolding stepped_in ticked_of
ends_then t r tick goes =
    let s = t.startup in
    subst (λ (t : Ticked). Ends t.startup.over (step_of s r).report) (sym (place_by t r tick false goes)) (ended s r goes)

-- The number k of a report, of a place that can be stored.
module _ (p : Option Report) (step used : ℕ) (held : HeldPhase p step used) (report : Report) (k : ℕ) (same : k ≡ number_of report) where
  over_by : (number s u : ℕ) → p ≡ Some (Failed number s u) → ((number ≡ 21) ⊎ (number ≡ 22)) × (s ≡ step) × (u ≡ used)
  over_by number s u e = subst (λ (p : Option Report). HeldPhase p step used) e held

  either_of : ((number_of report ≡ 21) ⊎ (number_of report ≡ 22)) → (k ≡ 0) ⊎ (k ≡ 21) ⊎ (k ≡ 22)
  either_of (inl h) = inr (inl (same ∙ h))
  either_of (inr h) = inr (inr (same ∙ h))

  pub three_numbers : Ends p report → (k ≡ 0) ⊎ (k ≡ 21) ⊎ (k ≡ 22)
  three_numbers (inl h) = inl (same ∙ h)
  three_numbers (inr (s, u, e)) = either_of (over_by (number_of report) s u e).0

  pub over_by_it : Ends p report → (k ≡ 0 → ⊥) → p ≡ Some (Failed k step used)
  over_by_it (inl h) other = absurd (other (same ∙ h))
  over_by_it (inr (s, u, e)) other = let o = over_by (number_of report) s u e in e ∙ rw (same, o.1, o.2)

  pub its_number : Agrees p report → (number s u : ℕ) → p ≡ Some (Failed number s u) → k ≡ number
  its_number last number s u e = same ∙ ap number_of (subst (λ (p : Option Report). Agrees p report) e last)

-- ---- a place that is over

stays_through : (l : List ℕ) (n : ℕ) (short : Bool) → bytes_left l (◌>>◌ (refuse 32 short) (gives (n, take 72 l ++ drop 72 l))) ≡ l
stays_through l n true = refl
stays_through l n false = take-append-drop 72 l

pub over_stays_in_c : OverStays
unfolding step_bytes call_bytes
over_stays_in_c l l' w tick r s last found e g =
    let n = number_of (step_of s (reading_of w)).report in
    let call : step_bytes l w tick ≡ gives (n, take 72 l) = rw (found, e) in
    g.lent ∙ ap (λ m. bytes_left l (◌>>◌ (refuse 32 (ltb (length l) 72)) (◌>>=◌ m (λ (y : ℕ × List ℕ). gives (y.0, y.1 ++ drop 72 l))))) call
    ∙ stays_through l n (ltb (length l) 72)

-- ---- a call gives its report's number

module _ (l : List ℕ) (s : Startup) (w tick : ℕ) where
  abbrev x : Stepped
  x = step_of s (reading_of w)

  given_by : (b : Bool) → (is_over s.over || leaves_as_it_was x.report) ≡ b → (place : List ℕ → List ℕ) →
      (c : List ℕ) × (cond {A = Answer (ℕ × List ℕ)} b (gives (number_of x.report, take 72 l))
      (◌>>=◌ (image_bytes x.startup.fields) (λ i. gives (number_of x.report, place i))) ≡ gives (number_of x.report, c))
  given_by true e place = (take 72 l, refl)
  given_by false e place =
      let fits = call_fits s (reading_of w) (neither (is_over s.over) (leaves_as_it_was x.report) e).1 in
      (place (packed 8 widths (list_of x.startup.fields)), rw (image_given x.startup.fields fits))

  pub call_gives : (c : List ℕ) × (call_bytes l s w tick ≡ gives (number_of x.report, c))
  unfolding call_bytes
  call_gives = given_by (is_over s.over || leaves_as_it_was x.report) refl _

pub call_answers : CallAnswers
unfolding step_bytes stepped_in ticked_of
call_answers l w tick t k =
    let s = bound (startup_in l) _ k in
    let o : s.value ≡ t.startup = ap (λ (t : Ticked). t.startup) (same_given s.after) in
    let c = call_gives l t.startup w tick in
    (c.0, rw (s.gave, o) c.1)
