-- What a call on a place can answer, whatever bytes it finds: 0, 21, 22, 23 or 28. And that it keeps the configuration, and all of a startup
-- that is over.
-- Assumes nothing.
use Rattle.std.specs.Prelude.{Option, None, Some}
use Prim.Native.Nat.{ℕ}
use mathlib.Core.Path.{◌≡◌, refl, ap, ◌∙◌, subst}
use mathlib.Core.Logic.{◌⊎◌, inl, inr}
use mathlib.Core.Bool.{Bool, true, false, cond, not, ◌||◌}
use mathlib.Core.List.{List}
use borrow.Author.Tests.{eqb-true}
use lib.Dec.{eqb}
use lib.ListN.{take, drop, get_or}
use Rattle.answer.specs.Answer.{Answer, gives, refuses, bound, same_given}
use Rattle.answer.specs.Tools.{false_true, either}
use Rattle.v4x7.specs.declared.Config.{Config}
use Rattle.v4x7.specs.declared.ClockRecord.{ClockRecord}
use Rattle.v4x7.specs.Check.{named_of, check_of}
use Rattle.profile.specs.Profile.{read_profile}
use Rattle.image.specs.declared.Fields.{Fields}
use Rattle.image.specs.Image.{in_width, read_image}
use Rattle.startup.specs.Steps.{next_of}
use Rattle.startup.specs.declared.Reading.{Reading}
use Rattle.startup.specs.declared.Report.{Report}
use Rattle.startup.specs.declared.Report.TheVariants.{Worked, Waiting, Running, Failed, Refused}
use Rattle.startup.specs.declared.Startup.{Startup}
use Rattle.startup.specs.declared.Stepped.{Stepped}
use Rattle.startup.specs.Call.{handed_back, Event, back, wrote, met, waiting, missed, misread, compared, came_to, seeing, comes_to, step_by, step_of}
use Rattle.ticks.specs.declared.Ticked.{Ticked}
use Rattle.ticks.specs.Ticks.{after_of, is_over, ticked_of}
use Rattle.place.specs.Place.{leaves_as_it_was, stepped_in}
use Rattle.place.proofs.Laws.{over_stays}
use Rattle.capi_startup.specs.Kept.{phase_of, number_at, standing_of, startup_in}

-- 21 and 22 end a startup; 23 and 28 leave its place as it was.
abbrev pub Known : Report → Type 0
Known (Worked step used) = Unit {0}
Known (Waiting step used) = Unit {0}
Known (Running step used) = Unit {0}
Known (Failed n step used) = (n ≡ 21) ⊎ (n ≡ 22)
Known (Refused n) = (n ≡ 23) ⊎ (n ≡ 28)

-- Of a startup that is over, its last answer.
abbrev pub KnownIn : Option Report → Type 0
KnownIn None = Unit {0}
KnownIn (Some last) = Known last

-- ---- a place's phase

module _ (tag step used : ℕ) where
  by_number : (a b c d e : Bool) → (c ≡ true → tag ≡ 21) → (d ≡ true → tag ≡ 22) →
      KnownIn (cond a None (cond b (Some (Running step used)) (cond (c || d) (Some (Failed tag step used))
      (cond e (Some (Refused 23)) (Some (Refused 28))))))
  by_number true b c d e p q = tt
  by_number false true c d e p q = tt
  by_number false false true d e p q = inl (p refl)
  by_number false false false true e p q = inr (q refl)
  by_number false false false false true p q = inl refl
  by_number false false false false false p q = inr refl

  phase_known : KnownIn (phase_of tag step used)
  unfolding phase_of
  phase_known = by_number (eqb tag 0) (eqb tag 1) (eqb tag 21) (eqb tag 22) (eqb tag 23) (eqb-true tag 21) (eqb-true tag 22)

-- ---- a place that holds a startup

pub record Holds (l : List ℕ) (s : Startup) : Type 0 where
  pub config : Config
  pub fields : Fields
  pub profile : read_profile (take 10 l) ≡ gives config
  pub same : standing_of config fields l ≡ s

pub holds : (l : List ℕ) (s : Startup) → startup_in l ≡ gives s → Holds l s
unfolding startup_in
holds l s e =
    let c = bound (read_profile (take 10 l)) _ e in
    let f = bound (read_image (take 8 (drop 10 l))) _ c.after in
    record { config = c.value; fields = f.value; profile = c.gave; same = same_given f.after }

pub found_known : (l : List ℕ) (s : Startup) → startup_in l ≡ gives s → KnownIn s.over
unfolding standing_of
found_known l s e =
    subst (λ (s : Startup). KnownIn s.over) (holds l s e).same (phase_known (get_or l 27 0) (get_or l 18 0) (number_at l 23))

-- ---- a call

-- with a known answer, and the configuration as it was
abbrev Fair : Startup → Stepped → Type 0
Fair s x = Known x.report × (x.startup.config ≡ s.config)

came : (next : ℕ) (s : Startup) (f : Fields) (e : Event) → Fair s (came_to next s f e)
came next s f back = (inr refl, refl)
came next s f (wrote g) = (tt, refl)
came next s f met = (tt, refl)
came next s f waiting = (tt, refl)
came next s f missed = (inl refl, refl)
came next s f misread = (inr refl, refl)
came next s f (compared true) = (tt, refl)
came next s f (compared false) = (inl refl, refl)

by_phase : (s : Startup) (r : Reading) (bad : Bool) (check : Answer ClockRecord) (p : Option Report) → KnownIn p →
    Fair s (cond bad (handed_back s) (step_by check s r p))
by_phase s r true check p k = (inr refl, refl)
by_phase s r false check (Some last) k = (k, refl)
by_phase s r false (refuses n) None k = (inr refl, refl)
by_phase s r false (gives x) None k = came (next_of s.config s.step) s (seeing s r) (comes_to x.clocks s r)

pub call_fair : (s : Startup) (r : Reading) → KnownIn s.over → (Known (step_of s r).report) × ((step_of s r).startup.config ≡ s.config)
unfolding step_of
call_fair s r = by_phase s r (not (named_of s.config) || not (in_width s.fields)) (check_of s.config) s.over

-- ---- a call in the place

module _ (t : Ticked) (r : Reading) (tick : ℕ) where
  pub place_by : (b : Bool) → leaves_as_it_was (step_of t.startup r).report ≡ b → (stepped_in t r tick).place ≡ cond b t (ticked_of t r tick).ticked
  unfolding stepped_in ticked_of
  place_by b e = ap (λ (b : Bool). cond b t (ticked_of t r tick).ticked) e

  over_by : (p : Option Report) → t.startup.over ≡ p → is_over p ≡ true → (stepped_in t r tick).place ≡ t
  over_by None e h = false_true h
  over_by (Some last) e h = over_stays t last e r tick

  -- a startup that is over stays, and so does one that the call leaves as it was
  pub place_stays : (is_over t.startup.over || leaves_as_it_was (step_of t.startup r).report) ≡ true →
      (stepped_in t r tick).place ≡ t
  place_stays =
      either (is_over t.startup.over) (leaves_as_it_was (step_of t.startup r).report) (over_by t.startup.over refl) (place_by true)

  -- of any other, the call notes its ticks

  abbrev pub noted : Ticked
  noted = record {
    startup = (step_of t.startup r).startup;
    ticks = after_of t.ticks t.startup.unmet tick (step_of t.startup r).report;
  }

  pub ticked_noted : is_over t.startup.over ≡ false → (ticked_of t r tick).ticked ≡ noted
  unfolding ticked_of
  ticked_noted h = rw h

  pub place_moves : is_over t.startup.over ≡ false → leaves_as_it_was (step_of t.startup r).report ≡ false → (stepped_in t r tick).place ≡ noted
  place_moves h goes = place_by false goes ∙ ticked_noted h
