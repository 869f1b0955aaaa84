-- What a place can hold, that it is read back as it was stored, and that calls keep to it.
-- Assumes nothing.
use Rattle.std.specs.Prelude.{Option, None, Some, ℕ, ◌≤◌, ◌<◌, ◌≡◌, ◌⊎◌, List, ◌++◌, length}
use Rattle.answer.specs.Answer.{gives}
use Rattle.layout.specs.Layout.{Bytes}
use Rattle.profile.specs.Profile.{read_profile}
use Rattle.image.specs.Image.{image_bytes}
use Rattle.v4x7.specs.declared.Config.{Config}
use Rattle.image.specs.declared.Fields.{Fields}
use Rattle.startup.specs.declared.Reading.{Reading}
use Rattle.startup.specs.declared.Report.{Report}
use Rattle.startup.specs.declared.Report.TheVariants.{Worked, Waiting, Running, Failed, Refused}
use Rattle.startup.specs.declared.Startup.{Startup}
use Rattle.startup.specs.Call.{number_of, start_of}
use Rattle.ticks.specs.declared.Waits.{Waits}
use Rattle.ticks.specs.declared.Ticked.{Ticked}
use Rattle.ticks.specs.Ticks.{begun_with}
use Rattle.place.specs.Place.{stepped_in}
use Rattle.capi_startup.specs.Kept.{startup_in, kept_of, counts_bytes, ticks_bytes}
use Rattle.capi_startup.specs.Calls.{reading_of, step_bytes, Leaves}

-- A last report that a place can hold: over by running, 21, 22 or 23. It repeats the startup's own step and readings.
abbrev Repeats : Report → ℕ → ℕ → Type 0
Repeats (Worked s u) step used = ⊥
Repeats (Waiting s u) step used = ⊥
Repeats (Running s u) step used = (s ≡ step) × (u ≡ used)
Repeats (Failed n s u) step used = ((n ≡ 21) ⊎ (n ≡ 22)) × (s ≡ step) × (u ≡ used)
Repeats (Refused n) step used = n ≡ 23

abbrev pub HeldPhase : Option Report → ℕ → ℕ → Type 0
HeldPhase None step used = Unit {0}
HeldPhase (Some last) step used = Repeats last step used

-- The ticks, four bytes each.
abbrev pub Word : ℕ → Type 0
Word n = n < 4294967296

abbrev pub SmallWaits : Waits → Type 0
SmallWaits w =
    Word w.at2 × Word w.at4 × Word w.at7 × Word w.at10 × Word w.at12 × Word w.at15 × Word w.at18 × Word w.at27

pub record Storable (t : Ticked) : Type 0 where
  pub step : t.startup.step < 256
  pub unmet : Word t.startup.unmet
  pub used : Word t.startup.used
  pub phase : HeldPhase t.startup.over t.startup.step t.startup.used
  pub first : Word t.ticks.first
  pub waits : SmallWaits t.ticks.waits

-- The bytes of a place: a profile p, the image i of the startup's fields, what stands behind them, and the ticks.
pub record Shows (p : List ℕ) (t : Ticked) (report : Report) (rest l : List ℕ) : Type 0 where
  pub image : List ℕ
  pub imaged : image_bytes t.startup.fields ≡ gives image
  pub lent : l ≡ (p ++ (image ++ (counts_bytes t.startup report ++ ticks_bytes t.ticks))) ++ rest

-- Such bytes, whatever lies behind them, hold that startup with its ticks.
abbrev pub ReadsBack : Type 0
ReadsBack =
    (p : List ℕ) (t : Ticked) (report : Report) (rest l : List ℕ) → read_profile p ≡ gives t.startup.config → Storable t →
    Shows p t report rest l → kept_of l ≡ gives t

-- What starting gives can be stored, and a call keeps that.
abbrev pub StartsStorable : Type 0
StartsStorable = (c : Config) (f : Fields) (s : Startup) → start_of c f ≡ gives s → Storable (begun_with s)

abbrev pub StaysStorable : Type 0
StaysStorable = (t : Ticked) (r : Reading) (tick : ℕ) → Word tick → Storable t → Storable (stepped_in t r tick).place

-- Whatever bytes a host hands in, even such as no starting leads to: the place that a call leaves holds what the call in a place leaves.
abbrev pub CallReadsBack : Type 0
CallReadsBack =
    (l b rest : List ℕ) (w tick n : ℕ) (t : Ticked) → Bytes l → 72 ≤ length l → Word tick → kept_of l ≡ gives t → step_bytes l w tick ≡ gives (n, b) →
    kept_of (b ++ rest) ≡ gives (stepped_in t (reading_of w) tick).place

-- Such a call gives, where the place can be read, and with the number of the report that the call in a place makes.
abbrev pub CallAnswers : Type 0
CallAnswers =
    (l : List ℕ) (w tick : ℕ) (t : Ticked) → kept_of l ≡ gives t →
    (b : List ℕ) × (step_bytes l w tick ≡ gives (number_of (stepped_in t (reading_of w) tick).report, b))

-- Where the startup of a place is over, a call changes no byte, whatever the number that it returns.
abbrev pub OverStays : Type 0
OverStays =
    (l l' : List ℕ) (w tick r : ℕ) (s : Startup) (last : Report) → startup_in l ≡ gives s → s.over ≡ Some last →
    Leaves 72 (step_bytes l w tick) l l' r → l' ≡ l
