-- A call that changes nothing: all 72 bytes stay, and the number is the report's.
-- Assumes nothing.
use Rattle.std.specs.Prelude.{ℕ, ◌≡◌, Bool, ◌||◌, List, take}
use Rattle.std.proofs.Math.Path.{refl}
use Rattle.std.proofs.Math.Bool.{true, false}
use Rattle.answer.specs.Answer.{gives}
use Rattle.startup.specs.declared.Startup.{Startup}
use Rattle.startup.specs.declared.Report.{Report}
use Rattle.startup.specs.Call.{number_of, step_of}
use Rattle.ticks.specs.Ticks.{is_over}
use Rattle.place.specs.Place.{leaves_as_it_was}
use Rattle.capi_startup.specs.Calls.{reading_of, call_bytes}

module _ (l : List ℕ) (s : Startup) (w tick : ℕ) where
  abbrev report : Report
  report = (step_of s (reading_of w)).report

  abbrev Stays : Type 0
  Stays = call_bytes l s w tick ≡ gives (number_of report, take 72 l)

  -- "After the end, a call changes nothing."
  pub over_stays : is_over s.over ≡ true → Stays
  unfolding call_bytes
  over_stays e = rw e

  -- 23 and 28 leave the place as it was.
  pub refused_stays : leaves_as_it_was report ≡ true → Stays
  unfolding call_bytes
  refused_stays e = rw (e, either_way (is_over s.over))
    where
      either_way : (b : Bool) → b || true ≡ true
      either_way true = refl
      either_way false = refl
