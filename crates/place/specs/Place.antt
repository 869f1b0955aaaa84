-- A startup kept in one place and advanced where it lies. Document 02, K5: "A call that ends with 21 or 22 leaves the ended startup in the place: document
-- 01's untouched buffers are for the other refusals", and "a refused configuration leaves the place as it was".
-- Assumes nothing.
use Rattle.std.specs.Prelude.{ℕ, Bool, true, false, cond}
use Rattle.answer.specs.Answer.{Answer, gives, refuses}
use Rattle.startup.specs.declared.Reading.{Reading}
use Rattle.startup.specs.declared.Report.{Report}
use Rattle.startup.specs.declared.Report.TheVariants.{Worked, Waiting, Running, Failed, Refused}
use Rattle.startup.specs.declared.Startup.{Startup}
use Rattle.ticks.specs.declared.Ticked.{Ticked}
use Rattle.ticks.specs.Ticks.{begun_with, ticked_of}

-- What a call leaves in the place, and what it answers.
pub record Stepping : Type 0 where
  pub place : Ticked
  pub report : Report

-- What starting leaves in the place, and its number: 0, or the refusal's.
pub record Starting : Type 0 where
  pub place : Ticked
  pub number : ℕ

-- The reports with which a call leaves the place as it was: 23 and 28. 21 and 22 end the startup (`Failed`).
abbrev pub leaves_as_it_was : Report → Bool
leaves_as_it_was (Worked step used) = false
leaves_as_it_was (Waiting step used) = false
leaves_as_it_was (Running step used) = false
leaves_as_it_was (Failed number step used) = false
leaves_as_it_was (Refused number) = true

-- One call in the place: it answers as by value, and leaves what the call by value hands back.
unfoldable pub stepped_in : Ticked → Reading → ℕ → Stepping
stepped_in t r tick =
    let x = ticked_of t r tick in
    record { place = cond (leaves_as_it_was x.report) t x.ticked; report = x.report }

-- Starting in the place.
abbrev pub started_in : Ticked → Answer Startup → Starting
started_in t (gives s) = record { place = begun_with s; number = 0 }
started_in t (refuses n) = record { place = t; number = n }
