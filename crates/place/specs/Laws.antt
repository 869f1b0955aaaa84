-- Laws of a startup in its place: its answers are the answers by value, for any place and any calls; where no call is refused it holds what the calls
-- by value lead to; and after the end nothing changes.
-- The theorems stand in proofs/Laws.antt. Assumes nothing.
use Rattle.std.specs.Prelude.{◌≡◌, false, List, [], ◌∷◌}
use Rattle.startup.specs.declared.Report.{Report}
use Rattle.ticks.specs.declared.Ticked.{Ticked}
use Rattle.ticks.specs.Runs.{Call}
use Rattle.place.specs.Place.{leaves_as_it_was, stepped_in}

-- A call in the place.
abbrev pub in_place : Call Ticked
in_place t h = ((stepped_in t h.0 h.1).place, (stepped_in t h.0 h.1).report)

-- Where no report leaves the place as it was, the place holds what the calls with ticks, by value, lead to.

abbrev pub NoneLeaves : List Report → Type 0
NoneLeaves [] = Unit {0}
NoneLeaves (r ∷ l) = (leaves_as_it_was r ≡ false) × NoneLeaves l
