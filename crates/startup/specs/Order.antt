-- The order of refusals, as flat lists: starting, a call of a startup that is not over, and the waits and calls owed.
-- The theorems stand in proofs/Order.antt. Assumes nothing.
use Rattle.std.specs.Prelude.{◌+◌, Bool, true, false, cond, not, ◌&&◌, Option, None, Some, List, [], ◌∷◌, eqb, ltb, leb}
use Rattle.answer.specs.Answer.{Answer, gives, refuses}
use Rattle.answer.specs.Order.{Test}
use Rattle.tree.specs.declared.Clocks.{Clocks}
use Rattle.v4x7.specs.declared.Config.{Config}
use Rattle.v4x7.specs.Check.{named_of}
use Rattle.image.specs.declared.Fields.{Fields}
use Rattle.image.specs.Image.{in_width}
use Rattle.startup.specs.Steps.{listed_of, work_of}
use Rattle.startup.specs.declared.steps.Work.{Work}
use Rattle.startup.specs.declared.steps.Work.TheVariants.{Wrote, Waits, Reads, Compares}
use Rattle.startup.specs.declared.Reading.{Reading}
use Rattle.startup.specs.declared.Report.{Report}
use Rattle.startup.specs.declared.Startup.{Startup}
use Rattle.startup.specs.Call.{number_of, seen_of, mode_read}

-- What a step does: it is not in the list; it waits; it waits and the reading doesn't meet it; it reads a flash mode that differs; it finds clocks that
-- differ.

abbrev is_none : Option Work → Bool
is_none (Some (Wrote f)) = false
is_none (Some (Waits ok)) = false
is_none (Some (Reads mode)) = false
is_none (Some (Compares same)) = false
is_none None = true

abbrev is_wait : Option Work → Bool
is_wait (Some (Wrote f)) = false
is_wait (Some (Waits ok)) = true
is_wait (Some (Reads mode)) = false
is_wait (Some (Compares same)) = false
is_wait None = false

abbrev is_unmet : Option Work → Bool
is_unmet (Some (Wrote f)) = false
is_unmet (Some (Waits ok)) = not ok
is_unmet (Some (Reads mode)) = false
is_unmet (Some (Compares same)) = false
is_unmet None = false

abbrev is_misread : Reading → Option Work → Bool
is_misread r (Some (Wrote f)) = false
is_misread r (Some (Waits ok)) = false
is_misread r (Some (Reads mode)) = not (eqb (mode_read r) mode)
is_misread r (Some (Compares same)) = false
is_misread r None = false

abbrev is_differing : Option Work → Bool
is_differing (Some (Wrote f)) = false
is_differing (Some (Waits ok)) = false
is_differing (Some (Reads mode)) = false
is_differing (Some (Compares same)) = not same
is_differing None = false

-- A call, by what its step does: 28, 21, 22, 23.
abbrev pub work_tests : Startup → Reading → Bool → Option Work → List Test
work_tests s r listed work =
    (28, not listed) ∷  -- its step is not listed or is skipped
    (28, ltb 8000001 s.used) ∷  -- its used readings pass 8,000,001
    (28, is_none work) ∷
    (28, is_wait work && leb 1000000 s.unmet) ∷  -- its wait's unmet readings pass 999,999
    (21, is_unmet work && not (ltb (s.unmet + 1) 1000000)) ∷  -- a wait failed
    (22, is_misread r work) ∷  -- flash mode read back differs
    (23, is_differing work) ∷  -- clocks differ after the switch
    []

-- A call of a startup that is not over, to whose configuration the check promised these clocks.
abbrev pub step_tests : Clocks → Startup → Reading → List Test
step_tests promised s r =
    (28, not (named_of s.config)) ∷  -- a code without a name
    (28, not (in_width s.fields)) ∷  -- a code too wide
    work_tests s r (listed_of s.config s.step) (work_of s.config promised s.step s.fields (seen_of r))

-- an answer by its number, 0 being none
abbrev pub told_by : Report → Answer (Unit {0})
told_by last = cond (eqb (number_of last) 0) (gives tt) (refuses (number_of last))

-- Starting: 28 for a field too wide, then the check's refusals, whatever list it goes by; 28 for a code without a name is the first of them.
abbrev pub start_tests : List Test → Fields → List Test
start_tests check earlier = (28, not (in_width earlier)) ∷ check

-- the waits owed, and the bound of the calls
abbrev pub owed_tests : Config → List Test
owed_tests c = (28, not (named_of c)) ∷ []  -- a code without a name
