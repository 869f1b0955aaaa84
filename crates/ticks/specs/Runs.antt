-- Many calls, one after the other: what they lead to, and their reports. And that ticks change no other answer.
-- Assumes nothing.
use Rattle.std.specs.Prelude.{◌≡◌, ℕ, List, [], ◌∷◌, refl}
use Rattle.std.proofs.Common.{ap}
use Rattle.startup.specs.declared.Reading.{Reading}
use Rattle.startup.specs.declared.Report.{Report}
use Rattle.startup.specs.declared.Startup.{Startup}
use Rattle.startup.specs.Call.{step_of}
use Rattle.ticks.specs.declared.Ticked.{Ticked}
use Rattle.ticks.specs.Ticks.{ticked_of}

-- What a call hands in: a reading and a tick.
abbrev pub Handed : Type 0
Handed = Reading × ℕ

-- A call of what is kept between calls; and calls with these readings and ticks, one after the other.
abbrev pub Call : Type 0 → Type 0
Call S = S → Handed → S × Report

abbrev pub runs : {S : Type 0} → Call S → S → List Handed → S × List Report
runs call s [] = (s, [])
runs call s (h ∷ l) = let rest = runs call (call s h).0 l in (rest.0, (call s h).1 ∷ rest.1)

-- A call by value, and one with its tick.

abbrev pub plain : Call Startup
plain s h = ((step_of s h.0).startup, (step_of s h.0).report)

abbrev pub ticked : Call Ticked
ticked t h = ((ticked_of t h.0 h.1).ticked, (ticked_of t h.0 h.1).report)

-- The run with ticks, its ticks forgotten, is the run without.

abbrev pub forgotten : Ticked × List Report → Startup × List Report
forgotten x = (x.0.startup, x.1)

pub same_run : (t : Ticked) (l : List Handed) → forgotten (runs ticked t l) ≡ runs plain t.startup l
unfolding ticked_of
same_run t [] = refl
same_run t (h ∷ l) =
    let report = (step_of t.startup h.0).report in
    ap (λ (x : Startup × List Report). (x.0, report ∷ x.1)) (same_run (ticked_of t h.0 h.1).ticked l)
