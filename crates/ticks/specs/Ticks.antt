-- The ticks of a startup's waits. Document 02, K5: "For each met wait we want the ticks from that wait's first reading to the met one, the difference taken
-- modulo 2^32, and the longest of these."
-- Assumes nothing.
use Rattle.std.specs.Prelude.{ℕ, ◌+◌, ◌-◌, ◌%◌, ◌^◌, max, Bool, true, false, cond, ◌||◌, Option, None, Some, List, [], ◌∷◌, ◌==◌}
use Rattle.startup.specs.declared.Reading.{Reading}
use Rattle.startup.specs.declared.Report.{Report}
use Rattle.startup.specs.declared.Report.TheVariants.{Worked, Waiting, Running, Failed, Refused}
use Rattle.startup.specs.declared.Startup.{Startup}
use Rattle.startup.specs.Call.{step_of}
use Rattle.ticks.specs.declared.Waits.{Waits}
use Rattle.ticks.specs.declared.Ticks as declared
use Rattle.ticks.specs.declared.Ticked.{Ticked}
use Rattle.ticks.specs.declared.TickedStep.{TickedStep}

-- the ticks from one to another, modulo 2^32
abbrev pub spent_of : ℕ → ℕ → ℕ
spent_of first tick = (tick + (2 ^ 32 - first)) % 2 ^ 32

-- The eight waits, by what f gives for the step of each; and the number at a step, 0 where no wait is.

abbrev pub waits_by : (ℕ → ℕ) → Waits
waits_by f = record { at2 = f 2; at4 = f 4; at7 = f 7; at10 = f 10; at12 = f 12; at15 = f 15; at18 = f 18; at27 = f 27 }

abbrev pub ticks_at : Waits → ℕ → ℕ
ticks_at w k =
    cond (k == 2) w.at2 (cond (k == 4) w.at4 (cond (k == 7) w.at7 (cond (k == 10) w.at10
    (cond (k == 12) w.at12 (cond (k == 15) w.at15 (cond (k == 18) w.at18 (cond (k == 27) w.at27 0)))))))

-- The longest of the eight.

abbrev pub eight_of : Waits → List ℕ
eight_of w = w.at2 ∷ w.at4 ∷ w.at7 ∷ w.at10 ∷ w.at12 ∷ w.at15 ∷ w.at18 ∷ w.at27 ∷ []

abbrev pub maximum : List ℕ → ℕ
maximum [] = 0
maximum (n ∷ l) = max n (maximum l)

unfoldable pub longest_of : Waits → ℕ
longest_of w = maximum (eight_of w)

-- The eight steps that wait.
abbrev pub has_wait : ℕ → Bool
has_wait k = k == 2 || k == 4 || k == 7 || k == 10 || k == 12 || k == 15 || k == 18 || k == 27

-- The step's wait took so many ticks; the others are as they were.
unfoldable pub noted_of : Waits → ℕ → ℕ → Waits
noted_of w step ticks = waits_by (λ k. cond (step == k) ticks (ticks_at w k))

-- A step is worked at this tick, its wait's first reading having come at `first`.
unfoldable pub met_of : declared.Ticks → ℕ → ℕ → ℕ → declared.Ticks
met_of t step first tick = record { first = t.first; waits = noted_of t.waits step (spent_of first tick) }

-- Without an unmet reading before it, a reading is its wait's first. It doesn't meet the wait: the first one's tick is kept. It meets the wait: the ticks
-- from the first to this one are noted. Any other report changes nothing.
unfoldable pub after_of : declared.Ticks → ℕ → ℕ → Report → declared.Ticks
after_of t unmet tick (Worked step used) = met_of t step (cond (unmet == 0) tick t.first) tick
after_of t unmet tick (Waiting step used) = record { first = cond (unmet == 0) tick t.first; waits = t.waits }
after_of t unmet tick (Running step used) = t
after_of t unmet tick (Failed number step used) = t
after_of t unmet tick (Refused number) = t

-- A report that meets a wait.
abbrev pub meets_wait : Report → Bool
meets_wait (Worked step used) = has_wait step
meets_wait (Waiting step used) = false
meets_wait (Running step used) = false
meets_wait (Failed number step used) = false
meets_wait (Refused number) = false

-- Each number is 0 before its wait is met.
abbrev pub begun_with : Startup → Ticked
begun_with s = record { startup = s; ticks = record { first = 0; waits = waits_by (λ k. 0) } }

-- Is a startup over?
abbrev pub is_over : Option Report → Bool
is_over None = false
is_over (Some last) = true

-- One call: the startup's own, and the ticks beside it. Of a startup that is over before the call the ticks stay, whatever it reports.
unfoldable pub ticked_of : Ticked → Reading → ℕ → TickedStep
ticked_of t r tick =
    let x = step_of t.startup r in
    let ticks = cond (is_over t.startup.over) t.ticks (after_of t.ticks t.startup.unmet tick x.report) in
    record { ticked = record { startup = x.startup; ticks = ticks }; report = x.report }
