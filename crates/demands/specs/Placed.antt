-- The startup in its place, with ticks (document 02, K5): what any calls with any readings and any ticks lead to. The ticks of each wait are said by the
-- readings and ticks that were handed in, and not by what the startup keeps.
-- Assumes nothing.
use Rattle.std.specs.Prelude.{ℕ, zero, suc, ◌≡◌, refl, Bool, true, false, cond, List, [], ◌∷◌, eqb, drop}
use Rattle.answer.specs.Answer.{gives}
use Rattle.tree.specs.declared.Clocks.{Clocks}
use Rattle.v4x7.specs.declared.Config.{Config}
use Rattle.v4x7.specs.declared.ClockRecord.{ClockRecord}
use Rattle.v4x7.specs.Check.{check_of}
use Rattle.image.specs.declared.Seen.{Seen}
use Rattle.image.specs.declared.Fields.{Fields}
use Rattle.image.specs.Image.{in_width}
use Rattle.startup.specs.Steps.{write, wait, flash, compare, Entry, entry, steps}
use Rattle.startup.specs.Call.{seen_of, mode_read, start_of, step_of}
use Rattle.ticks.specs.declared.Ticked.{Ticked}
use Rattle.ticks.specs.Ticks.{spent_of, waits_by, eight_of, maximum, longest_of, begun_with}
use Rattle.ticks.specs.Runs.{Handed, runs}
use Rattle.place.specs.Place.{started_in}
use Rattle.place.specs.Laws.{in_place}
use Rattle.demands.specs.Runs.{Readings, run}
use Rattle.demands.specs.Third.{begun, bound, Shown}

-- What the calls hand in, from the first call on; the first n of them; and their readings alone.

abbrev pub Calls : Type 0
Calls = ℕ → Handed

abbrev pub first_calls : ℕ → Calls → List Handed
first_calls zero h = []
first_calls (suc n) h = h 0 ∷ first_calls n (λ i. h (suc i))

abbrev pub readings : Calls → Readings
readings h = λ i. (h i).0

-- A wait, by the calls from its turn on, of which it uses at most so many: it is met by the reading of one of them, at that one's tick, and other calls
-- follow; or it is not met.
pub data Waited : Type 0 where
  met_at : ℕ → List Handed → Waited
  not_met : Waited

abbrev pub waited : (Seen → Bool) → ℕ → List Handed → Waited
waited p zero l = not_met
waited p (suc n) [] = not_met
waited p (suc n) (h ∷ l) = cond (p (seen_of h.0)) (met_at h.1 l) (waited p n l)

-- The ticks from its first reading to the met one; and the calls behind it, none where it is not met.

abbrev pub first_tick : List Handed → ℕ
first_tick [] = 0
first_tick (h ∷ l) = h.1

abbrev pub ticks_from : ℕ → Waited → ℕ
ticks_from first (met_at tick l) = spent_of first tick
ticks_from first not_met = 0

abbrev pub calls_behind : Waited → List Handed
calls_behind (met_at tick l) = l
calls_behind not_met = []

-- A step's ticks: those of its wait. A step that is skipped, or has no wait, has none.
abbrev pub ticks_on : ℕ → Entry → List Handed → ℕ
ticks_on limit (entry false o) l = 0
ticks_on limit (entry true (write w)) l = 0
ticks_on limit (entry true (wait p)) l = ticks_from (first_tick l) (waited p limit l)
ticks_on limit (entry true (flash m)) l = 0
ticks_on limit (entry true (compare t)) l = 0

-- The calls that a step leaves to those behind it: none where it fails, or ends the startup.
abbrev pub calls_left : ℕ → Entry → List Handed → List Handed
calls_left limit (entry false o) l = l
calls_left limit (entry true (write w)) l = drop 1 l
calls_left limit (entry true (wait p)) l = calls_behind (waited p limit l)
calls_left limit (entry true (flash m)) [] = []
calls_left limit (entry true (flash m)) (h ∷ l) = cond (eqb (mode_read h.0) m) l []
calls_left limit (entry true (compare t)) l = []

-- The ticks of step k, of a list that begins at step s.
abbrev pub ticks_of_step : ℕ → List Entry → ℕ → List Handed → ℕ → ℕ
ticks_of_step limit [] s l k = 0
ticks_of_step limit (e ∷ P) s l k = cond (eqb s k) (ticks_on limit e l) (ticks_of_step limit P (suc s) (calls_left limit e l) k)

-- Worked: a wait, a write, a wait that is skipped, a reading of the flash mode, a wait; and seven calls. The first wait has its third reading met, across 2^32,
-- and the last its second; the ticks of the write and of the flash mode count for nothing. With two readings for a wait the first one fails, with another flash
-- mode the reading of it does, and those behind have none.

abbrev seeing : Bool → ℕ → Handed
seeing on tick = (
  record {
    seen = record { hsirdy = on; hserdy = false; pllrdy = false; usbhs_pllrdy = false; eth_pllrdy = false; sws = 0 };
    sckmod = 1;
  },
  tick,
)

abbrev some_calls : List Handed
some_calls =
    seeing false 0xFFFFFFF0 ∷ seeing false 5 ∷ seeing true 0x10 ∷ seeing false 100 ∷ seeing false 200 ∷ seeing false 300 ∷ seeing true 307 ∷ []

abbrev some_steps : ℕ → List Entry
some_steps mode =
    entry true (wait (λ s. s.hsirdy)) ∷ entry true (write (λ f. f)) ∷ entry false (wait (λ s. s.hsirdy)) ∷ entry true (flash mode) ∷
    entry true (wait (λ s. s.hsirdy)) ∷ []

pub worked : let ticks : ℕ → ℕ → ℕ → ℕ = λ limit mode k. ticks_of_step limit (some_steps mode) 1 some_calls k in
    (ticks 3 1 1 ≡ 32) × (ticks 3 1 2 ≡ 0) × (ticks 3 1 3 ≡ 0) × (ticks 3 1 4 ≡ 0) × (ticks 3 1 5 ≡ 7) ×
    (ticks 2 1 1 ≡ 0) × (ticks 2 1 5 ≡ 0) × (ticks 3 0 1 ≡ 32) × (ticks 3 0 5 ≡ 0)
worked = (refl, refl, refl, refl, refl, refl, refl, refl, refl)

-- What is shown of a place in which a startup begins, and which then is handed to n calls.
pub record Placed (c : Config) (promised : Clocks) (earlier : Fields) (before : Ticked) (h : Calls) (after : ℕ → Ticked) : Type 0 where
  -- Starting answers 0 and leaves a startup of which no wait is met, whatever was there.
  pub starts : ((started_in before (start_of c earlier)).number ≡ 0) × ((started_in before (start_of c earlier)).place ≡ begun_with (begun c earlier))
  -- After n calls the place holds the startup that the calls by value come to with the same readings,
  pub startup : (n : ℕ) → (after n).startup ≡ run step_of n (readings h) (begun c earlier)
  -- and of each of the eight waits the ticks that the n readings and ticks say.
  pub waits : (n : ℕ) → (after n).ticks.waits ≡ waits_by (ticks_of_step 1000000 (steps c promised) 1 (first_calls n h))
  -- The longest is their maximum.
  pub longest : (n : ℕ) →
      longest_of (after n).ticks.waits ≡ maximum (eight_of (waits_by (ticks_of_step 1000000 (steps c promised) 1 (first_calls n h))))
  -- Of what it holds after 1,000,000 x (4 + n) + 20 calls, demand 3 says all that it says.
  pub shown : Shown c promised earlier (readings h) (after (bound c)).startup

abbrev pub Demand3InPlace : Type 0
Demand3InPlace =
    (c : Config) (x : ClockRecord) → check_of c ≡ gives x → (earlier : Fields) → in_width earlier ≡ true → (before : Ticked) (h : Calls) →
    Placed c x.clocks earlier before h (λ n. (runs in_place (begun_with (begun c earlier)) (first_calls n h)).0)
