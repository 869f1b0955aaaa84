-- A host that keeps its startup in lent bytes sees what the startup in a place gives, so that demand 3 holds of the calls for C.
-- Assumes nothing.
use Rattle.std.specs.Prelude.{Some, ℕ, suc, ◌≤◌, ◌≡◌, ◌⊎◌, List, length, drop, get_or}
use Rattle.answer.specs.Answer.{gives}
use Rattle.layout.specs.Layout.{Bytes}
use Rattle.tree.specs.declared.Clocks.{Clocks}
use Rattle.v4x7.specs.declared.Config.{Config}
use Rattle.v4x7.specs.declared.ClockRecord.{ClockRecord}
use Rattle.v4x7.specs.Check.{check_of}
use Rattle.profile.specs.Profile.{read_profile}
use Rattle.image.specs.declared.Fields.{Fields}
use Rattle.image.specs.Image.{read_image}
use Rattle.startup.specs.declared.Report.{Report}
use Rattle.startup.specs.declared.Report.TheVariants.{Worked, Failed}
use Rattle.startup.specs.Call.{number_of, named_step}
use Rattle.ticks.specs.declared.Ticked.{Ticked}
use Rattle.ticks.specs.Ticks.{longest_of, begun_with}
use Rattle.ticks.specs.Runs.{runs}
use Rattle.place.specs.Place.{stepped_in}
use Rattle.place.specs.Laws.{in_place}
use Rattle.demands.specs.Third.{begun, bound}
use Rattle.demands.specs.Placed.{Calls, first_calls, Placed}
use Rattle.capi_give.specs.Given.{Given}
use Rattle.capi_startup.specs.Kept.{tag_of, report_tag, number_at, kept_of}
use Rattle.capi_startup.specs.Calls.{reading_of, start_bytes, step_bytes, Leaves}
use Rattle.capi.specs.Owed.{calls_read}
use Rattle.capi_demands.specs.Place.{Word, Shows}

-- A host lends the bytes l to `wontabeli_start` with the profile p and the image i, which answers r, and then lends what it finds to
-- `wontabeli_step` again and again, with any readings and ticks: call n takes ws n and ts n, finds the bytes m n, answers rs n and leaves the bytes m (suc n).
pub record Hosts (p i l : List ℕ) (ws ts : ℕ → ℕ) (r : ℕ) (rs : ℕ → ℕ) (m : ℕ → List ℕ) : Type 0 where
  pub start : Given 72 (start_bytes p i) l (m 0) r
  pub step : (n : ℕ) → Leaves 72 (step_bytes (m n) (ws n) (ts n)) (m n) (m (suc n)) (rs n)

-- What a host reads of its place: byte 27 is the phase, 28 how the last call went, 29 the refusal number, 30 the step that it names, 68 to 71 the longest wait.
pub record Tells (t : Ticked) (report : Report) (l : List ℕ) : Type 0 where
  pub phase : get_or l 27 0 ≡ tag_of t.startup.over
  pub report_tag_lem : get_or l 28 0 ≡ report_tag report
  pub number : get_or l 29 0 ≡ number_of report
  pub step : get_or l 30 0 ≡ named_step report
  pub longest : number_at l 68 ≡ longest_of t.ticks.waits

-- What the calls hand in; the startup in its place after n of them, and the report of call n.

abbrev pub handed : (ℕ → ℕ) → (ℕ → ℕ) → Calls
handed ws ts = λ n. (reading_of (ws n), ts n)

abbrev pub after : Config → Fields → Calls → ℕ → Ticked
after c f h n = (runs in_place (begun_with (begun c f)) (first_calls n h)).0

abbrev pub told : Config → Fields → Calls → ℕ → Report
told c f h n = (stepped_in (after c f h n) (h n).0 (h n).1).report

-- What the host is served.
pub record Served (p : List ℕ) (c : Config) (promised : Clocks) (f : Fields) (rest : List ℕ) (h : Calls)
    (r : ℕ) (rs : ℕ → ℕ) (m : ℕ → List ℕ) : Type 0 where
  -- The start returns 0, and each call its report's number: 0, 21 or 22.
  pub started : r ≡ 0
  pub called : (n : ℕ) → rs n ≡ number_of (told c f h n)
  pub numbers : (n : ℕ) → (rs n ≡ 0) ⊎ (rs n ≡ 21) ⊎ (rs n ≡ 22)
  -- With 21 or 22 the startup then is over by that number, at its step and with its readings; and over so, it was returned.
  pub failed : (n : ℕ) → (rs n ≡ 0 → ⊥) → let s = (after c f h (suc n)).startup in s.over ≡ Some (Failed (rs n) s.step s.used)
  pub returned : (n number step used : ℕ) → (after c f h (suc n)).startup.over ≡ Some (Failed number step used) → rs n ≡ number
  -- After the start the lent bytes are the begun startup's place, after each call the place of what the startup in a place comes to with the same
  -- readings and ticks, with its report. The bytes behind the place are as they were.
  pub begins : Shows p (begun_with (begun c f)) (Worked 0 0) rest (m 0)
  pub steps : (n : ℕ) → Shows p (after c f h (suc n)) (told c f h n) rest (m (suc n))
  pub tells : (n : ℕ) → Tells (after c f h (suc n)) (told c f h n) (m (suc n))
  -- Read back, they are the startup in a place, with its ticks;
  pub keeps : (n : ℕ) → kept_of (m n) ≡ gives (after c f h n)
  -- and of the one that they are after as many calls as `wontabeli_call_bound` gives, demand 3 says all that it says, and what K5 says of its ticks.
  pub asked : calls_read p ≡ gives (bound c)
  pub placed : (before : Ticked) → Placed c promised f before h (after c f h)

-- Of any host whose profile is accepted and whose image can be read.
abbrev pub Demand3InC : Type 0
Demand3InC =
    (p i l : List ℕ) → Bytes i → 72 ≤ length l →
    (c : Config) → read_profile p ≡ gives c → (x : ClockRecord) → check_of c ≡ gives x → (f : Fields) → read_image i ≡ gives f →
    (ws ts : ℕ → ℕ) → ((n : ℕ) → Word (ts n)) → (r : ℕ) (rs : ℕ → ℕ) (m : ℕ → List ℕ) → Hosts p i l ws ts r rs m →
    Served p c x.clocks f (drop 72 l) (handed ws ts) r rs m

-- Every call answers whatever bytes it finds: such hosts there are.
abbrev pub HostsThere : Type 0
HostsThere = (p i l : List ℕ) (ws ts : ℕ → ℕ) → (r : ℕ) × (rs : ℕ → ℕ) × (m : ℕ → List ℕ) × Hosts p i l ws ts r rs m
