-- The startup of document 01, "Startup steps": starting, and one call. The steps are those of Steps.antt; one small machine works them.
-- Assumes nothing.
use Rattle.std.specs.Prelude.{ℕ, suc, zero, ◌+◌, ◌*◌, ◌%◌, ◌≡◌, Bool, cond, not, ◌||◌, Option, None, Some, List, [], ◌∷◌, ltb, leb, eqb}
use Rattle.std.proofs.Common.{◌∙◌, sym}
use Rattle.std.specs.Int.Count.{ones}
use Rattle.answer.specs.Answer.{Answer, gives, refuses, refuse, ◌>>=◌, ◌>>◌}
use Rattle.tree.specs.declared.Clocks.{Clocks}
use Rattle.v4x7.specs.declared.Config.{Config}
use Rattle.v4x7.specs.declared.ClockRecord.{ClockRecord}
use Rattle.v4x7.specs.Check.{named_of, check_of, has_hse, has_usb_hs, has_main}
use Rattle.image.specs.declared.Seen.{Seen}
use Rattle.image.specs.declared.Fields.{Fields}
use Rattle.image.specs.Image.{in_width}
use Rattle.startup.specs.Writes.{with_seen}
use Rattle.startup.specs.declared.steps.Work.{Work}
use Rattle.startup.specs.declared.steps.Work.TheVariants.{Wrote, Waits, Reads, Compares}
use Rattle.startup.specs.Steps.{listed_of, next_of, work_of}
use Rattle.startup.specs.declared.Reading.{Reading}
use Rattle.startup.specs.declared.Report.{Report}
use Rattle.startup.specs.declared.Report.TheVariants.{Worked, Waiting, Running, Failed, Refused}
use Rattle.startup.specs.declared.Startup.{Startup}
use Rattle.startup.specs.declared.Stepped.{Stepped}
use Rattle.startup.specs.declared.FlashKey.{FlashKey}
use Rattle.startup.specs.declared.FlashKey.TheVariants.{Keyr, ModeKeyr}

-- What a report says: its refusal number, or 0; the step that it names, or 0; the readings that it counts, or 0.

abbrev pub number_of : Report → ℕ
number_of (Worked step used) = 0
number_of (Waiting step used) = 0
number_of (Running step used) = 0
number_of (Failed number step used) = number
number_of (Refused number) = number

abbrev pub named_step : Report → ℕ
named_step (Worked step used) = step
named_step (Waiting step used) = step
named_step (Running step used) = step
named_step (Failed number step used) = step
named_step (Refused number) = 0

abbrev pub counted_readings : Report → ℕ
counted_readings (Worked step used) = used
counted_readings (Waiting step used) = used
counted_readings (Running step used) = used
counted_readings (Failed number step used) = used
counted_readings (Refused number) = 0

-- A reading carries the five ready bits, SWS and SCKMOD (of these two the low two bits).

abbrev pub seen_of : Reading → Seen
seen_of r =
    record {
      hsirdy = r.seen.hsirdy;
      hserdy = r.seen.hserdy;
      pllrdy = r.seen.pllrdy;
      usbhs_pllrdy = r.seen.usbhs_pllrdy;
      eth_pllrdy = r.seen.eth_pllrdy;
      sws = r.seen.sws % 4;
    }

abbrev pub mode_read : Reading → ℕ
mode_read r = r.sckmod % 4

-- A startup at a step, with so many unmet readings of its wait and so many readings used.
abbrev pub going : Config → Fields → ℕ → ℕ → ℕ → Startup
going c f step unmet used = record { config = c; fields = f; step = step; unmet = unmet; used = used; over = None }

-- Answered 28 and handed back as it was.
abbrev pub handed_back : Startup → Stepped
handed_back s = record { startup = s; report = Refused 28 }

-- The step is worked, and the next one's turn comes.
abbrev pub moved : ℕ → Startup → Fields → ℕ → Stepped
moved next s f used = record { startup = going s.config f next 0 used; report = Worked s.step used }

-- A startup that is over, with its last answer.
abbrev pub ended : Startup → Fields → ℕ → ℕ → Report → Stepped
ended s f unmet used last =
    record { startup = record { config = s.config; fields = f; step = s.step; unmet = unmet; used = used; over = Some last }; report = last }

-- What a call of a startup that is not over comes to.
pub data Event : Type 0 where
  -- handed back (28)
  back : Event
  -- the step's writes are done
  wrote : Fields → Event
  -- the reading meets the step's wait, or shows the flash mode
  met : Event
  -- the reading doesn't meet the wait,
  waiting : Event
  -- and is the last that it has: the wait failed (21)
  missed : Event
  -- the flash mode read back differs (22)
  misread : Event
  -- the clocks are compared after the switch: whether they are the same (23)
  compared : Bool → Event

-- The startup then, and the answer. `next` is the step whose turn comes, f the fields with the reading's ready bits and SWS.
abbrev pub came_to : ℕ → Startup → Fields → Event → Stepped
came_to next s f back = handed_back s
came_to next s f (wrote g) = moved next s g s.used
came_to next s f met = moved next s f (s.used + 1)
came_to next s f waiting =
    record { startup = going s.config f s.step (s.unmet + 1) (s.used + 1); report = Waiting s.step (s.used + 1) }
came_to next s f missed = ended s f (s.unmet + 1) (s.used + 1) (Failed 21 s.step (s.used + 1))
came_to next s f misread = ended s f s.unmet (s.used + 1) (Failed 22 s.step (s.used + 1))
came_to next s f (compared same) = ended s s.fields s.unmet s.used (cond same (Running s.step s.used) (Refused 23))

-- A wait: its unmet readings pass 999,999 (28); a met reading is used up; it fails at its 1,000,000th unmet reading (21).
abbrev pub waited_of : ℕ → ℕ → Bool → Event
waited_of limit unmet ok = cond (leb limit unmet) back (cond ok met (cond (ltb (unmet + 1) limit) waiting missed))

-- One step's work done or one reading used.
abbrev pub event_of : ℕ → Startup → Reading → Option Work → Event
event_of limit s r (Some (Wrote f)) = wrote f
event_of limit s r (Some (Waits ok)) = waited_of limit s.unmet ok
event_of limit s r (Some (Reads mode)) = cond (eqb (mode_read r) mode) met misread
event_of limit s r (Some (Compares same)) = compared same
event_of limit s r None = back

-- Its step is not listed or is skipped, or its used readings pass 8,000,001: 28.
unfoldable pub call_of : ℕ → Startup → Reading → Bool → Option Work → Event
call_of limit s r listed work = cond (not listed || ltb 8000001 s.used) back (event_of limit s r work)

-- The check having promised these clocks.
abbrev pub comes_to : Clocks → Startup → Reading → Event
comes_to promised s r = call_of 1000000 s r (listed_of s.config s.step) (work_of s.config promised s.step s.fields (seen_of r))

-- A used reading's ready bits and SWS go into the fields; its SCKMOD is only compared.
abbrev pub seeing : Startup → Reading → Fields
seeing s r = with_seen s.fields (seen_of r)

-- After the end a call changes nothing and repeats the last answer; not over, a configuration that is not accepted is answered 28.
abbrev pub step_by : Answer ClockRecord → Startup → Reading → Option Report → Stepped
step_by check s r (Some last) = record { startup = s; report = last }
step_by (refuses n) s r None = handed_back s
step_by (gives x) s r None = came_to (next_of s.config s.step) s (seeing s r) (comes_to x.clocks s r)

-- A startup that is over, asked again, its fields being in width.
abbrev pub repeated_of : Startup → Report → Stepped
repeated_of s last = cond (not (named_of s.config)) (handed_back s) (record { startup = s; report = last })

-- One call: 28 for a code before anything else, without a name in the configuration or too wide in the fields.
unfoldable pub step_of : Startup → Reading → Stepped
step_of s r =
    cond (not (named_of s.config) || not (in_width s.fields)) (handed_back s) (step_by (check_of s.config) s r s.over)

-- Starting: 28 for a code, then the check's refusals; it works no step.
unfoldable pub start_of : Config → Fields → Answer Startup
start_of c earlier = do
  refuse 28 (not (in_width earlier))
  check_of c
  gives (going c earlier 1 0 0)

-- Nothing is left open: two results that a promise allows are equal.

pub stepped_settled : (s : Startup) (r : Reading) (x y : Stepped) → x ≡ step_of s r → y ≡ step_of s r → x ≡ y
stepped_settled s r x y e g = e ∙ sym g

-- The four-bit mask of what the startup turns on: HSE, ETH PLL, USBHS PLL, main PLL.
abbrev pub mask_of : Config → ℕ
mask_of c = cond (has_hse c.hse) 8 0 + cond c.ethpll 4 0 + cond (has_usb_hs c.hspll) 2 0 + cond (has_main c.pll) 1 0

-- The waits owed are four and the ones in the enable bits; 28 for a code without a name.
unfoldable pub waits_owed_of : Config → Answer ℕ
waits_owed_of c = do
  refuse 28 (not (named_of c))
  gives (4 + ones (mask_of c))

-- 1,000,000 x (4 + n) + 20 calls
unfoldable pub call_bound_of : Config → Answer ℕ
call_bound_of c = do
  waits ← waits_owed_of c
  gives (1000000 * waits + 20)

-- 19 keys 0x45670123, 0xCDEF89AB to KEYR, then both to MODEKEYR; behind them none
abbrev pub keys : List FlashKey
keys = Keyr 0x45670123 ∷ Keyr 0xCDEF89AB ∷ ModeKeyr 0x45670123 ∷ ModeKeyr 0xCDEF89AB ∷ []

abbrev key_at : List FlashKey → ℕ → Option FlashKey
key_at [] place = None
key_at (key ∷ l) zero = Some key
key_at (key ∷ l) (suc place) = key_at l place

unfoldable pub key_of : ℕ → Option FlashKey
key_of place = key_at keys place
