-- A startup with its ticks, which the host keeps in 72 lent bytes: 0 to 9 its profile, 10 to 17 the image of its fields, 18 the step whose turn it is,
-- 19 to 22 the unmet readings of its wait, 23 to 26 all readings used, 27 its phase; what came of the last call: 28 how it went, 29 the refusal number,
-- 30 the step that it names, 31 zero; and its ticks: 32 to 35 that of the first reading of the wait whose turn it is, 36 to 67 those of the eight waits, four
-- bytes each, 68 to 71 the longest of them. A call doesn't look at 28 to 31 and at 68 to 71.
-- Assumes nothing.
use Rattle.std.specs.Prelude.{ℕ, ◌+◌, cond, ◌||◌, Option, None, Some, List, [], ◌∷◌, ◌++◌, eqb, get_or, take, drop}
use Rattle.answer.specs.Answer.{Answer, gives, ◌>>=◌}
use Rattle.layout.specs.Layout.{num}
use Rattle.layout.specs.Numbers.{in_fours}
use Rattle.v4x7.specs.declared.Config.{Config}
use Rattle.profile.specs.Profile.{read_profile}
use Rattle.image.specs.declared.Fields.{Fields}
use Rattle.image.specs.Image.{read_image}
use Rattle.startup.specs.declared.Report.{Report}
use Rattle.startup.specs.declared.Report.TheVariants.{Worked, Waiting, Running, Failed, Refused}
use Rattle.startup.specs.declared.Startup.{Startup}
use Rattle.startup.specs.Call.{number_of, named_step}
use Rattle.ticks.specs.declared.Ticks as declared
use Rattle.ticks.specs.declared.Ticked.{Ticked}
use Rattle.ticks.specs.Ticks.{eight_of, longest_of, meets_wait, after_of}

-- A phase by its number: 0 going, 1 running, 21, 22 and 23 over by that refusal. Another number is as good as 28. No call leaves it, nor 23.
unfoldable pub phase_of : ℕ → ℕ → ℕ → Option Report
phase_of tag step used =
    cond (eqb tag 0) None
    (cond (eqb tag 1) (Some (Running step used))
    (cond (eqb tag 21 || eqb tag 22) (Some (Failed tag step used))
    (cond (eqb tag 23) (Some (Refused 23)) (Some (Refused 28)))))

abbrev pub last_tag : Report → ℕ
last_tag (Worked step used) = 28
last_tag (Waiting step used) = 28
last_tag (Running step used) = 1
last_tag (Failed number step used) = number
last_tag (Refused number) = number

abbrev pub tag_of : Option Report → ℕ
tag_of None = 0
tag_of (Some last) = last_tag last

-- how a call went: 0 the step is worked, 1 waiting, 2 over and running, 3 over by a refusal
abbrev pub report_tag : Report → ℕ
report_tag (Worked step used) = 0
report_tag (Waiting step used) = 1
report_tag (Running step used) = 2
report_tag (Failed number step used) = 3
report_tag (Refused number) = 3

-- the number that four bytes from a place on spell
abbrev pub number_at : List ℕ → ℕ → ℕ
number_at l at = num (get_or l at 0 ∷ get_or l (at + 1) 0 ∷ get_or l (at + 2) 0 ∷ get_or l (at + 3) 0 ∷ [])

-- what the place holds behind profile and image
unfoldable pub standing_of : Config → Fields → List ℕ → Startup
standing_of c f l = record {
  config = c;
  fields = f;
  step = get_or l 18 0;
  unmet = number_at l 19;
  used = number_at l 23;
  over = phase_of (get_or l 27 0) (get_or l 18 0) (number_at l 23);
}

-- the startup of a place: 30 by its profile, 31 by its image
unfoldable pub startup_in : List ℕ → Answer Startup
startup_in l = do
  c ← read_profile (take 10 l)
  f ← read_image (take 8 (drop 10 l))
  gives (standing_of c f l)

-- the ticks of a place, by its last 40 bytes
unfoldable pub ticks_in : List ℕ → declared.Ticks
ticks_in b = record {
  first = number_at b 0;
  waits = record {
    at2 = number_at b 4;
    at4 = number_at b 8;
    at7 = number_at b 12;
    at10 = number_at b 16;
    at12 = number_at b 20;
    at15 = number_at b 24;
    at18 = number_at b 28;
    at27 = number_at b 32;
  };
}

abbrev pub ticks_part : List ℕ → List ℕ
ticks_part l = take 40 (drop 32 l)

-- what a place holds: the startup with its ticks
abbrev pub kept_of : List ℕ → Answer Ticked
kept_of l = do
  s ← startup_in l
  gives (record { startup = s; ticks = ticks_in (ticks_part l) })

-- the bytes of a place behind its image: of a startup and what came of the last call,
unfoldable pub counts_bytes : Startup → Report → List ℕ
counts_bytes s report =
    s.step ∷ (in_fours (s.unmet ∷ s.used ∷ [])
    ++ (tag_of s.over ∷ report_tag report ∷ number_of report ∷ named_step report ∷ 0 ∷ []))

-- and of its ticks: the first one, the eight waits', the longest
unfoldable pub ticks_bytes : declared.Ticks → List ℕ
ticks_bytes t = in_fours (t.first ∷ (eight_of t.waits ++ (longest_of t.waits ∷ [])))

-- The ticks' bytes b after a call, before which the wait had so many unmet readings: where it met a wait, all are written anew; otherwise only the first one
-- can change, and the others stay.
unfoldable pub noted_bytes : List ℕ → ℕ → ℕ → Report → List ℕ
noted_bytes b unmet tick report =
    let t = after_of (ticks_in b) unmet tick report in
    cond (meets_wait report) (ticks_bytes t) (in_fours (t.first ∷ []) ++ drop 4 b)
