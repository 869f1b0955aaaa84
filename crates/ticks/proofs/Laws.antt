-- Laws that hold the ticks to document 02's words.
-- Assumes nothing.
use Rattle.std.specs.Prelude.{◌≡◌, ℕ, zero, suc, ◌+◌, ◌%◌, ◌^◌, ◌<◌, ◌≤◌, Bool, true, false, cond, Some, List, [], ◌∷◌, ◌==◌, ◌≢◌, nat_le, slice_index, refl}
use Rattle.std.proofs.Common.{sym, ap, ◌∙◌, arith, eqb-true, ne_eqb, leb-true, leb-false}
use Rattle.answer.specs.Tools.{true_false, false_true, cases}
use Rattle.tree.specs.declared.Clocks.{Clocks}
use Rattle.v4x7.specs.declared.Config.{Config}
use Rattle.startup.specs.Steps.{Op, write, wait, flash, compare, ops}
use Rattle.startup.specs.declared.Report.{Report}
use Rattle.startup.specs.declared.Report.TheVariants.{Worked, Waiting, Running, Failed, Refused}
use Rattle.startup.specs.declared.Reading.{Reading}
use Rattle.startup.specs.declared.Startup.{Startup}
use Rattle.ticks.specs.declared.Waits.{Waits}
use Rattle.ticks.specs.declared.Ticks as declared
use Rattle.ticks.specs.declared.Ticked.{Ticked}
use Rattle.ticks.specs.Ticks.{spent_of, eight_of, maximum, longest_of, has_wait, noted_of, met_of, meets_wait, after_of, begun_with, ticked_of}

-- A counter of 32 bits that goes on for d ticks from a: the difference is d, and of a wait longer than a full turn its remainder only.
pub turned : (a d : ℕ) → a < 4294967296 → spent_of a ((a + d) % 4294967296) ≡ d % 4294967296
turned a d h = omega arith

-- From 0xFFFFFFF0 to 0x10; and two turns and five ticks.
pub across : (spent_of 0xFFFFFFF0 0x10 ≡ 32) × (spent_of 7 ((7 + 2 ^ 33 + 5) % 2 ^ 32) ≡ 5)
across = (refl, refl)

-- The longest is as long as any of the eight, and one of them.

none_longer : (l : List ℕ) (i : ℕ) → slice_index l i ≤ maximum l
none_longer [] i = omega arith
none_longer (n ∷ l) zero = omega arith
none_longer (n ∷ l) (suc i) = let h = none_longer l i in omega arith

one_of : (l : List ℕ) → (i : ℕ) × (slice_index l i ≡ maximum l)
one_of [] = (0, refl)
one_of (n ∷ l) = by_size (one_of l) (nat_le (maximum l) n) refl
  where
    by_size : (i : ℕ) × (slice_index l i ≡ maximum l) → (b : Bool) → nat_le (maximum l) n ≡ b → (i : ℕ) × (slice_index (n ∷ l) i ≡ maximum (n ∷ l))
    by_size x true e = let h = leb-true (maximum l) n e in (0, omega arith)
    by_size x false e = let h = leb-false (maximum l) n e in (suc x.0, omega (arith, x.1))

pub longest_is : (w : Waits) → ((i : ℕ) → slice_index (eight_of w) i ≤ longest_of w) × ((i : ℕ) × (slice_index (eight_of w) i ≡ longest_of w))
unfolding longest_of
longest_is w = (none_longer (eight_of w), one_of (eight_of w))

-- Just started, each of the eight is 0, and so is the longest.
pub begun_zero : (s : Startup) → let w = (begun_with s).ticks.waits in (eight_of w ≡ 0 ∷ 0 ∷ 0 ∷ 0 ∷ 0 ∷ 0 ∷ 0 ∷ 0 ∷ []) × (longest_of w ≡ 0)
unfolding longest_of
begun_zero s = (refl, refl)

-- The eight steps are those of document 01's steps that wait.

abbrev is_wait : Op → Bool
is_wait (write w) = false
is_wait (wait p) = true
is_wait (flash m) = false
is_wait (compare q) = false

abbrev waits : List Op → List Bool
waits [] = []
waits (o ∷ l) = is_wait o ∷ waits l

abbrev flags : (ℕ → Bool) → ℕ → ℕ → List Bool
flags f k zero = []
flags f k (suc n) = f k ∷ flags f (suc k) n

pub the_eight : (c : Config) (promised : Clocks) → waits (ops c promised) ≡ flags has_wait 1 28
the_eight c promised = refl

-- Each is noted in its own place, and the others are as they were.
pub own_place : (w : Waits) (k n : ℕ) → let v = noted_of w k n in
    (v.at2 ≡ cond (k == 2) n w.at2) × (v.at4 ≡ cond (k == 4) n w.at4) × (v.at7 ≡ cond (k == 7) n w.at7) ×
    (v.at10 ≡ cond (k == 10) n w.at10) × (v.at12 ≡ cond (k == 12) n w.at12) × (v.at15 ≡ cond (k == 15) n w.at15) ×
    (v.at18 ≡ cond (k == 18) n w.at18) × (v.at27 ≡ cond (k == 27) n w.at27)
unfolding noted_of
own_place w k n = (refl, refl, refl, refl, refl, refl, refl, refl)

-- A wait's first reading gives the tick that its ticks are counted from; readings behind it leave that tick.
pub first_taken : (t : declared.Ticks) (tick step used : ℕ) → (after_of t 0 tick (Waiting step used)).first ≡ tick
unfolding after_of
first_taken t tick step used = refl

pub first_kept : (t : declared.Ticks) (unmet tick step used : ℕ) → (unmet ≢ 0) → (after_of t unmet tick (Waiting step used)).first ≡ t.first
unfolding after_of
first_kept t unmet tick step used h = rw (ne_eqb unmet 0 h)

-- A wait met by its first reading has 0 ticks; one met later has those from its first reading on.
pub met_at_once : (t : declared.Ticks) (tick step used : ℕ) → tick < 4294967296 →
    (after_of t 0 tick (Worked step used)).waits ≡ noted_of t.waits step 0
unfolding after_of met_of
met_at_once t tick step used h = let e : spent_of tick tick ≡ 0 = omega arith in ap (noted_of t.waits step) e

pub met_later : (t : declared.Ticks) (unmet tick step used : ℕ) → (unmet ≢ 0) →
    (after_of t unmet tick (Worked step used)).waits ≡ noted_of t.waits step (spent_of t.first tick)
unfolding after_of met_of
met_later t unmet tick step used h = rw (ne_eqb unmet 0 h)

-- A report meets a wait where it says that a step with a wait is worked, and nowhere else.
pub meets_is : (report : Report) → meets_wait report ≡ true → (step used : ℕ) × ((report ≡ Worked step used) × (has_wait step ≡ true))
meets_is (Worked step used) h = (step, used, (refl, h))
meets_is (Waiting step used) h = false_true h
meets_is (Running step used) h = false_true h
meets_is (Failed number step used) h = false_true h
meets_is (Refused number) h = false_true h

-- A report that meets no wait leaves all eight.

elsewhere : (step k : ℕ) → has_wait step ≡ false → has_wait k ≡ true → (step == k) ≡ false
elsewhere step k h w = cases (step == k) (λ t. true_false (sym w ∙ ap has_wait (sym (eqb-true step k t)) ∙ h)) (λ t. t)

all_stay : (w : Waits) (step ticks : ℕ) → has_wait step ≡ false → noted_of w step ticks ≡ w
unfolding noted_of
all_stay w step ticks h =
    let off : (k : ℕ) → has_wait k ≡ true → (step == k) ≡ false = λ k. elsewhere step k h in
    rw (off 2 refl, off 4 refl, off 7 refl, off 10 refl, off 12 refl, off 15 refl, off 18 refl, off 27 refl)

pub unmet_waits : (t : declared.Ticks) (unmet tick : ℕ) (report : Report) → meets_wait report ≡ false → (after_of t unmet tick report).waits ≡ t.waits
unfolding after_of met_of
unmet_waits t unmet tick (Worked step used) h = all_stay t.waits step _ h
unmet_waits t unmet tick (Waiting step used) h = refl
unmet_waits t unmet tick (Running step used) h = refl
unmet_waits t unmet tick (Failed number step used) h = refl
unmet_waits t unmet tick (Refused number) h = refl

-- A startup that is over keeps its ticks, whatever its last report is.
pub over_keeps : (t : Ticked) (r : Reading) (tick : ℕ) {last : Report} → t.startup.over ≡ Some last → (ticked_of t r tick).ticked.ticks ≡ t.ticks
unfolding ticked_of
over_keeps t r tick e = rw e
