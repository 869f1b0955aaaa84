-- The number that `wontabeli_step` returns is the first of its list; and with one that is neither 0 nor 21 nor 22, all lent bytes are as they were.
-- Assumes nothing.
use Prim.Native.Nat.{ℕ}
use mathlib.Core.Path.{◌≡◌, refl, ap, ◌∙◌, subst}
use mathlib.Core.Logic.{inl, inr}
use mathlib.Core.Bool.{Bool, true, false, cond, ◌||◌}
use mathlib.Core.List.{List, ◌∷◌, ◌++◌}
use lib.Dec.{ltb}
use lib.ListN.{length, take, drop, take-append-drop}
use Rattle.answer.specs.Answer.{Answer, gives, refuses, refuse, ◌>>=◌, ◌>>◌}
use Rattle.answer.specs.Tools.{true_false, neither}
use Rattle.answer.specs.Order.{Test, first_of, bare, InOrder, behind, order_behind}
use Rattle.image.specs.Image.{image_bytes}
use Rattle.startup.specs.declared.Report.{Report}
use Rattle.startup.specs.declared.Report.TheVariants.{Worked, Waiting, Running, Failed, Refused}
use Rattle.startup.specs.declared.Startup.{Startup}
use Rattle.startup.specs.declared.Stepped.{Stepped}
use Rattle.startup.specs.Call.{number_of, step_of}
use Rattle.ticks.specs.Ticks.{is_over}
use Rattle.place.specs.Place.{leaves_as_it_was}
use Rattle.capi_give.specs.Given.{number_in}
use Rattle.capi_startup.specs.Kept.{startup_in}
use Rattle.capi_startup.specs.Calls.{reading_of, call_bytes, step_bytes, number_left, bytes_left, Leaves}
use Rattle.capi_startup.specs.Order.{called_tests}
use Rattle.capi_demands.proofs.Answers.{Known, KnownIn, found_known, call_fair}
use Rattle.capi_demands.proofs.Ended.{call_gives}
use Rattle.capi_demands.proofs.Tested.{first_test}

-- ---- the call of the startup s

-- a number that a call leaves with other bytes
abbrev Other : ℕ → Type 0
Other n = (n ≡ 0 → ⊥) × (n ≡ 21 → ⊥) × (n ≡ 22 → ⊥)

moving : (report : Report) → Known report → leaves_as_it_was report ≡ false → Other (number_of report) → ⊥
moving (Worked step used) k h o = o.0 refl
moving (Waiting step used) k h o = o.0 refl
moving (Running step used) k h o = o.0 refl
moving (Failed n step used) (inl e) h o = o.1 e
moving (Failed n step used) (inr e) h o = o.2 e
moving (Refused n) k h o = true_false h

-- the lent bytes l after an answer of 72 bytes
abbrev LeavesAll : List ℕ → Answer (ℕ × List ℕ) → Type 0
LeavesAll l m = Other (number_left m) → bytes_left l (◌>>=◌ m (λ x. gives (x.0, x.1 ++ drop 72 l))) ≡ l

module _ (l : List ℕ) (s : Startup) (w tick : ℕ) (known : KnownIn s.over) where
  abbrev x : Stepped
  x = step_of s (reading_of w)

  abbrev stays : Bool
  stays = is_over s.over || leaves_as_it_was x.report

  answer_known : Known x.report
  answer_known = (call_fair s (reading_of w) known).0

  called_number : number_left (call_bytes l s w tick) ≡ number_in (first_of (called_tests s (reading_of w)))
  called_number = ap number_left (call_gives l s w tick).1 ∙ first_test s (reading_of w) known

  stays_by : (b : Bool) → stays ≡ b → (image : Answer (List ℕ)) (place : List ℕ → List ℕ) →
      LeavesAll l (cond b (gives (number_of x.report, take 72 l)) (◌>>=◌ image (λ i. gives (number_of x.report, place i))))
  stays_by true e image place o = take-append-drop 72 l
  stays_by false e (gives i) place o =
      absurd (moving x.report answer_known (neither (is_over s.over) (leaves_as_it_was x.report) e).1 o)
  stays_by false e (refuses n) place o = refl

  called_stays : LeavesAll l (call_bytes l s w tick)
  unfolding call_bytes
  called_stays = stays_by stays refl (image_bytes x.startup.fields) _

-- ---- the call on a place

plain : (m : Answer (Unit {0})) → bare m ≡ m
plain (gives u) = refl
plain (refuses n) = refl

pub number_bare : {A : Type 0} (m : Answer A) → number_in m ≡ number_in (bare m)
number_bare (gives x) = refl
number_bare (refuses n) = refl

left_behind : {l : List Test} (m : Answer Startup) (f : Startup → Answer (ℕ × List ℕ)) (k : Startup → List Test) → InOrder l m →
    ((s : Startup) → m ≡ gives s → number_left (f s) ≡ number_in (first_of (k s))) → number_left (◌>>=◌ m f) ≡ number_in (first_of (l ++ behind m k))
left_behind m f k h g =
    by_answer m g ∙ number_bare (◌>>=◌ m (λ s. first_of (k s)))
    ∙ ap number_in (order_behind m {f = λ s. first_of (k s)} h (λ s. record { goes = plain (first_of (k s)) })).goes
  where
    by_answer : (m : Answer Startup) → ((s : Startup) → m ≡ gives s → number_left (f s) ≡ number_in (first_of (k s))) →
        number_left (◌>>=◌ m f) ≡ number_in (◌>>=◌ m (λ s. first_of (k s)))
    by_answer (gives s) g = g s refl
    by_answer (refuses n) g = refl

step_number : (l : List ℕ) (w tick : ℕ) {tests : List Test} → InOrder tests (startup_in l) →
    number_left (step_bytes l w tick) ≡ number_in (first_of (tests ++ behind (startup_in l) (λ s. called_tests s (reading_of w))))
unfolding step_bytes
step_number l w tick h =
    left_behind (startup_in l) (λ s. call_bytes l s w tick) (λ s. called_tests s (reading_of w)) h
    (λ s e. called_number l s w tick (found_known l s e))

step_stays : (l : List ℕ) (w tick : ℕ) → LeavesAll l (step_bytes l w tick)
unfolding step_bytes
step_stays l w tick = by_answer (startup_in l) refl
  where
    by_answer : (m : Answer Startup) → startup_in l ≡ m → LeavesAll l (◌>>=◌ m (λ s. call_bytes l s w tick))
    by_answer (gives s) e o = called_stays l s w tick (found_known l s e) o
    by_answer (refuses n) e o = refl

-- ---- through 72 lent bytes, or fewer

abbrev through : List ℕ → Bool → Answer (ℕ × List ℕ) → Answer (ℕ × List ℕ)
through l short m = ◌>>◌ (refuse 32 short) (◌>>=◌ m (λ y. gives (y.0, y.1 ++ drop 72 l)))

number_through : (l : List ℕ) (short : Bool) (m : Answer (ℕ × List ℕ)) (tests : List Test) → number_left m ≡ number_in (first_of tests) →
    number_left (through l short m) ≡ number_in (first_of ((32, short) ∷ tests))
number_through l true m tests h = refl
number_through l false (gives y) tests h = h
number_through l false (refuses n) tests h = h

stays_through : (l : List ℕ) (short : Bool) (m : Answer (ℕ × List ℕ)) → LeavesAll l m → Other (number_left (through l short m)) →
    bytes_left l (through l short m) ≡ l
stays_through l true m h o = refl
stays_through l false (gives y) h o = h o
stays_through l false (refuses n) h o = refl

pub through_place : (l : List ℕ) (w tick : ℕ) (l' : List ℕ) (r : ℕ) (tests : List Test) → InOrder tests (startup_in l) →
    Leaves 72 (step_bytes l w tick) l l' r →
    (r ≡ number_in (first_of ((32, ltb (length l) 72) ∷ (tests ++ behind (startup_in l) (λ s. called_tests s (reading_of w)))))) ×
    ((r ≡ 0 → ⊥) → (r ≡ 21 → ⊥) → (r ≡ 22 → ⊥) → l' ≡ l)
through_place l w tick l' r tests h g =
    let short = ltb (length l) 72 in
    let m = step_bytes l w tick in
    let all = tests ++ behind (startup_in l) (λ s. called_tests s (reading_of w)) in (
      g.number ∙ number_through l short m all (step_number l w tick h),
      λ a b c. g.lent ∙ stays_through l short m (step_stays l w tick) (subst Other g.number (a, b, c)),
    )
