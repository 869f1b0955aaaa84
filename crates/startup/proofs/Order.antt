-- The theorems on what specs/Order.antt defines. Assumes nothing.
use Rattle.std.specs.Prelude.{ℕ, ◌+◌, ◌*◌, ◌≡◌, refl, Bool, true, false, cond, not, ◌&&◌, ◌||◌, Option, None, Some, List, [], ◌∷◌, ◌++◌, eqb, ltb, leb, drop}
use Rattle.std.proofs.Common.{ap, ◌∙◌}
use Rattle.answer.specs.Answer.{Answer, gives, refuses}
use Rattle.answer.specs.Order.{Test, first_of, bare, InOrder, order_past, order_gives, order_bind, order_then}
use Rattle.v4x7.specs.declared.Config.{Config}
use Rattle.v4x7.specs.declared.ClockRecord.{ClockRecord}
use Rattle.v4x7.specs.Check.{named_of, check_of}
use Rattle.image.specs.declared.Fields.{Fields}
use Rattle.image.specs.Image.{in_width}
use Rattle.startup.specs.Steps.{listed_of, next_of, work_of}
use Rattle.startup.specs.declared.steps.Work.{Work}
use Rattle.startup.specs.declared.steps.Work.TheVariants.{Wrote, Waits, Reads, Compares}
use Rattle.startup.specs.declared.Reading.{Reading}
use Rattle.startup.specs.declared.Report.{Report}
use Rattle.startup.specs.declared.Startup.{Startup}
use Rattle.startup.specs.declared.Stepped.{Stepped}
use Rattle.startup.specs.Call.{seen_of, mode_read, handed_back, back, met, waiting, missed, misread, compared, came_to, event_of, call_of, seeing, step_by, step_of}
use Rattle.startup.specs.Call.{going, start_of, waits_owed_of, call_bound_of}
use Rattle.startup.specs.Order.{owed_tests, start_tests, step_tests, told_by, work_tests}

module _ (next : ℕ) (s : Startup) (r : Reading) (f : Fields) where
  of_wait : (spent ok more : Bool) →
      told_by (came_to next s f (cond spent back (cond ok met (cond more waiting missed)))).report ≡
      first_of ((28, spent) ∷ (21, not ok && not more) ∷ [])
  of_wait true ok more = refl
  of_wait false true more = refl
  of_wait false false true = refl
  of_wait false false false = refl

  of_flash : (right : Bool) → told_by (came_to next s f (cond right met misread)).report ≡ first_of ((22, not right) ∷ [])
  of_flash true = refl
  of_flash false = refl

  of_compare : (same : Bool) → told_by (came_to next s f (compared same)).report ≡ first_of ((23, not same) ∷ [])
  of_compare true = refl
  of_compare false = refl

  of_work : (w : Option Work) → told_by (came_to next s f (event_of 1000000 s r w)).report ≡ first_of (drop 2 (work_tests s r true w))
  of_work (Some (Wrote g)) = refl
  of_work (Some (Waits ok)) = of_wait (leb 1000000 s.unmet) ok (ltb (s.unmet + 1) 1000000)
  of_work (Some (Reads mode)) = of_flash (eqb (mode_read r) mode)
  of_work (Some (Compares same)) = of_compare same
  of_work None = refl

  by_tests : (listed many : Bool) (w : Option Work) →
      told_by (came_to next s f (cond (not listed || many) back (event_of 1000000 s r w))).report ≡
      first_of ((28, not listed) ∷ (28, many) ∷ drop 2 (work_tests s r true w))
  by_tests false many w = refl
  by_tests true true w = refl
  by_tests true false w = of_work w

-- the codes before anything else
codes_first : (s : Startup) (x : Stepped) (l : List Test) (named width : Bool) → told_by x.report ≡ first_of l →
    told_by (cond (not named || not width) (handed_back s) x).report ≡ first_of ((28, not named) ∷ (28, not width) ∷ l)
codes_first s x l false width h = refl
codes_first s x l true false h = refl
codes_first s x l true true h = h

-- a call of a startup that is not over, by the check's answer
by_check : (s : Startup) (r : Reading) (a : Answer ClockRecord) → s.over ≡ None → check_of s.config ≡ a →
    step_of s r ≡ cond (not (named_of s.config) || not (in_width s.fields)) (handed_back s) (step_by a s r None)
unfolding step_of
by_check s r a e q =
    let by : Answer ClockRecord → Option Report → Stepped = λ b h. cond (not (named_of s.config) || not (in_width s.fields)) (handed_back s) (step_by b s r h) in
    ap (by (check_of s.config)) e ∙ ap (λ (b : Answer ClockRecord). by b None) q

pub step_in_order : (s : Startup) (r : Reading) {x : ClockRecord} → s.over ≡ None → check_of s.config ≡ gives x →
    told_by (step_of s r).report ≡ first_of (step_tests x.clocks s r)
unfolding call_of
step_in_order s r {x} e q =
    let work = work_of s.config x.clocks s.step s.fields (seen_of r) in
    let on = listed_of s.config s.step in
    ap (λ (y : Stepped). told_by y.report) (by_check s r (gives x) e q) ∙
    codes_first s (step_by (gives x) s r None) (work_tests s r on work) (named_of s.config) (in_width s.fields)
    (by_tests (next_of s.config s.step) s r (seeing s r) on (ltb 8000001 s.used) work)

-- its configuration is not accepted: 28
either : {s : Startup} (b : Bool) → cond b (handed_back s) (handed_back s) ≡ handed_back s
either true = refl
either false = refl

pub unaccepted_28 : (s : Startup) (r : Reading) {n : ℕ} → s.over ≡ None → check_of s.config ≡ refuses n → step_of s r ≡ handed_back s
unaccepted_28 s r {n} e q = by_check s r (refuses n) e q ∙ either (not (named_of s.config) || not (in_width s.fields))

pub append_none : (l : List Test) → first_of (l ++ []) ≡ first_of l
append_none [] = refl
append_none ((n, true) ∷ l) = refl
append_none ((n, false) ∷ l) = append_none l

pub start_goes : (c : Config) (earlier : Fields) {check : List Test} → InOrder check (check_of c) → InOrder (start_tests check earlier) (start_of c earlier)
unfolding start_of
start_goes c earlier {check} h =
    order_past 28 (not (in_width earlier)) (λ e. record { goes = (order_then (check_of c) {p = gives (going c earlier 1 0 0)} h (λ x q. order_gives)).goes ∙ append_none check })

pub owed_goes : (c : Config) → InOrder (owed_tests c) (waits_owed_of c)
unfolding waits_owed_of
owed_goes c = order_past 28 (not (named_of c)) (λ e. order_gives)

pub waits_in_order : (c : Config) → bare (waits_owed_of c) ≡ first_of (owed_tests c)
waits_in_order c = (owed_goes c).goes

pub calls_goes : (c : Config) → InOrder (owed_tests c) (call_bound_of c)
unfolding call_bound_of
calls_goes c = order_bind (waits_owed_of c) {f = λ waits. gives (1000000 * waits + 20)} (owed_goes c) (λ n e. order_gives)

pub calls_in_order : (c : Config) → bare (call_bound_of c) ≡ first_of (owed_tests c)
calls_in_order c = (calls_goes c).goes
