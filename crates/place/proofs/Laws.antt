-- The theorems on what specs/Laws.antt defines. Assumes nothing.
use Rattle.std.specs.Prelude.{ℕ, ◌≡◌, ◌⊎◌, Bool, true, false, cond, not, ◌||◌, Option, None, Some, List, [], ◌∷◌}
use Rattle.std.proofs.Math.Path.{refl}
use Rattle.std.proofs.Common.{sym, ap, ◌∙◌, inl, inr, ⊎_elim}
use Rattle.answer.specs.Tools.{false_true, by_cond}
use Rattle.answer.specs.Answer.{Answer, gives, refuses}
use Rattle.tree.specs.declared.Clocks.{Clocks}
use Rattle.v4x7.specs.declared.ClockRecord.{ClockRecord}
use Rattle.v4x7.specs.Check.{named_of, check_of}
use Rattle.image.specs.declared.Seen.{Seen}
use Rattle.image.specs.declared.Fields.{Fields}
use Rattle.image.specs.Image.{in_width}
use Rattle.startup.specs.declared.steps.Work.{Work}
use Rattle.startup.specs.declared.steps.Work.TheVariants.{Compares}
use Rattle.startup.specs.declared.Reading.{Reading}
use Rattle.startup.specs.declared.Report.{Report}
use Rattle.startup.specs.declared.Report.TheVariants.{Failed, Refused}
use Rattle.startup.specs.declared.Startup.{Startup}
use Rattle.startup.specs.declared.Stepped.{Stepped}
use Rattle.startup.specs.Steps.{write, wait, flash, compare, Entry, entry, listed_of, next_of, work_in, work_of, from, steps}
use Rattle.startup.specs.Call.{seen_of, handed_back, Event, back, wrote, met, waiting, missed, misread, compared, came_to, call_of, comes_to}
use Rattle.startup.specs.Call.{seeing, step_by, step_of}
use Rattle.startup.specs.View.{View, off, none, spent, writes, meets, waits, misses, shows, differs, ends}
use Rattle.startup.proofs.View.{view}
use Rattle.ticks.specs.declared.Ticked.{Ticked}
use Rattle.ticks.specs.Ticks.{after_of, is_over, ticked_of}
use Rattle.ticks.specs.Runs.{Handed, runs, plain, ticked}
use Rattle.place.specs.Place.{leaves_as_it_was, stepped_in, started_in}
use Rattle.place.specs.Laws.{NoneLeaves, in_place}

-- 23 and 28 leave the place as it was; 21 and 22 leave the startup that ended. A refused start leaves it, and answers the number of the refusal.

pub refused_stays : (t : Ticked) (r : Reading) (tick : ℕ) {n : ℕ} → (stepped_in t r tick).report ≡ Refused n → (stepped_in t r tick).place ≡ t
unfolding stepped_in
refused_stays t r tick e = rw e

failed_over : (bad : Bool) (check : Answer ClockRecord) (s : Startup) (r : Reading) (p : Option Report) → s.over ≡ p → {n step used : ℕ} →
    let x = cond bad (handed_back s) (step_by check s r p) in x.report ≡ Failed n step used → x.startup.over ≡ Some (Failed n step used)
failed_over true check s r p q e = cc
failed_over false check s r (Some last) q e = q ∙ ap Some e
failed_over false (refuses n) s r None q e = cc
failed_over false (gives x) s r None q e = by_event (comes_to x.clocks s r) e
  where
    by_event : (v : Event) {n step used : ℕ} → let y = came_to (next_of s.config s.step) s (seeing s r) v in
        y.report ≡ Failed n step used → y.startup.over ≡ Some (Failed n step used)
    by_event back e = cc
    by_event (wrote g) e = cc
    by_event met e = cc
    by_event waiting e = cc
    by_event missed e = ap Some e
    by_event misread e = ap Some e
    by_event (compared true) e = cc
    by_event (compared false) e = cc

pub failed_ends : (t : Ticked) (r : Reading) (tick : ℕ) {n step used : ℕ} → (stepped_in t r tick).report ≡ Failed n step used →
    ((stepped_in t r tick).place ≡ (ticked_of t r tick).ticked) × ((stepped_in t r tick).place.startup.over ≡ Some (Failed n step used))
unfolding stepped_in ticked_of step_of
failed_ends t r tick e =
    let s = t.startup in
    let bad = not (named_of s.config) || not (in_width s.fields) in
    let place : (stepped_in t r tick).place ≡ (ticked_of t r tick).ticked = rw e in
    (place, ap (λ (u : Ticked). u.startup.over) place ∙ failed_over bad (check_of s.config) s r s.over refl e)

pub start_refused : (t : Ticked) (n : ℕ) → ((started_in t (refuses n)).place ≡ t) × ((started_in t (refuses n)).number ≡ n)
start_refused t n = (refl, refl)

-- A call that compares does so whatever the reading is.

compares_any : (l : List Entry) (f : Fields) (a b : Seen) {same : Bool} → work_in l f a ≡ Some (Compares same) → work_in l f b ≡ Some (Compares same)
compares_any [] f a b e = e
compares_any (entry o (write w) ∷ l) f a b e = e
compares_any (entry o (wait p) ∷ l) f a b e = cc
compares_any (entry o (flash m) ∷ l) f a b e = e
compares_any (entry o (compare t) ∷ l) f a b e = e

says : {limit : ℕ} {s : Startup} {listed same : Bool} {w : Option Work} {e : Event} → View limit s listed w e → e ≡ compared same → w ≡ Some (Compares same)
says (off t) e = cc
says none e = cc
says (spent t) e = cc
says (writes h) e = cc
says (meets h k t) e = cc
says (waits h k t) e = cc
says (misses h k t) e = cc
says (shows h) e = cc
says (differs h) e = cc
says (ends h) e = cc

compared_any : (x : Clocks) (s : Startup) (r r' : Reading) {same : Bool} → comes_to x s r ≡ compared same → comes_to x s r' ≡ compared same
unfolding work_of call_of
compared_any x s r r' e =
    let listed = listed_of s.config s.step in
    let l = from s.step (steps s.config x) in
    let here = says (view 1000000 s r listed (work_in l s.fields (seen_of r))) e in
    let there = compares_any l s.fields (seen_of r) (seen_of r') here in
    ap (call_of 1000000 s r' listed) there ∙ ap (call_of 1000000 s r listed) (sym here) ∙ e

-- An answer that leaves the place as it was is 28, or 23 of a comparison.
leaving : (next : ℕ) (s : Startup) (f : Fields) (e : Event) → leaves_as_it_was (came_to next s f e).report ≡ true → (e ≡ back) ⊎ (e ≡ compared false)
leaving next s f back h = inl refl
leaving next s f (wrote g) h = false_true h
leaving next s f met h = false_true h
leaving next s f waiting h = false_true h
leaving next s f missed h = false_true h
leaving next s f misread h = false_true h
leaving next s f (compared true) h = false_true h
leaving next s f (compared false) h = inr refl

-- After it the startup by value answers any reading as before.
abbrev Again : Startup → Stepped → Type 0
Again s x = leaves_as_it_was x.report ≡ true → (r : Reading) → step_of x.startup r ≡ step_of s r

module _ (s : Startup) where
  abbrev bad_code : Bool
  bad_code = not (named_of s.config) || not (in_width s.fields)

  module _ (code : bad_code ≡ false) (going : s.over ≡ None) {x : ClockRecord} (check : check_of s.config ≡ gives x) where
    abbrev comes : Reading → Event → Stepped
    comes r e = came_to (next_of s.config s.step) s (seeing s r) e

    calls : (r : Reading) → step_of s r ≡ comes r (comes_to x.clocks s r)
    unfolding step_of
    calls r = rw (code, going, check)

    -- once over with 23, it repeats 23
    repeats : (r r' : Reading) → step_of (comes r (compared false)).startup r' ≡ comes r (compared false)
    unfolding step_of
    repeats r r' = rw code

    going_again : (r : Reading) → Again s (comes r (comes_to x.clocks s r))
    going_again r h r' =
        ⊎_elim (λ e. ap (λ (e : Event). step_of (comes r e).startup r') e)
        (λ e. ap (λ (e : Event). step_of (comes r e).startup r') e ∙ repeats r r' ∙
        sym (calls r' ∙ ap (comes r') (compared_any x.clocks s r r' e)))
        (leaving (next_of s.config s.step) s (seeing s r) (comes_to x.clocks s r) h)

  again_by : (r : Reading) (test : Bool) → bad_code ≡ test → (check : Answer ClockRecord) → check_of s.config ≡ check →
      (p : Option Report) → s.over ≡ p → Again s (cond test (handed_back s) (step_by check s r p))
  again_by r true code check c p ph h r' = refl
  again_by r false code (refuses n) c None ph h r' = refl
  again_by r false code (gives x) c None ph h r' = going_again code ph c r h r'
  again_by r false code check c (Some last) ph h r' = refl

  pub again : (r : Reading) → Again s (step_of s r)
  unfolding step_of
  again r = again_by r bad_code refl (check_of s.config) refl s.over refl

-- The answers in the place are the answers by value, of any place and any calls.

answers_by : (t : Ticked) (h : Handed) (l : List Handed) → ((t : Ticked) → (runs in_place t l).1 ≡ (runs plain t.startup l).1) →
    (b : Bool) → leaves_as_it_was (step_of t.startup h.0).report ≡ b →
    (runs in_place (cond b t (ticked_of t h.0 h.1).ticked) l).1 ≡ (runs plain (step_of t.startup h.0).startup l).1
unfolding ticked_of
answers_by t h l ih false e = ih (ticked_of t h.0 h.1).ticked
answers_by t h [] ih true e = refl
answers_by t h (h' ∷ l) ih true e =
    ih t ∙ ap (λ (x : Stepped). x.report ∷ (runs plain x.startup l).1) (sym (again t.startup h.0 e h'.0))

pub same_answers : (t : Ticked) (l : List Handed) → (runs in_place t l).1 ≡ (runs plain t.startup l).1
unfolding stepped_in ticked_of
same_answers t [] = refl
same_answers t (h ∷ l) =
    let report = (step_of t.startup h.0).report in
    ap (λ (rest : List Report). report ∷ rest) (answers_by t h l (λ t. same_answers t l) (leaves_as_it_was report) refl)

pub same_place : (t : Ticked) (l : List Handed) → NoneLeaves (runs plain t.startup l).1 → runs in_place t l ≡ runs ticked t l
unfolding stepped_in ticked_of
same_place t [] n = refl
same_place t (h ∷ l) n =
    let x = ticked_of t h.0 h.1 in
    let next : Ticked → Ticked × List Report = λ t. ((runs in_place t l).0, x.report ∷ (runs in_place t l).1) in
    ap (λ (b : Bool). next (cond b t x.ticked)) n.0 ∙
    ap (λ (rest : Ticked × List Report). (rest.0, x.report ∷ rest.1)) (same_place x.ticked l n.1)

-- A startup that is over stays in its place as it is, and its ticks too, whatever its last report is; also where a code is bad (28).

-- what a call that comes to x leaves, of a startup with the last report p, or none
abbrev left_by : Ticked → ℕ → Option Report → Stepped → Ticked
left_by t tick p x =
    let ticks = cond (is_over p) t.ticks (after_of t.ticks t.startup.unmet tick x.report) in
    cond (leaves_as_it_was x.report) t (record { startup = x.startup; ticks = ticks })

last_left : (t : Ticked) (tick : ℕ) (last : Report) (bad : Bool) →
    left_by t tick (Some last) (cond bad (handed_back t.startup) (record { startup = t.startup; report = last })) ≡ t
last_left t tick last true = refl
last_left t tick last false = by_cond (λ (x : Ticked). x ≡ t) (leaves_as_it_was last) t t (λ e. refl) (λ e. refl)

pub over_stays : (t : Ticked) (last : Report) → t.startup.over ≡ Some last → (r : Reading) (tick : ℕ) → (stepped_in t r tick).place ≡ t
unfolding stepped_in ticked_of step_of
over_stays t last e r tick =
    let s = t.startup in
    ap (λ (p : Option Report). left_by t tick p (cond (bad_code s) (handed_back s) (step_by (check_of s.config) s r p))) e ∙ last_left t tick last (bad_code s)
