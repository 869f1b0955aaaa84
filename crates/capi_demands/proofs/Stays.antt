-- What starting gives can be stored, and a call keeps that.
-- Assumes nothing.
use Rattle.std.specs.Prelude.{Option, None, Some}
use Prim.Native.Nat.{ℕ, suc, ◌+◌, ◌≤◌, ◌<◌}
use mathlib.Core.Path.{◌≡◌, refl, subst}
use mathlib.Core.Logic.{inl, inr}
use mathlib.Core.Bool.{Bool, true, false, cond, not, ◌||◌}
use mathlib.Core.List.{List, [], ◌∷◌}
use native.Mathlib.Omega.{arith}
use lib.Dec.{lit<}
use lib.ListN.{length, drop, length-drop}
use Rattle.answer.specs.Answer.{Answer, gives, refuses, ◌>>◌, followed, passed, same_given}
use Rattle.answer.specs.Tools.{by_cond}
use Rattle.v4x7.specs.declared.Config.{Config}
use Rattle.v4x7.specs.declared.ClockRecord.{ClockRecord}
use Rattle.v4x7.specs.Check.{named_of, check_of}
use Rattle.image.specs.declared.Fields.{Fields}
use Rattle.image.specs.Image.{in_width}
use Rattle.startup.specs.declared.Report.{Report}
use Rattle.startup.specs.Steps.{parts, step_after, listed_of, next_of, work_of}
use Rattle.startup.specs.declared.steps.Work.{Work}
use Rattle.startup.specs.declared.Reading.{Reading}
use Rattle.startup.specs.declared.Startup.{Startup}
use Rattle.startup.specs.Call.{seen_of, going, handed_back, Event, compared, came_to, seeing, step_by, start_of, step_of}
use Rattle.startup.specs.View.{View, off, none, spent, writes, meets, waits, misses, shows, differs, ends}
use Rattle.startup.proofs.View.{view}
use Rattle.ticks.specs.declared.Ticks.{Ticks}
use Rattle.ticks.specs.declared.Ticked.{Ticked}
use Rattle.ticks.specs.Ticks.{after_of, begun_with, is_over, ticked_of}
use Rattle.place.specs.Place.{leaves_as_it_was, stepped_in}
use Rattle.capi_demands.specs.Place.{Word, Storable, StartsStorable, StaysStorable}
use Rattle.capi_demands.proofs.Numbers.{Small, after_small}

-- a byte's step is followed by a byte's step
after_le : (k : ℕ) (l : List Bool) → step_after k l ≤ k + length l
after_le k [] = omega arith
after_le k (true ∷ l) = omega arith
after_le k (false ∷ l) = let h = after_le (suc k) l in omega arith

next_byte : (c : Config) (k : ℕ) → k < 256 → next_of c k < 256
unfolding next_of
next_byte c k h = omega (arith, after_le k (drop k (parts c)), length-drop k (parts c))

-- With small ticks beside it:
module _ (k : Ticks) (ticks : Small k) where
  abbrev Stored : Startup → Type 0
  Stored s = Storable (record { startup = s; ticks = k })

  -- a startup of small numbers that is going,
  small : (c : Config) (f : Fields) (step m u : ℕ) → step < 256 → m ≤ 1000000 → u ≤ 8000002 → Stored (going c f step m u)
  small c f step m u a b d =
      record { step = a; unmet = omega arith; used = omega arith; phase = tt; first = ticks.0; waits = ticks.1 }

  -- and what a call makes of a startup that can be stored.
  module _ (s : Startup) (st : Stored s) where
    compared_so : (next : ℕ) (f : Fields) (same : Bool) → Stored (came_to next s f (compared same)).startup
    compared_so next f true =
        record { step = st.step; unmet = st.unmet; used = st.used; phase = (refl, refl); first = ticks.0; waits = ticks.1 }
    compared_so next f false =
        record { step = st.step; unmet = st.unmet; used = st.used; phase = refl; first = ticks.0; waits = ticks.1 }

    -- by what it comes to
    came : (next : ℕ) (f : Fields) {listed : Bool} {w : Option Work} {e : Event} → next < 256 → View 1000000 s listed w e →
        Stored (came_to next s f e).startup
    came next f n (off t) = st
    came next f n none = st
    came next f n (spent t) = st
    came next f n (writes h) = small s.config _ next 0 s.used n (omega arith) (omega arith)
    came next f n (meets h few t) = small s.config f next 0 (s.used + 1) n (omega arith) (omega arith)
    came next f n (waits h few t) = small s.config f s.step (s.unmet + 1) (s.used + 1) st.step (omega arith) (omega arith)
    came next f n (misses h few t) =
        record { step = st.step; unmet = omega arith; used = omega arith; phase = (inl refl, refl, refl); first = ticks.0; waits = ticks.1 }
    came next f n (shows h) = small s.config f next 0 (s.used + 1) n (omega arith) (omega arith)
    came next f n (differs h) =
        record { step = st.step; unmet = st.unmet; used = omega arith; phase = (inr refl, refl, refl); first = ticks.0; waits = ticks.1 }
    came next f n (ends {same} h) = compared_so next f same

    by_phase : (b : Bool) (a : Answer ClockRecord) (r : Reading) (h : Option Report) → Stored (cond b (handed_back s) (step_by a s r h)).startup
    by_phase true a r h = st
    by_phase false a r (Some last) = st
    by_phase false (refuses n) r None = st
    by_phase false (gives x) r None =
        let work = work_of s.config x.clocks s.step s.fields (seen_of r) in
        came (next_of s.config s.step) (seeing s r) (next_byte s.config s.step st.step)
        (view 1000000 s r (listed_of s.config s.step) work)

    stored_step : (r : Reading) → Stored (step_of s r).startup
    unfolding step_of
    stored_step r = by_phase (not (named_of s.config) || not (in_width s.fields)) (check_of s.config) r s.over

pub starts_storable : StartsStorable
unfolding start_of
starts_storable c f s e =
    let b = going c f 1 0 0 in
    let p = passed 28 (not (in_width f)) (◌>>◌ (check_of c) (gives b)) e in
    let o : b ≡ s = same_given (followed (check_of c) (gives b) p.after).after in
    let zero : Word 0 = lit< tt in
    subst (λ (s : Startup). Storable (begun_with s)) o
    (small (begun_with b).ticks (zero, (zero, zero, zero, zero, zero, zero, zero, zero)) c f 1 0 0 (lit< tt) (omega arith) (omega arith))

-- by value
pub ticked_storable : (t : Ticked) (r : Reading) (tick : ℕ) → Word tick → Storable t → Storable (ticked_of t r tick).ticked
unfolding ticked_of
ticked_storable t r tick h st =
    let s = t.startup in
    let noted = after_of t.ticks s.unmet tick (step_of s r).report in
    let small : Small t.ticks = (st.first, st.waits) in
    let ticks =
    by_cond Small (is_over s.over) t.ticks noted (λ e. small) (λ e. after_small t.ticks s.unmet tick (step_of s r).report small h) in
    stored_step (cond (is_over s.over) t.ticks noted) ticks s
    (record { step = st.step; unmet = st.unmet; used = st.used; phase = st.phase; first = ticks.0; waits = ticks.1 }) r

pub stays_storable : StaysStorable
unfolding stepped_in
stays_storable t r tick h st =
    let x = ticked_of t r tick in
    by_cond Storable (leaves_as_it_was x.report) t x.ticked (λ e. st) (λ e. ticked_storable t r tick h st)
