-- The theorems on what specs/View.antt defines. Assumes nothing.
use Rattle.std.specs.Prelude.{ℕ, ◌+◌, ◌≤◌, ◌≡◌, refl, Bool, true, false, cond, not, ◌||◌, Option, None, Some, eqb, leb}
use Rattle.std.proofs.Common.{arith, ltb-true, ltb-false, leb-true, leb-false}
use Rattle.std.proofs.Math.Dec.{ltb}
use Rattle.answer.specs.Tools.{neither}
use Rattle.startup.specs.declared.steps.Work.{Work}
use Rattle.startup.specs.declared.steps.Work.TheVariants.{Wrote, Waits, Reads, Compares}
use Rattle.startup.specs.declared.Reading.{Reading}
use Rattle.startup.specs.declared.Startup.{Startup}
use Rattle.startup.specs.Call.{mode_read, Event, event_of, call_of}
use Rattle.startup.specs.View.{View, differs, ends, meets, misses, none, off, shows, spent, waits, writes}

by_cond : (P : Event → Type 0) (b : Bool) {x y : Event} → (b ≡ true → P x) → (b ≡ false → P y) → P (cond b x y)
by_cond P true p q = p refl
by_cond P false p q = q refl

module _ (limit : ℕ) (s : Startup) (r : Reading) (listed : Bool) where
  of_work : (w : Option Work) → s.used ≤ 8000001 → View limit s listed w (event_of limit s r w)
  of_work (Some (Wrote f)) h = writes h
  of_work (Some (Waits ok)) h =
      let Of : Event → Type 0 = View limit s listed (Some (Waits ok)) in
      by_cond Of (leb limit s.unmet) (λ t. spent (leb-true _ _ t))
      (λ t. let few = leb-false limit s.unmet t in
      by_cond Of ok (λ e. meets h few e)
      (λ e. by_cond Of (ltb (s.unmet + 1) limit) (λ b. waits h (ltb-true _ _ b) e)
      (λ b. let most = ltb-false (s.unmet + 1) limit b in misses h (omega arith) e)))
  of_work (Some (Reads mode)) h = by_cond (View limit s listed (Some (Reads mode))) (eqb (mode_read r) mode) (λ t. shows h) (λ t. differs h)
  of_work (Some (Compares same)) h = ends h
  of_work None h = none

  pub view : (w : Option Work) → View limit s listed w (call_of limit s r listed w)
  unfolding call_of
  view w =
      by_cond (View limit s listed w) (not listed || ltb 8000001 s.used) (λ t. off t)
      (λ t. of_work w (ltb-false 8000001 s.used (neither (not listed) (ltb 8000001 s.used) t).1))
