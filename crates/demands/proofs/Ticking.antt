-- The ticks of the eight waits, for any list of steps and any limit: after any calls they are those that the readings and ticks say, and no call is
-- refused meanwhile.
-- Assumes nothing.
use Prim.Native.Nat.{ℕ, zero, suc, ◌+◌, ◌≤◌, ◌<◌}
use mathlib.Core.Path.{◌≡◌, refl, sym, ap, ◌∙◌, subst}
use mathlib.Core.Bool.{Bool, true, false, cond}
use mathlib.Core.List.{List, [], ◌∷◌}
use native.Mathlib.Nat.{zero-add}
use native.Mathlib.Omega.{arith}
use borrow.Author.Tests.{eqb-true, ne_eqb, lt-leb}
use lib.Dec.{eqb, leb}
use lib.ListN.{drop}
use Rattle.answer.specs.Tools.{false_true, cases, by_cond}
use Rattle.image.specs.declared.Seen.{Seen}
use Rattle.image.specs.declared.Fields.{Fields}
use Rattle.v4x7.specs.declared.Config.{Config}
use Rattle.startup.specs.Writes.{with_seen}
use Rattle.startup.specs.Steps.{Op, write, wait, flash, compare, Entry, entry, present, step_after}
use Rattle.startup.specs.declared.Report.{Report}
use Rattle.startup.specs.Call.{seen_of, mode_read, going, wrote, met, waiting, missed, misread, compared}
use Rattle.ticks.specs.declared.Waits.{Waits}
use Rattle.ticks.specs.declared.Ticked.{Ticked}
use Rattle.ticks.specs.Ticks.{spent_of, waits_by, noted_of, met_of, after_of, begun_with}
use Rattle.ticks.specs.Runs.{Handed, runs}
use Rattle.place.specs.Laws.{NoneLeaves}
use Rattle.demands.specs.Runs.{most_readings}
use Rattle.demands.specs.Placed.{Waited, met_at, not_met, waited, first_tick, ticks_from, calls_behind, ticks_of_step}
use Rattle.demands.proofs.Machine.{machine, behind, meets, waits_on, misses}
use Rattle.demands.proofs.Walk.{Always}
use Rattle.demands.proofs.Noting.{ticked_by, Spot, Holds, AtEach, each_holds, each_from, each_is}
use Rattle.demands.proofs.Noting.{summed, past, Fresh, stays_fresh, skipped, stopped, at, Leads, works_to, ends_at}

-- a wait is there
abbrev is_wait : List Entry → Bool
is_wait [] = false
is_wait (entry b (write w) ∷ l) = false
is_wait (entry b (wait p) ∷ l) = true
is_wait (entry b (flash m) ∷ l) = false
is_wait (entry b (compare t) ∷ l) = false

-- One of the waits, at step k.
module _ (c : Config) (P : List Entry) (M : ℕ) (Q : ℕ → Fields → Type 0) (spot : Spot) (holds : Holds spot)
    (has-wait : is_wait (drop spot.before P) ≡ true) where
  abbrev L : ℕ
  L = suc M

  abbrev k : ℕ
  k = suc spot.before

  abbrev look : Waits → ℕ
  look = spot.look

  abbrev Lead : Ticked → List Handed → ℕ → Type 0
  Lead = Leads c P M spot

  abbrev from : Fields → ℕ → ℕ → ℕ → ℕ → Waits → Ticked
  from = at c P M spot

  -- its ticks behind step j + 1
  abbrev rest : ℕ → List Entry → List Handed → ℕ
  rest j l cs = ticks_of_step L l (suc (suc j)) cs k

  -- From the list l behind step j on, whatever the fields, the calls and the ticks noted so far.
  abbrev Walks : List Entry → ℕ → Type 0
  Walks l j =
      (u : ℕ) (f : Fields) (first : ℕ) (w : Waits) (cs : List Handed) → Always Q (suc j) l f → u + most_readings L l ≤ 8000001 → Fresh k j (look w) →
      Lead (from f (step_after j (present l)) 0 u first w) cs (cond (leb k j) (look w) (ticks_of_step L l (suc j) cs k))

  -- the list behind step j + 1, n ticks being noted at it
  onward : (j : ℕ) (l : List Entry) → Walks l (suc j) → (u : ℕ) (f : Fields) (first : ℕ) (w w' : Waits) (n : ℕ) (cs : List Handed) →
      look w' ≡ cond (eqb (suc j) k) n (look w) → Always Q (suc (suc j)) l f → u + most_readings L l ≤ 8000001 → Fresh k j (look w) →
      Lead (from f (step_after (suc j) (present l)) 0 u first w') cs (summed k j (look w) n (rest j l cs))
  onward j l ih u f first w w' n cs e al h fresh =
      let ran = ih u f first w' cs al h (subst (Fresh k (suc j)) (sym e) (stays_fresh k j (look w) n fresh)) in
      (ran.0, ran.1 ∙ ap (λ (v : ℕ). cond (leb k (suc j)) v (rest j l cs)) e ∙ past k j (look w) n (rest j l cs))

  -- A wait: `first` is the tick of its first reading, which is this one if there is no unmet one.
  module _ (j : ℕ) (p : Seen → Bool) (l : List Entry) (d : drop j P ≡ entry true (wait p) ∷ l) (ih : Walks l (suc j)) where
    abbrev by : ℕ → ℕ → Waited → ℕ
    by v first x = summed k j v (ticks_from first x) (rest j l (calls_behind x))

    -- one call
    module _ (q : ℕ) (h : Handed) (cs : List Handed) (u : ℕ) (f : Fields) (kept first : ℕ) (w : Waits) (a : cond (eqb q 0) h.1 kept ≡ first)
        (b : u ≤ 8000001) (fresh : Fresh k j (look w)) where
      abbrev seen : Fields
      seen = with_seen f (seen_of h.0)

      abbrev Comes : Waited → Type 0
      Comes x = Lead (from f (suc j) q u kept w) (h ∷ cs) (by (look w) first x)

      met_now : q < L → u + 1 + most_readings L l ≤ 8000001 → p (seen_of h.0) ≡ true → Always Q (suc (suc j)) l seen → Comes (met_at h.1 cs)
      unfolding after_of met_of
      met_now few room t al =
          let spent = spent_of (cond (eqb q 0) h.1 kept) h.1 in
          works_to c P M spot j (wait p) l d f q u kept w h cs b met (meets L q few t) (by (look w) first (met_at h.1 cs)) refl
          (onward j l ih (u + 1) seen kept w (noted_of w (suc j) spent) (spent_of first h.1) cs
          (holds.noted w (suc j) spent ∙ ap (λ (z : ℕ). cond (eqb (suc j) k) (spent_of z h.1) (look w)) a) al room fresh)

      missed_now : q + 1 ≡ L → p (seen_of h.0) ≡ false → Comes not_met
      unfolding after_of
      missed_now last t = ends_at c P M spot j (wait p) l d f q u kept w h cs b missed (misses L q last t) refl (refl, λ t x y. refl) fresh

      one_more : q + 1 < L → p (seen_of h.0) ≡ false → (x : Waited) →
          Lead (from seen (suc j) (q + 1) (u + 1) (cond (eqb q 0) h.1 kept) w) cs (by (look w) first x) → Comes x
      unfolding after_of
      one_more few t x = works_to c P M spot j (wait p) l d f q u kept w h cs b waiting (waits_on L q few t) (by (look w) first x) refl

    -- any calls, with m + 1 readings left to it and q unmet
    waits : (m q : ℕ) (cs : List Handed) (u : ℕ) (f : Fields) (kept first : ℕ) (w : Waits) → q + suc m ≡ L →
        cond (eqb q 0) (first_tick cs) kept ≡ first → Always Q (suc j) (entry true (wait p) ∷ l) f → u + suc m + most_readings L l ≤ 8000001 →
        Fresh k j (look w) → Lead (from f (suc j) q u kept w) cs (by (look w) first (waited p (suc m) cs))
    waits m q [] u f kept first w g a al b fresh = (tt, stopped k M (entry true (wait p) ∷ l) j (look w) fresh)
    waits zero q (h ∷ cs) u f kept first w g a al b fresh =
        by_cond (Comes q h cs u f kept first w a (omega arith) fresh) (p (seen_of h.0)) (met_at h.1 cs) not_met
        (λ t. met_now q h cs u f kept first w a (omega arith) fresh (omega arith) (omega arith) t (al h.0 t))
        (λ t. missed_now q h cs u f kept first w a (omega arith) fresh g t)
    waits (suc m) q (h ∷ cs) u f kept first w g a al b fresh =
        by_cond (Comes q h cs u f kept first w a (omega arith) fresh) (p (seen_of h.0)) (met_at h.1 cs) (waited p (suc m) cs)
        (λ t. met_now q h cs u f kept first w a (omega arith) fresh (omega arith) (omega arith) t (al h.0 t))
        (λ t. one_more q h cs u f kept first w a (omega arith) fresh (omega arith) t (waited p (suc m) cs)
        (waits m (q + 1) cs (u + 1) (with_seen f (seen_of h.0)) (cond (eqb q 0) h.1 kept) first w (omega arith)
        (rw (ne_eqb (q + 1) 0 (λ e. omega arith)) a) al (omega arith) fresh))

  -- A step without a wait notes nothing here.

  not_here : (j : ℕ) (x : List Entry) → drop j P ≡ x → is_wait x ≡ false → eqb (suc j) k ≡ false
  not_here j x d other =
      cases (eqb (suc j) k)
      (λ t. let same : j ≡ spot.before = (let e = eqb-true (suc j) k t in omega arith) in
      false_true (sym other ∙ ap is_wait (sym d) ∙ ap (λ (j : ℕ). is_wait (drop j P)) same ∙ has-wait)) (λ t. t)

  unnoted : (j n : ℕ) (x : List Entry) (w : Waits) → drop j P ≡ x → is_wait x ≡ false → look (noted_of w (suc j) n) ≡ cond (eqb (suc j) k) 0 (look w)
  unnoted j n x w d other =
      let off = not_here j x d other in
      holds.noted w (suc j) n ∙ ap (λ (b : Bool). cond b n (look w)) off ∙ sym (ap (λ (b : Bool). cond b 0 (look w)) off)

  works : (j : ℕ) (o : Op) (l : List Entry) → drop j P ≡ entry true o ∷ l → Walks l (suc j) → (u : ℕ) (f : Fields) (first : ℕ) (w : Waits)
      (h : Handed) (cs : List Handed) → Always Q (suc j) (entry true o ∷ l) f → u + most_readings L (entry true o ∷ l) ≤ 8000001 → Fresh k j (look w) →
      Lead (from f (suc j) 0 u first w) (h ∷ cs) (cond (leb k j) (look w) (ticks_of_step L (entry true o ∷ l) (suc j) (h ∷ cs) k))
  unfolding after_of met_of
  works j (write a) l d ih u f first w h cs al b fresh =
      let spent = spent_of h.1 h.1 in
      works_to c P M spot j (write a) l d f 0 u first w h cs (omega arith) (wrote (a f)) refl (summed k j (look w) 0 (rest j l cs)) refl
      (onward j l ih u (a f) first w (noted_of w (suc j) spent) 0 cs (unnoted j spent (entry true (write a) ∷ l) w d refl) al (omega arith) fresh)
  works j (wait p) l d ih u f first w h cs al b fresh =
      waits j p l d ih M 0 (h ∷ cs) u f first h.1 w (zero-add L) refl al (omega arith) fresh
  works j (flash m) l d ih u f first w h cs al b fresh =
      let spent = spent_of h.1 h.1 in
      let after : List Handed → ℕ = λ left. summed k j (look w) 0 (rest j l left) in
      by_cond (λ (left : List Handed). Lead (from f (suc j) 0 u first w) (h ∷ cs) (after left)) (eqb (mode_read h.0) m) cs []
      (λ t. works_to c P M spot j (flash m) l d f 0 u first w h cs (omega arith) met (rw t) (after cs) refl
      (onward j l ih (u + 1) (with_seen f (seen_of h.0)) first w (noted_of w (suc j) spent) 0 cs
      (unnoted j spent (entry true (flash m) ∷ l) w d refl) (al h.0) (omega arith) fresh))
      (λ t. ends_at c P M spot j (flash m) l d f 0 u first w h cs (omega arith) misread (rw t) refl (refl, λ t x y. refl) fresh)
  works j (compare t) l d ih u f first w h cs al b fresh =
      ends_at c P M spot j (compare t) l d f 0 u first w h cs (omega arith) (compared true) (ap compared al.0) refl (refl, λ t x y. refl) fresh

  walk : (l : List Entry) (j : ℕ) → drop j P ≡ l → Walks l j
  walk [] j d u f first w cs al b fresh = absurd al
  walk (entry true o ∷ l) j d u f first w [] al b fresh = (tt, stopped k M (entry true o ∷ l) j (look w) fresh)
  walk (entry true o ∷ l) j d u f first w (h ∷ cs) al b fresh =
      works j o l d (walk l (suc j) (behind j P (entry true o) l d)) u f first w h cs al b fresh
  walk (entry false o ∷ l) j d u f first w cs al b fresh =
      onward j l (walk l (suc j) (behind j P (entry false o) l d)) u f first w w 0 cs (skipped k j (look w) fresh) al (omega arith) fresh

-- The whole list, from its first step on; at each of the eight it has a wait.

abbrev pub HasWaits : List Entry → Type 0
HasWaits P = AtEach (λ s. is_wait (drop s.before P) ≡ true)

module _ (c : Config) (P : List Entry) (M : ℕ) (Q : ℕ → Fields → Type 0) (has : HasWaits P) (f : Fields) (al : Always Q 1 P f)
    (b : 0 + most_readings (suc M) P ≤ 8000001) (cs : List Handed) where
  abbrev ran : Ticked × List Report
  ran = runs (ticked_by (machine P (suc M))) (begun_with (going c f (step_after 0 (present P)) 0 0)) cs

  told : (s : Spot) → Holds s → is_wait (drop s.before P) ≡ true →
      Leads c P M s (begun_with (going c f (step_after 0 (present P)) 0 0)) cs (ticks_of_step (suc M) P 1 cs (suc s.before))
  told s holds here =
      let walked = walk c P M Q s holds here P 0 refl 0 f 0 (waits_by (λ k. 0)) cs al b (λ h. holds.blank) in
      let turn : leb (suc s.before) 0 ≡ false = lt-leb (suc s.before) 0 (omega arith) in
      (walked.0, walked.1 ∙ ap (λ (b : Bool). cond b (s.look (waits_by (λ k. 0))) (ticks_of_step (suc M) P 1 cs (suc s.before))) turn)

  pub ticking : NoneLeaves ran.1 × (ran.0.ticks.waits ≡ waits_by (ticks_of_step (suc M) P 1 cs))
  ticking = (
    (told _ each_holds.0 has.0).0,
    each_is ran.0.ticks.waits (ticks_of_step (suc M) P 1 cs) (each_from (λ s holds here. (told s holds here).1) each_holds has),
  )
