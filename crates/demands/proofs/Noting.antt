-- Calls with ticks, of the machine alone: what one of them notes of one of the eight waits, and what is noted after the end: nothing.
-- Assumes nothing.
use Rattle.std.specs.Prelude.{Option, Some}
use Prim.Native.Nat.{ℕ, suc, ◌≤◌, ◌<◌}
use mathlib.Core.Path.{◌≡◌, refl, sym, ap, ◌∙◌, subst}
use mathlib.Core.Bool.{true, false, cond}
use mathlib.Core.List.{List, [], ◌∷◌}
use native.Mathlib.Omega.{arith}
use borrow.Author.Tests.{eqb-true, eqb-false, ne_eqb, leb-true, leb-false, le-leb, lt-leb}
use lib.Dec.{eqb, leb}
use lib.ListN.{drop}
use Rattle.answer.specs.Tools.{cases, by_cond}
use Rattle.image.specs.declared.Fields.{Fields}
use Rattle.v4x7.specs.declared.Config.{Config}
use Rattle.startup.specs.Writes.{with_seen}
use Rattle.startup.specs.Steps.{Op, write, wait, flash, compare, Entry, entry, present, step_after, done_of}
use Rattle.startup.specs.declared.Report.{Report}
use Rattle.startup.specs.declared.Stepped.{Stepped}
use Rattle.startup.specs.Call.{seen_of, going, Event, came_to, event_of}
use Rattle.ticks.specs.declared.Waits.{Waits}
use Rattle.ticks.specs.declared.Ticks as declared
use Rattle.ticks.specs.declared.Ticked.{Ticked}
use Rattle.ticks.specs.Ticks.{waits_by, noted_of, after_of, is_over}
use Rattle.ticks.specs.Runs.{Handed, runs}
use Rattle.ticks.specs.Runs as ticks
use Rattle.place.specs.Place.{leaves_as_it_was}
use Rattle.place.specs.Laws.{NoneLeaves}
use Rattle.demands.specs.Runs.{Call}
use Rattle.demands.specs.Placed.{ticks_of_step}
use Rattle.demands.proofs.Machine.{machine, going_or_over, comes_at}

-- A call with its tick, of any call: of a startup whose last report is p, and of its own.

abbrev ticked_in : Option Report → Ticked → ℕ → Stepped → Ticked × Report
ticked_in p t tick x =
    (record { startup = x.startup; ticks = cond (is_over p) t.ticks (after_of t.ticks t.startup.unmet tick x.report) }, x.report)

abbrev pub ticked_to : Ticked → ℕ → Stepped → Ticked × Report
ticked_to t = ticked_in t.startup.over t

abbrev pub ticked_by : Call → ticks.Call Ticked
ticked_by call t h = ticked_to t h.1 (call t.startup h.0)

-- A wait: where its ticks stand, and how many steps are before it. Only what is noted at its step is noted there, and it begins with none.
pub record Spot : Type 0 where
  pub look : Waits → ℕ
  pub before : ℕ

pub record Holds (s : Spot) : Type 0 where
  pub noted : (w : Waits) (step n : ℕ) → s.look (noted_of w step n) ≡ cond (eqb step (suc s.before)) n (s.look w)
  pub blank : s.look (waits_by (λ k. 0)) ≡ 0

-- What is so of each of the eight.
abbrev pub AtEach : (Spot → Type 0) → Type 0
AtEach S =
    S (record { look = λ w. w.at2; before = 1 }) × S (record { look = λ w. w.at4; before = 3 }) ×
    S (record { look = λ w. w.at7; before = 6 }) × S (record { look = λ w. w.at10; before = 9 }) ×
    S (record { look = λ w. w.at12; before = 11 }) × S (record { look = λ w. w.at15; before = 14 }) ×
    S (record { look = λ w. w.at18; before = 17 }) × S (record { look = λ w. w.at27; before = 26 })

pub each_holds : AtEach Holds
unfolding noted_of
each_holds = (
  record { noted = λ w s n. refl; blank = refl },
  record { noted = λ w s n. refl; blank = refl },
  record { noted = λ w s n. refl; blank = refl },
  record { noted = λ w s n. refl; blank = refl },
  record { noted = λ w s n. refl; blank = refl },
  record { noted = λ w s n. refl; blank = refl },
  record { noted = λ w s n. refl; blank = refl },
  record { noted = λ w s n. refl; blank = refl },
)

pub each_from : {S T U : Spot → Type 0} → ((s : Spot) → S s → T s → U s) → AtEach S → AtEach T → AtEach U
each_from f (a, b, c, d, e, g, h, i) (a', b', c', d', e', g', h', i') =
    (f _ a a', f _ b b', f _ c c', f _ d d', f _ e e', f _ g g', f _ h h', f _ i i')

pub each_is : (w : Waits) (f : ℕ → ℕ) → AtEach (λ s. s.look w ≡ f (suc s.before)) → w ≡ waits_by f
each_is w f e = rw (sym e.0, sym e.1, sym e.2, sym e.3, sym e.4, sym e.5, sym e.6, sym e.7) refl

-- Ticks of step k by numbers: of v noted before step j + 1, n at that step and T behind it.
module _ (k : ℕ) where
  abbrev pub summed : ℕ → ℕ → ℕ → ℕ → ℕ
  summed j v n T = cond (leb k j) v (cond (eqb (suc j) k) n T)

  pub past : (j v n T : ℕ) → cond (leb k (suc j)) (cond (eqb (suc j) k) n v) T ≡ summed j v n T
  past j v n T =
      cases (leb k j)
      (λ t. let h = leb-true k j t in rw (le-leb k (suc j) (omega arith), ne_eqb (suc j) k (λ e. omega arith), t) refl)
      (λ t. let h = leb-false k j t in
      cases (eqb (suc j) k) (λ s. let e = eqb-true (suc j) k s in rw (le-leb k (suc j) (omega arith), s, t) refl)
      (λ s. let e = eqb-false (suc j) k s in rw (lt-leb k (suc j) (omega arith), s, t) refl))

  -- None are noted before its turn, nor where no calls are left.

  abbrev pub Fresh : ℕ → ℕ → Type 0
  Fresh j v = j < k → v ≡ 0

  pub stays_fresh : (j v n : ℕ) → Fresh j v → Fresh (suc j) (cond (eqb (suc j) k) n v)
  stays_fresh j v n fresh h = rw (ne_eqb (suc j) k (λ e. omega arith)) (fresh (omega arith))

  pub skipped : (j v : ℕ) → Fresh j v → v ≡ cond (eqb (suc j) k) 0 v
  skipped j v fresh = by_cond (λ n. v ≡ n) (eqb (suc j) k) 0 v (λ t. let e = eqb-true (suc j) k t in fresh (omega arith)) (λ t. refl)

  nought : (s : ℕ) {T : ℕ} → T ≡ 0 → cond (eqb s k) 0 T ≡ 0
  nought s {T} e = by_cond (λ n. n ≡ 0) (eqb s k) 0 T (λ t. refl) (λ t. e)

  no_calls : (M : ℕ) (l : List Entry) (s : ℕ) → ticks_of_step (suc M) l s [] k ≡ 0
  no_calls M [] s = refl
  no_calls M (entry false o ∷ l) s = nought s (no_calls M l (suc s))
  no_calls M (entry true (write w) ∷ l) s = nought s (no_calls M l (suc s))
  no_calls M (entry true (wait p) ∷ l) s = nought s (no_calls M l (suc s))
  no_calls M (entry true (flash m) ∷ l) s = nought s (no_calls M l (suc s))
  no_calls M (entry true (compare t) ∷ l) s = nought s (no_calls M l (suc s))

  pub stopped : (M : ℕ) (l : List Entry) (j v : ℕ) → Fresh j v → v ≡ cond (leb k j) v (ticks_of_step (suc M) l (suc j) [] k)
  stopped M l j v fresh =
      by_cond (λ n. v ≡ n) (leb k j) v (ticks_of_step (suc M) l (suc j) [] k) (λ t. refl) (λ t. fresh (leb-false k j t) ∙ sym (no_calls M l (suc j)))

-- The machine's calls.
module _ (c : Config) (P : List Entry) (M : ℕ) (spot : Spot) where
  abbrev L : ℕ
  L = suc M

  abbrev k : ℕ
  k = suc spot.before

  abbrev call : ticks.Call Ticked
  call = ticked_by (machine P L)

  abbrev pub at : Fields → ℕ → ℕ → ℕ → ℕ → Waits → Ticked
  at f step unmet used first w = record { startup = going c f step unmet used; ticks = record { first = first; waits = w } }

  -- None of the calls cs is refused, and they lead to n ticks of the wait.
  abbrev pub Leads : Ticked → List Handed → ℕ → Type 0
  Leads t cs n = NoneLeaves (runs call t cs).1 × (spot.look (runs call t cs).0.ticks.waits ≡ n)

  one_call : (t : Ticked) (h : Handed) (cs : List Handed) (y : Ticked × Report) (n : ℕ) → call t h ≡ y → leaves_as_it_was y.1 ≡ false →
      Leads y.0 cs n → Leads t (h ∷ cs) n
  one_call t h cs y n e b (x, z) =
      subst (λ (y : Ticked × Report). ((leaves_as_it_was y.1 ≡ false) × NoneLeaves (runs call y.0 cs).1) ×
      (spot.look (runs call y.0 cs).0.ticks.waits ≡ n)) (sym e) ((b, x), z)

  -- Over stays over.
  over_leads : (last : Report) → leaves_as_it_was last ≡ false → (cs : List Handed) (t : Ticked) → t.startup.over ≡ Some last →
      Leads t cs (spot.look t.ticks.waits)
  unfolding machine
  over_leads last b [] t e = (tt, refl)
  over_leads last b (h ∷ cs) t e =
      one_call t h cs (t, last) (spot.look t.ticks.waits) (ap (λ (p : Option Report). ticked_in p t h.1 (going_or_over P L t.startup h.0 p)) e) b
      (over_leads last b cs t e)

  -- A call at step j + 1, which is present, l being the list behind it: it comes to e.
  module _ (j : ℕ) (o : Op) (l : List Entry) (d : drop j P ≡ entry true o ∷ l) (f : Fields) (q u first : ℕ) (w : Waits) (h : Handed)
      (cs : List Handed) (b : u ≤ 8000001) (e : Event) (g : event_of L (going c f (suc j) q u) h.0 (Some (done_of o f (seen_of h.0))) ≡ e) where
    abbrev here : Ticked
    here = at f (suc j) q u first w

    abbrev came : Stepped
    came = came_to (step_after (suc j) (present l)) (going c f (suc j) q u) (with_seen f (seen_of h.0)) e

    pub works_to : (n : ℕ) → leaves_as_it_was came.report ≡ false → Leads (ticked_to here h.1 came).0 cs n → Leads here (h ∷ cs) n
    works_to n = one_call here h cs (ticked_to here h.1 came) n (ap (ticked_to here h.1) (comes_at c P L j o l d f q u h.0 b e g))

    -- by which the startup is over; its report changes no ticks

    abbrev Quiet : Report → Type 0
    Quiet last = (leaves_as_it_was last ≡ false) × ((t : declared.Ticks) (unmet tick : ℕ) → after_of t unmet tick last ≡ t)

    pub ends_at : came.startup.over ≡ Some came.report → Quiet came.report → Fresh k j (spot.look w) →
        Leads here (h ∷ cs) (summed k j (spot.look w) 0 (ticks_of_step L l (suc (suc j)) [] k))
    ends_at over quiet fresh =
        let n = summed k j (spot.look w) 0 (ticks_of_step L l (suc (suc j)) [] k) in
        let after : declared.Ticks → Ticked = λ t. record { startup = came.startup; ticks = t } in
        let ran = over_leads came.report quiet.0 cs (after here.ticks) over in
        works_to n quiet.0
        (subst (λ (t : declared.Ticks). Leads (after t) cs n) (sym (quiet.1 here.ticks q h.1))
        (ran.0, ran.1 ∙ stopped k M (entry false o ∷ l) j (spot.look w) fresh))
