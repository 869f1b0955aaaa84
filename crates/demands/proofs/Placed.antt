-- The third demand of a startup in its place, with ticks, shown.
-- Assumes nothing.
use Prim.Native.Nat.{ℕ, zero, suc}
use mathlib.Core.Path.{◌≡◌, refl, sym, ap, ◌∙◌, subst}
use mathlib.Core.Bool.{true}
use mathlib.Core.List.{List, [], ◌∷◌}
use Rattle.answer.specs.Answer.{Answer, gives}
use Rattle.v4x7.specs.declared.Config.{Config}
use Rattle.v4x7.specs.declared.ClockRecord.{ClockRecord}
use Rattle.v4x7.specs.Check.{check_of}
use Rattle.image.specs.declared.Fields.{Fields}
use Rattle.image.specs.Image.{in_width}
use Rattle.startup.specs.Steps.{Entry, steps}
use Rattle.startup.specs.declared.Report.{Report}
use Rattle.startup.specs.declared.Startup.{Startup}
use Rattle.startup.specs.declared.Stepped.{Stepped}
use Rattle.startup.specs.Call.{step_of}
use Rattle.ticks.specs.declared.Ticked.{Ticked}
use Rattle.ticks.specs.Ticks.{waits_by, ticked_of, begun_with, eight_of, maximum, longest_of}
use Rattle.ticks.specs.Runs.{Handed, runs, plain, ticked, same_run}
use Rattle.ticks.specs.Runs as ticks
use Rattle.place.specs.Place.{started_in}
use Rattle.place.specs.Laws.{in_place, NoneLeaves}
use Rattle.place.proofs.Laws.{same_place}
use Rattle.demands.specs.Runs.{run}
use Rattle.demands.specs.Third.{begun, bound, Shown}
use Rattle.demands.specs.Placed.{Calls, first_calls, readings, ticks_of_step, Demand3InPlace}
use Rattle.demands.proofs.Machine.{machine}
use Rattle.image.specs.Width.{Wide, wide}
use Rattle.demands.proofs.Ending.{Ends, ending}
use Rattle.demands.proofs.Third.{bounds, Sound, same_step, stays_sound, starts, demand3}
use Rattle.demands.proofs.Noting.{ticked_to, ticked_by}
use Rattle.demands.proofs.Ticking.{HasWaits, ticking}

-- The first n calls by value.
by_value : (n : ℕ) (h : Calls) (s : Startup) → (runs plain s (first_calls n h)).0 ≡ run step_of n (readings h) s
by_value zero h s = refl
by_value (suc n) h s = by_value n (λ i. h (suc i)) (step_of s (h 0).0).startup

module _ (c : Config) {x : ClockRecord} (q : check_of c ≡ gives x) where
  abbrev P : List Entry
  P = steps c x.clocks

  abbrev go : ticks.Call Ticked
  go = ticked_by (machine P 1000000)

  by_machine : (cs : List Handed) (t : Ticked) → Sound c q t.startup → runs ticked t cs ≡ runs go t cs
  unfolding ticked_of
  by_machine [] t sound = refl
  by_machine (h ∷ cs) t sound =
      let rest : Stepped → Ticked × List Report =
      λ y. let x = ticked_to t h.1 y in let l = runs ticked x.0 cs in (l.0, x.1 ∷ l.1) in
      ap rest (same_step c q t.startup h.0 sound) ∙
      ap (λ (l : Ticked × List Report). (l.0, (go t h).1 ∷ l.1)) (by_machine cs (go t h).0 (stays_sound c q t.startup h.0 sound))

  has_waits : HasWaits P
  has_waits = (refl, refl, refl, refl, refl, refl, refl, refl)

  module _ (earlier : Fields) (width : in_width earlier ≡ true) where
    abbrev begins : Ticked
    begins = begun_with (begun c earlier)

    -- Any calls.
    module _ (cs : List Handed) where
      told : NoneLeaves (runs go begins cs).1 × ((runs go begins cs).0.ticks.waits ≡ waits_by (ticks_of_step 1000000 P 1 cs))
      told =
          let w : Wide earlier = wide earlier width in
          ticking c P 999999 (Ends c q earlier w) has_waits earlier (ending c q earlier w) (bounds c x.clocks).1 cs

      same : runs ticked begins cs ≡ runs go begins cs
      same = by_machine cs begins (refl, wide earlier width)

      value :
          ((runs ticked begins cs).0.startup ≡ (runs plain (begun c earlier) cs).0) × ((runs ticked begins cs).1 ≡ (runs plain (begun c earlier) cs).1)
      value =
          let e = same_run begins cs in
          (ap (λ (y : Startup × List Report). y.0) e, ap (λ (y : Startup × List Report). y.1) e)

      pub none_leaves : NoneLeaves (runs plain (begun c earlier) cs).1
      none_leaves = subst NoneLeaves (ap (λ (y : Ticked × List Report). y.1) (sym same) ∙ value.1) told.0

      placed : (runs in_place begins cs).0 ≡ (runs ticked begins cs).0
      placed = ap (λ (y : Ticked × List Report). y.0) (same_place begins cs none_leaves)

      startup_of : (runs in_place begins cs).0.startup ≡ (runs plain (begun c earlier) cs).0
      startup_of = ap (λ (t : Ticked). t.startup) placed ∙ value.0

      waits_of : (runs in_place begins cs).0.ticks.waits ≡ waits_by (ticks_of_step 1000000 P 1 cs)
      waits_of =
          ap (λ (t : Ticked). t.ticks.waits) placed ∙ ap (λ (y : Ticked × List Report). y.0.ticks.waits) same ∙ told.1

      longest_of_lem : longest_of (runs in_place begins cs).0.ticks.waits ≡ maximum (eight_of (waits_by (ticks_of_step 1000000 P 1 cs)))
      unfolding longest_of
      longest_of_lem = ap longest_of waits_of

    module _ (h : Calls) where
      startup_after : (n : ℕ) → (runs in_place begins (first_calls n h)).0.startup ≡ run step_of n (readings h) (begun c earlier)
      startup_after n = startup_of (first_calls n h) ∙ by_value n h (begun c earlier)

pub demand3_in_place : Demand3InPlace
demand3_in_place c x q earlier width before h =
    let e = starts c q earlier width in
    record {
      starts = (ap (λ (a : Answer Startup). (started_in before a).number) e, ap (λ (a : Answer Startup). (started_in before a).place) e);
      startup = startup_after c q earlier width h;
      waits = λ n. waits_of c q earlier width (first_calls n h);
      longest = λ n. longest_of_lem c q earlier width (first_calls n h);
      shown =
          subst (Shown c x.clocks earlier (readings h)) (sym (startup_after c q earlier width h (bound c)))
          (demand3 c x q earlier width (readings h)).1;
    }
