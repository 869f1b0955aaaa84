-- Demand 3 of the calls for C, shown: calls on lent bytes go as calls on a startup in its place, and such hosts there are.
-- Assumes nothing.
use Prim.Native.Nat.{ℕ, zero, suc, ◌≤◌}
use mathlib.Core.Path.{◌≡◌, refl, sym, ap, ◌∙◌, subst}
use mathlib.Core.Logic.{inl}
use mathlib.Core.Bool.{true, false}
use mathlib.Core.List.{List, [], ◌∷◌, ◌++◌}
use borrow.Author.Tests.{le-ltb}
use lib.ListN.{length, drop}
use Rattle.answer.specs.Answer.{Answer, gives}
use Rattle.layout.specs.Layout.{Bytes}
use Rattle.layout.specs.Lent.{written, after}
use Rattle.v4x7.specs.declared.Config.{Config}
use Rattle.v4x7.specs.declared.ClockRecord.{ClockRecord}
use Rattle.v4x7.specs.Check.{check_of}
use Rattle.profile.specs.Profile.{read_profile}
use Rattle.image.specs.declared.Fields.{Fields}
use Rattle.image.specs.Image.{in_width, read_image}
use Rattle.image.specs.Width.{wide, in_width_lem}
use Rattle.image.proofs.RoundTrip as image
use Rattle.startup.specs.declared.Reading.{Reading}
use Rattle.startup.specs.declared.Report.{Report}
use Rattle.startup.specs.declared.Report.TheVariants.{Worked}
use Rattle.startup.specs.declared.Stepped.{Stepped}
use Rattle.startup.specs.Call.{number_of, step_of, waits_owed_of, call_bound_of}
use Rattle.ticks.specs.declared.Ticked.{Ticked}
use Rattle.ticks.specs.Ticks.{begun_with, ticked_of}
use Rattle.ticks.specs.Runs.{Handed, runs, plain}
use Rattle.place.specs.Place.{leaves_as_it_was, stepped_in}
use Rattle.place.specs.Laws.{in_place, NoneLeaves}
use Rattle.demands.specs.Third.{begun}
use Rattle.demands.specs.Third as third
use Rattle.demands.specs.Placed.{Calls, first_calls}
use Rattle.demands.proofs.Accepted.{accepted_tells}
use Rattle.demands.proofs.Third.{Sound, same_step, stays_sound, starts}
use Rattle.demands.proofs.Placed.{none_leaves, demand3_in_place}
use Rattle.capi_give.specs.Given.{number_in, Given}
use Rattle.capi_startup.specs.Kept.{kept_of, counts_bytes, ticks_bytes}
use Rattle.capi_startup.specs.Calls.{reading_of, start_read, start_bytes, step_bytes, leaves_of, number_left, bytes_left, Leaves}
use Rattle.capi.specs.Owed.{calls_read}
use Rattle.capi_demands.specs.Place.{Word, Storable, Shows}
use Rattle.capi_demands.specs.Hosted.{Hosts, handed, told, Served, Demand3InC, HostsThere}
use Rattle.capi_demands.proofs.Again.{read_length}
use Rattle.capi_demands.proofs.Stays.{starts_storable, stays_storable}
use Rattle.capi_demands.proofs.Answers.{place_by}
use Rattle.capi_demands.proofs.Shown.{Agrees, tells, kept, agrees_then, one_call}
use Rattle.capi_demands.proofs.Ended.{Ends, ends_then, three_numbers, over_by_it, its_number}

given_all : (b l l' : List ℕ) (k : ℕ) (m : Answer (List ℕ)) → 72 ≤ length l → m ≡ gives b → Given 72 m l l' k → (k ≡ 0) × (l' ≡ b ++ drop 72 l)
given_all b l l' k m h e g = ((rw (le-ltb (length l) 72 h, e) at g.number), (rw (le-ltb (length l) 72 h, e) at g.lent))

module _ (c : Config) {x : ClockRecord} (q : check_of c ≡ gives x) (p : List ℕ) (reads : read_profile p ≡ gives c) (rest : List ℕ) where
  ten : length p ≡ 10
  ten = read_length p c reads

  -- What holds of a place from call to call, with the last report.
  record Held (t : Ticked) (report : Report) (l : List ℕ) : Type 0 where
    sound : Sound c q t.startup
    stored : Storable t
    goes : (cs : List Handed) → NoneLeaves (runs plain t.startup cs).1
    last : Agrees t.startup.over report
    ends : Ends t.startup.over report
    shows : Shows p t report rest l

  profile_of : (t : Ticked) → Sound c q t.startup → read_profile p ≡ gives t.startup.config
  profile_of t so = reads ∙ ap gives (sym so.0)

  sound_step : (t : Ticked) (r : Reading) → Sound c q t.startup → Sound c q (step_of t.startup r).startup
  sound_step t r so =
      subst (λ (y : Stepped). Sound c q y.startup) (sym (same_step c q t.startup r so)) (stays_sound c q t.startup r so)

  call : (t : Ticked) (report : Report) (l l' : List ℕ) (w tick n : ℕ) → Word tick → Held t report l → Leaves 72 (step_bytes l w tick) l l' n →
      let y = stepped_in t (reading_of w) tick in (n ≡ number_of y.report) × Held y.place y.report l'
  unfolding ticked_of
  call t report l l' w tick n small h g =
      let r = reading_of w in
      let so = sound_step t r h.sound in
      let goes : leaves_as_it_was (step_of t.startup r).report ≡ false = (h.goes ((r, tick) ∷ [])).0 in
      let fits = in_width_lem (step_of t.startup r).startup.fields so.1 in
      let reads = profile_of t h.sound in
      let place = sym (place_by t r tick false goes) in
      let does = one_call p t report rest l ten h.shows h.stored reads h.last w tick l' n g goes fits in (
        does.0,
        record {
          sound = subst (λ (t : Ticked). Sound c q t.startup) place so;
          stored = stays_storable t r tick small h.stored;
          goes = subst (λ (t : Ticked). (cs : List Handed) → NoneLeaves (runs plain t.startup cs).1) place (λ cs. (h.goes ((r, tick) ∷ cs)).1);
          last = agrees_then t r tick goes;
          ends = ends_then t r tick goes;
          shows = does.1;
        },
      )

  -- Call after call, from any such place on.
  abbrev Goes : (ℕ → ℕ) → (ℕ → ℕ) → (ℕ → ℕ) → (ℕ → List ℕ) → Type 0
  Goes ws ts rs m = (n : ℕ) → Leaves 72 (step_bytes (m n) (ws n) (ts n)) (m n) (m (suc n)) (rs n)

  abbrev from : Ticked → Calls → ℕ → Ticked
  from t h n = (runs in_place t (first_calls n h)).0

  abbrev says : Ticked → Calls → ℕ → Report
  says t h n = (stepped_in (from t h n) (h n).0 (h n).1).report

  abbrev Done : Ticked → Calls → (ℕ → ℕ) → (ℕ → List ℕ) → ℕ → Type 0
  Done t h rs m n = (rs n ≡ number_of (says t h n)) × Held (from t h (suc n)) (says t h n) (m (suc n)) × (kept_of (m n) ≡ gives (from t h n))

  each_call : (n : ℕ) (ws ts rs : ℕ → ℕ) (m : ℕ → List ℕ) (t : Ticked) (report : Report) → ((n : ℕ) → Word (ts n)) → Held t report (m 0) →
      Goes ws ts rs m → Done t (handed ws ts) rs m n
  each_call zero ws ts rs m t report small held g =
      let one = call t report (m 0) (m 1) (ws 0) (ts 0) (rs 0) (small 0) held (g 0) in
      (one.0, one.1, kept p t report rest (m 0) ten held.shows held.stored (profile_of t held.sound))
  each_call (suc n) ws ts rs m t report small held g =
      let y = stepped_in t (reading_of (ws 0)) (ts 0) in
      each_call n (λ k. ws (suc k)) (λ k. ts (suc k)) (λ k. rs (suc k)) (λ k. m (suc k)) y.place y.report (λ k. small (suc k))
      (call t report (m 0) (m 1) (ws 0) (ts 0) (rs 0) (small 0) held (g 0)).1 (λ k. g (suc k))

module _ (c : Config) {x : ClockRecord} (q : check_of c ≡ gives x) (p i : List ℕ) (reads : read_profile p ≡ gives c) (low : Bytes i)
    (f : Fields) (imaged : read_image i ≡ gives f) where
  abbrev begins : Ticked
  begins = begun_with (begun c f)

  width : in_width f ≡ true
  width = image.read_in_width i f low imaged

  start_bytes_lem : start_bytes p i ≡ gives (p ++ (i ++ (counts_bytes (begun c f) (Worked 0 0) ++ ticks_bytes begins.ticks)))
  unfolding start_bytes start_read
  start_bytes_lem = rw (reads, imaged, starts c q f width)

  call_bound : calls_read p ≡ gives (third.bound c)
  unfolding calls_read call_bound_of waits_owed_of
  call_bound = rw (reads, (accepted_tells c q).names)

  begun_held : (rest l : List ℕ) → Shows p begins (Worked 0 0) rest l → Held c q p reads rest begins (Worked 0 0) l
  begun_held rest l s = record {
    sound = (refl, wide f width);
    stored = starts_storable c f (begun c f) (starts c q f width);
    goes = none_leaves c q f width;
    last = tt;
    ends = inl refl;
    shows = s;
  }

  served : (l : List ℕ) → 72 ≤ length l → (ws ts : ℕ → ℕ) → ((n : ℕ) → Word (ts n)) → (r : ℕ) (rs : ℕ → ℕ) (m : ℕ → List ℕ) →
      Hosts p i l ws ts r rs m → Served p c x.clocks f (drop 72 l) (handed ws ts) r rs m
  served l h ws ts small r rs m g =
      let rest = drop 72 l in
      let v = given_all _ l (m 0) r (start_bytes p i) h start_bytes_lem g.start in
      let s : Shows p begins (Worked 0 0) rest (m 0) = record { image = i; imaged = (image.inverse).write_read i f low imaged; lent = v.1 } in
      let each : (n : ℕ) → Done c q p reads rest begins (handed ws ts) rs m n =
      λ n. each_call c q p reads rest n ws ts rs m begins (Worked 0 0) small (begun_held rest (m 0) s) g.step in
      record {
        started = v.0;
        called = λ n. (each n).0;
        numbers = λ n. three_numbers _ _ _ (each n).1.stored.phase (told c f (handed ws ts) n) (rs n) (each n).0 (each n).1.ends;
        failed = λ n. over_by_it _ _ _ (each n).1.stored.phase (told c f (handed ws ts) n) (rs n) (each n).0 (each n).1.ends;
        returned = λ n. its_number _ _ _ (each n).1.stored.phase (told c f (handed ws ts) n) (rs n) (each n).0 (each n).1.last;
        begins = s;
        steps = λ n. (each n).1.shows;
        tells = λ n. tells p _ _ rest (m (suc n)) (read_length p c reads) (each n).1.shows (each n).1.stored;
        keeps = λ n. (each n).2;
        asked = call_bound;
        placed = λ before. demand3_in_place c x q f width before (handed ws ts);
      }

pub demand3_in_c : Demand3InC
demand3_in_c p i l bi h c e x q f o ws ts small r rs m g = served c q p i e bi f o l h ws ts small r rs m g

-- the lent bytes after n calls
unfoldable found : (ℕ → ℕ) → (ℕ → ℕ) → List ℕ → ℕ → List ℕ
found ws ts l zero = l
found ws ts l (suc n) = let b = found ws ts l n in bytes_left b (leaves_of 72 (step_bytes b (ws n) (ts n)) b)

pub hosts_there : HostsThere
unfolding found
hosts_there p i l ws ts =
    let starts : Answer (List ℕ) = written 72 (start_bytes p i) l in
    let m : ℕ → List ℕ = found ws ts (after l starts) in (
      number_in starts,
      (λ n. number_left (leaves_of 72 (step_bytes (m n) (ws n) (ts n)) (m n))),
      m,
      record { start = record { number = refl; lent = refl }; step = λ n. record { number = refl; lent = refl } },
    )
