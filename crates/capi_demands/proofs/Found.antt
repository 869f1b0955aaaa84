-- Whatever bytes a call finds, the place that it leaves reads back as the call in a place leaves it.
-- Assumes nothing.
use Rattle.std.specs.Prelude.{Option, None, Some}
use Prim.Native.Nat.{ℕ, zero, suc, ◌≤◌, ◌<◌}
use mathlib.Core.Path.{◌≡◌, refl, sym, ap, ◌∙◌, subst}
use mathlib.Core.Bool.{Bool, true, false, cond, ◌||◌}
use mathlib.Core.List.{List, [], ◌∷◌, ◌++◌}
use native.Mathlib.Omega.{arith}
use lib.Dec.{ltb, lit<}
use lib.ListN.{length, take, drop, get_or, length-drop, take-append-drop, get_or-append}
use lib.Seq.{length-take-le, take-append-le, drop-append-le}
use Rattle.answer.specs.Answer.{Answer, gives, refuses, ◌>>=◌, bound, same_given}
use Rattle.answer.specs.Tools.{true_false, and_left, and_right, and_both, neither}
use Rattle.layout.specs.Layout.{fitting, bytes, Bytes}
use Rattle.v4x7.specs.declared.Config.{Config}
use Rattle.profile.specs.Profile.{read_profile}
use Rattle.image.specs.declared.Fields.{Fields}
use Rattle.image.specs.Image.{read_image, image_bytes}
use Rattle.startup.specs.declared.Reading.{Reading}
use Rattle.startup.specs.declared.Report.{Report}
use Rattle.startup.specs.declared.Startup.{Startup}
use Rattle.startup.specs.Call.{number_of, step_of}
use Rattle.ticks.specs.declared.Ticked.{Ticked}
use Rattle.ticks.specs.Ticks.{is_over}
use Rattle.place.specs.Place.{leaves_as_it_was, stepped_in}
use Rattle.capi_startup.specs.Kept.{number_at, standing_of, startup_in, ticks_in, ticks_part, kept_of, counts_bytes, noted_bytes}
use Rattle.capi_startup.specs.Calls.{reading_of, call_bytes, step_bytes}
use Rattle.capi_startup.proofs.Laying.{noted_length}
use Rattle.capi_demands.specs.Place.{Word, HeldPhase, Storable, CallReadsBack}
use Rattle.capi_demands.proofs.Numbers.{byte_at, word_at, noted_in}
use Rattle.capi_demands.proofs.Again.{kept_of_lem}
use Rattle.capi_demands.proofs.Stays.{ticked_storable}
use Rattle.capi_demands.proofs.Answers.{holds, found_known, call_fair, place_stays, noted, ticked_noted, place_moves}

-- ---- parts of bytes are bytes

bytes_take : (n : ℕ) (l : List ℕ) → Bytes l → Bytes (take n l)
bytes_take zero l h = refl
bytes_take (suc n) [] h = refl
bytes_take (suc n) (x ∷ l) h =
    let rest = fitting (bytes (length l)) l in
    and_both (and_left (ltb x 256) rest h) (bytes_take n l (and_right (ltb x 256) rest h))

bytes_drop : (n : ℕ) (l : List ℕ) → Bytes l → Bytes (drop n l)
bytes_drop zero l h = h
bytes_drop (suc n) [] h = refl
bytes_drop (suc n) (x ∷ l) h = bytes_drop n l (and_right (ltb x 256) (fitting (bytes (length l)) l) h)

-- ---- what lies behind a place is not looked at

module _ (q rest : List ℕ) (h : length q ≡ 72) where
  byte_within : (i : ℕ) → i < 72 → get_or (q ++ rest) i 0 ≡ get_or q i 0
  byte_within i k = get_or-append q rest 0 i (omega arith)

  standing_within : (c : Config) (f : Fields) → standing_of c f (q ++ rest) ≡ standing_of c f q
  unfolding standing_of
  standing_within c f =
      rw (
        byte_within 18 (lit< tt),
        byte_within 19 (lit< tt),
        byte_within 20 (lit< tt),
        byte_within 21 (lit< tt),
        byte_within 22 (lit< tt),
        byte_within 23 (lit< tt),
        byte_within 24 (lit< tt),
        byte_within 25 (lit< tt),
        byte_within 26 (lit< tt),
        byte_within 27 (lit< tt),
      )

  read_within : (m : Answer Config) (k : Answer Fields) →
      ◌>>=◌ m (λ c. ◌>>=◌ k (λ f. gives (standing_of c f (q ++ rest)))) ≡ ◌>>=◌ m (λ c. ◌>>=◌ k (λ f. gives (standing_of c f q)))
  read_within (gives c) (gives f) = ap gives (standing_within c f)
  read_within (gives c) (refuses n) = refl
  read_within (refuses n) k = refl

  startup_within : startup_in (q ++ rest) ≡ startup_in q
  unfolding startup_in
  startup_within =
      let a : take 10 (q ++ rest) ≡ take 10 q = take-append-le 10 q rest (omega arith) in
      let b : take 8 (drop 10 (q ++ rest)) ≡ take 8 (drop 10 q) =
      ap (take 8) (drop-append-le 10 q rest (omega arith)) ∙ take-append-le 8 (drop 10 q) rest (omega (arith, length-drop 10 q)) in
      rw (a, b) (read_within (read_profile (take 10 q)) (read_image (take 8 (drop 10 q))))

  kept_within : kept_of (q ++ rest) ≡ kept_of q
  kept_within =
      let c : ticks_part (q ++ rest) ≡ ticks_part q =
      ap (take 40) (drop-append-le 32 q rest (omega arith)) ∙ take-append-le 40 (drop 32 q) rest (omega (arith, length-drop 32 q)) in
      rw (startup_within, c)

kept_front : (l rest : List ℕ) → 72 ≤ length l → kept_of (take 72 l ++ rest) ≡ kept_of l
kept_front l rest h =
    let n = length-take-le 72 l h in
    kept_within (take 72 l) rest n ∙ sym (kept_within (take 72 l) (drop 72 l) n) ∙ ap kept_of (take-append-drop 72 l)

-- ---- the call on the startup s that the place l holds

module _ (l : List ℕ) (low : Bytes l) (long : 72 ≤ length l) (w tick : ℕ) (word : Word tick) (s : Startup) (found : startup_in l ≡ gives s) where
  abbrev t : Ticked
  t = record { startup = s; ticks = ticks_in (ticks_part l) }

  abbrev r : Reading
  r = reading_of w

  abbrev report : Report
  report = (step_of s r).report

  forty : length (ticks_part l) ≡ 40
  forty = length-take-le 40 (drop 32 l) (omega (arith, length-drop 32 l))

  storable : s.over ≡ None → Storable t
  unfolding standing_of ticks_in
  storable =
      let at : (i : ℕ) → Word (number_at (ticks_part l) i) = λ i. word_at (ticks_part l) i (bytes_take 40 (drop 32 l) (bytes_drop 32 l low)) in
      subst (λ (s : Startup). s.over ≡ None → Storable (record { startup = s; ticks = ticks_in (ticks_part l) })) (holds l s found).same
      (λ e. record {
        step = byte_at l 18 low;
        unmet = word_at l 19 low;
        used = word_at l 23 low;
        phase = subst (λ (p : Option Report). HeldPhase p (get_or l 18 0) (number_at l 23)) (sym e) tt;
        first = at 0;
        waits = (at 4, at 8, at 12, at 16, at 20, at 24, at 28, at 32);
      })

  -- It goes on.

  going_by : (p : Option Report) → is_over p ≡ false → p ≡ None
  going_by None h = refl
  going_by (Some last) h = true_false h

  abbrev moved : List ℕ → List ℕ
  moved i = take 10 l ++ (i ++ (counts_bytes (step_of s r).startup report ++ noted_bytes (ticks_part l) s.unmet tick report))

  moves : (i rest : List ℕ) → image_bytes (step_of s r).startup.fields ≡ gives i → is_over s.over ≡ false →
      kept_of (moved i ++ rest) ≡ gives (noted t r tick)
  unfolding standing_of
  moves i rest e h =
      let st = subst Storable (ticked_noted t r tick h) (ticked_storable t r tick word (storable (going_by s.over h))) in
      let o = holds l s found in
      let c : read_profile (take 10 l) ≡ gives (step_of s r).startup.config =
      o.profile ∙ ap gives (ap (λ (s : Startup). s.config) o.same ∙ sym (call_fair s r (found_known l s found)).1) in
      kept_of_lem (take 10 l) i (noted_bytes (ticks_part l) s.unmet tick report) rest (noted t r tick) report
      (length-take-le 10 l (omega arith)) c e (noted_length (ticks_part l) s.unmet tick report forty)
      (noted_in s.unmet tick report (ticks_part l) (st.first, st.waits)) st

  abbrev Back : ℕ × List ℕ → Type 0
  Back x = (rest : List ℕ) → kept_of (x.1 ++ rest) ≡ gives (stepped_in t r tick).place

  back_by : (b : Bool) → (is_over s.over || leaves_as_it_was report) ≡ b → (x : ℕ × List ℕ) →
      cond b (gives (number_of report, take 72 l))
      (◌>>=◌ (image_bytes (step_of s r).startup.fields) (λ i. gives (number_of report, moved i))) ≡ gives x → Back x
  back_by true h x e =
      subst Back (same_given e) (λ rest. kept_front l rest long ∙ rw found (ap gives (sym (place_stays t r tick h))))
  back_by false h x e =
      let i = bound (image_bytes (step_of s r).startup.fields) _ e in
      let no = neither (is_over s.over) (leaves_as_it_was report) h in
      subst Back (same_given i.after) (λ rest. moves i.value rest i.gave no.0 ∙ ap gives (sym (place_moves t r tick no.0 no.1)))

  called : (x : ℕ × List ℕ) → call_bytes l s w tick ≡ gives x → Back x
  unfolding call_bytes
  called = back_by (is_over s.over || leaves_as_it_was report) refl

pub call_reads_back : CallReadsBack
unfolding step_bytes
call_reads_back l b rest w tick n t low long word k e =
    let s = bound (startup_in l) _ k in
    let c = bound (startup_in l) (λ s. call_bytes l s w tick) e in
    let same : c.value ≡ s.value = same_given (sym c.gave ∙ s.gave) in
    let o : record { startup = s.value; ticks = ticks_in (ticks_part l) } ≡ t = same_given s.after in
    called l low long w tick word s.value s.gave (n, b) (ap (λ (s : Startup). call_bytes l s w tick) (sym same) ∙ c.after) rest
    ∙ ap (λ (t : Ticked). gives (stepped_in t (reading_of w) tick).place) o
