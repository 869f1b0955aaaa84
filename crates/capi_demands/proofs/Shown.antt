-- A place that shows a startup with its ticks: what a host reads of it, and one call on it.
-- Assumes nothing.
use Rattle.std.specs.Prelude.{Option, None, Some}
use Prim.Native.Nat.{ℕ, ◌+◌, ◌≤◌}
use mathlib.Core.Path.{◌≡◌, refl, sym, ap, ◌∙◌, subst}
use mathlib.Core.Bool.{Bool, true, false, cond, not, ◌||◌}
use mathlib.Core.List.{List, ◌++◌}
use native.Mathlib.Omega.{arith}
use borrow.Author.Tests.{le-ltb}
use lib.ListN.{length, take, drop, get_or, length-append, take-append-drop}
use Rattle.answer.specs.Answer.{Answer, gives, refuses, bound, same_given}
use Rattle.answer.specs.Tools.{true_false, false_true, cases}
use Rattle.layout.specs.Layout.{packed}
use Rattle.v4x7.specs.declared.ClockRecord.{ClockRecord}
use Rattle.v4x7.specs.Check.{named_of, check_of}
use Rattle.profile.specs.Profile.{read_profile}
use Rattle.image.specs.declared.Fields.{Fields}
use Rattle.image.specs.Image.{widths, list_of, in_width, image_bytes}
use Rattle.image.proofs.RoundTrip as image
use Rattle.startup.specs.Steps.{next_of}
use Rattle.startup.specs.declared.Reading.{Reading}
use Rattle.startup.specs.declared.Report.{Report}
use Rattle.startup.specs.declared.Startup.{Startup}
use Rattle.startup.specs.declared.Stepped.{Stepped}
use Rattle.startup.specs.Call.{number_of, handed_back, Event, back, wrote, met, waiting, missed, misread, compared}
use Rattle.startup.specs.Call.{came_to, seeing, comes_to, step_by, step_of}
use Rattle.ticks.specs.declared.Ticked.{Ticked}
use Rattle.ticks.specs.Ticks.{longest_of, is_over, ticked_of}
use Rattle.place.specs.Place.{leaves_as_it_was, stepped_in}
use Rattle.capi_startup.specs.Kept.{startup_in, ticks_part, kept_of, counts_bytes, ticks_bytes, noted_bytes}
use Rattle.capi_startup.specs.Calls.{reading_of, call_bytes, step_bytes, Leaves}
use Rattle.capi_startup.proofs.Laying as laying
use Rattle.capi_demands.specs.Place.{Storable, Shows}
use Rattle.capi_demands.specs.Hosted.{Tells}
use Rattle.capi_demands.proofs.Numbers.{word_back, longest_small, noted_bytes_lem}
use Rattle.capi_demands.proofs.Again.{profile_part, ticks_part_lem, rest_part, byte_behind, kept_again}
use Rattle.capi_demands.proofs.Answers.{place_by, place_stays, place_moves}

-- ---- the last report that a place shows is the one that its startup is over by

abbrev pub Agrees : Option Report → Report → Type 0
Agrees None report = Unit {0}
Agrees (Some last) report = report ≡ last

agree_same : (p : Option Report) (a b : Report) → is_over p ≡ true → Agrees p a → Agrees p b → a ≡ b
agree_same None a b h e g = false_true h
agree_same (Some last) a b h e g = e ∙ sym g

abbrev Shown : Stepped → Type 0
Shown x = leaves_as_it_was x.report ≡ false → Agrees x.startup.over x.report

came : (next : ℕ) (s : Startup) (f : Fields) (e : Event) → Shown (came_to next s f e)
came next s f back h = true_false h
came next s f (wrote g) h = tt
came next s f met h = tt
came next s f waiting h = tt
came next s f missed h = refl
came next s f misread h = refl
came next s f (compared same) h = refl

by_phase : (s : Startup) (r : Reading) (bad : Bool) (check : Answer ClockRecord) (p : Option Report) → s.over ≡ p →
    Shown (cond bad (handed_back s) (step_by check s r p))
by_phase s r true check p e h = true_false h
by_phase s r false check (Some last) e h = subst (λ (p : Option Report). Agrees p last) (sym e) refl
by_phase s r false (refuses n) None e h = true_false h
by_phase s r false (gives x) None e h = came (next_of s.config s.step) s (seeing s r) (comes_to x.clocks s r) h

agrees : (s : Startup) (r : Reading) → Shown (step_of s r)
unfolding step_of
agrees s r = by_phase s r (not (named_of s.config) || not (in_width s.fields)) (check_of s.config) s.over refl

pub agrees_then : (t : Ticked) (r : Reading) (tick : ℕ) → leaves_as_it_was (step_of t.startup r).report ≡ false →
    Agrees (stepped_in t r tick).place.startup.over (stepped_in t r tick).report
unfolding stepped_in ticked_of
agrees_then t r tick goes =
    let s = t.startup in
    subst (λ (t : Ticked). Agrees t.startup.over (step_of s r).report) (sym (place_by t r tick false goes)) (agrees s r goes)

-- ---- one call on a place's bytes

left_all : (n : ℕ) (b l l' : List ℕ) (k : ℕ) (m : Answer (ℕ × List ℕ)) → 72 ≤ length l → m ≡ gives (n, b) → Leaves 72 m l l' k →
    (k ≡ n) × (l' ≡ b ++ drop 72 l)
left_all n b l l' k m h e g = ((rw (le-ltb (length l) 72 h, e) at g.number), (rw (le-ltb (length l) 72 h, e) at g.lent))

pub image_given : (f : Fields) → in_width f ≡ true → image_bytes f ≡ gives (packed 8 widths (list_of f))
unfolding image_bytes
image_given f h = rw h

-- of the startup s
module _ (l : List ℕ) (s : Startup) (w tick : ℕ) where
  abbrev x : Stepped
  x = step_of s (reading_of w)

  call_stays : is_over s.over ≡ true → call_bytes l s w tick ≡ gives (number_of x.report, take 72 l)
  unfolding call_bytes
  call_stays h = rw h

  call_moves : (i : List ℕ) → is_over s.over ≡ false → leaves_as_it_was x.report ≡ false → image_bytes x.startup.fields ≡ gives i →
      call_bytes l s w tick ≡
      gives (number_of x.report, take 10 l ++ (i ++ (counts_bytes x.startup x.report ++ noted_bytes (ticks_part l) s.unmet tick x.report)))
  unfolding call_bytes
  call_moves i h k e = rw (h, k, e)

-- ---- a place that shows a startup with its ticks

module _ (p : List ℕ) (t : Ticked) (report : Report) (rest l : List ℕ) (ten : length p ≡ 10) (shows : Shows p t report rest l) where
  abbrev s : Startup
  s = t.startup

  abbrev i : List ℕ
  i = shows.image

  abbrev k : List ℕ
  k = ticks_bytes t.ticks

  eight : length i ≡ 8
  eight = (image.inverse).size s.fields i shows.imaged

  forty : length k ≡ 40
  forty = laying.forty t.ticks

  long : 72 ≤ length l
  unfolding counts_bytes
  long =
      let n : length l ≡ length (p ++ (i ++ (counts_bytes s report ++ k))) + length rest =
      ap length shows.lent ∙ length-append (p ++ (i ++ (counts_bytes s report ++ k))) rest in
      let a = length-append p (i ++ (counts_bytes s report ++ k)) in
      let b = length-append i (counts_bytes s report ++ k) in
      let c : length (counts_bytes s report ++ k) ≡ 14 + length k = length-append (counts_bytes s report) k in
      omega (arith, n, a, b, c, forty, eight, ten)

  byte : (n : ℕ) → get_or l (18 + n) 0 ≡ get_or (counts_bytes s report ++ (k ++ rest)) n 0
  byte n = ap (λ (l : List ℕ). get_or l (18 + n) 0) shows.lent ∙ byte_behind p i k rest s report ten eight n

  -- what a host reads of it
  pub tells : Storable t → Tells t report l
  unfolding counts_bytes ticks_bytes
  tells st = record {
    phase = byte 9;
    report_tag_lem = byte 10;
    number = byte 11;
    step = byte 12;
    longest = rw (byte 50, byte 51, byte 52, byte 53) (word_back (longest_of t.ticks.waits) (longest_small t.ticks (st.first, st.waits)));
  }

  pub kept : Storable t → read_profile p ≡ gives s.config → kept_of l ≡ gives t
  kept st reads = kept_again p t report rest l reads st shows

  -- One call on it, which leaves no place as it was and fields that are in width.
  module _ (st : Storable t) (reads : read_profile p ≡ gives s.config) (last : Agrees s.over report)
      (w tick : ℕ) (l' : List ℕ) (n : ℕ) (g : Leaves 72 (step_bytes l w tick) l l' n)
      (goes : leaves_as_it_was (step_of s (reading_of w)).report ≡ false) (fits : in_width (step_of s (reading_of w)).startup.fields ≡ true) where
    abbrev r : Reading
    r = reading_of w

    abbrev next : Ticked
    next = (stepped_in t r tick).place

    abbrev says : Report
    says = (stepped_in t r tick).report

    found : startup_in l ≡ gives s
    found = let o = bound (startup_in l) _ (kept st reads) in o.gave ∙ ap gives (ap (λ (t : Ticked). t.startup) (same_given o.after))

    answered : step_bytes l w tick ≡ call_bytes l s w tick
    unfolding step_bytes
    answered = rw found

    abbrev Does : Type 0
    Does = (n ≡ number_of says) × Shows p next says rest l'

    over : is_over s.over ≡ true → Does
    unfolding stepped_in ticked_of
    over h =
        let v = left_all (number_of says) (take 72 l) l l' n (step_bytes l w tick) long (answered ∙ call_stays l s w tick h) g in
        let same : next ≡ t = place_stays t r tick (rw h) in
        let agrees = subst (λ (t : Ticked). Agrees t.startup.over says) same (agrees_then t r tick goes) in
        let again : says ≡ report = agree_same s.over says report h agrees last in
        let whole : l' ≡ l = v.1 ∙ take-append-drop 72 l in
        (v.0, rw (same, again, whole) shows)

    moves : is_over s.over ≡ false → Does
    unfolding stepped_in ticked_of
    moves h =
        let x = step_of s r in
        let image = packed 8 widths (list_of x.startup.fields) in
        let imaged = image_given x.startup.fields fits in
        let v = left_all (number_of says) _ l l' n (step_bytes l w tick) long (answered ∙ call_moves l s w tick image h goes imaged) g in
        let front : take 10 l ≡ p = ap (take 10) shows.lent ∙ profile_part p i k rest s report ten eight in
        let part : ticks_part l ≡ k = ap ticks_part shows.lent ∙ ticks_part_lem p i k rest s report ten eight forty in
        let behind : drop 72 l ≡ rest = ap (drop 72) shows.lent ∙ rest_part p i k rest s report ten eight forty in
        let noted = noted_bytes_lem s.unmet tick x.report t.ticks (st.first, st.waits) in (
          v.0,
          subst (λ (t : Ticked). Shows p t says rest l') (sym (place_moves t r tick h goes))
              (record { image = image; imaged = imaged; lent = v.1 ∙ rw (front, part, behind, noted) }),
        )

    pub one_call : Does
    one_call = cases (is_over s.over) over moves
