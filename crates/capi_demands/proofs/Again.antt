-- A place's bytes read back as the startup with its ticks that was stored.
-- Assumes nothing.
use Rattle.std.specs.Prelude.{Option, None, Some}
use Prim.Native.Nat.{ℕ, ◌+◌}
use mathlib.Core.Path.{◌≡◌, refl, sym, ap, ◌∙◌}
use mathlib.Core.Logic.{inl, inr}
use mathlib.Core.Bool.{not}
use mathlib.Core.List.{List, ◌++◌, append_assoc}
use borrow.Author.Tests.{eqb-true}
use lib.Dec.{eqb}
use lib.ListN.{length, take, drop, get_or}
use lib.Seq.{take_at, drop_at, drop-drop, get_or-drop}
use Rattle.answer.specs.Answer.{gives, refuse, ◌>>◌}
use Rattle.layout.specs.Bits.{cut}
use Rattle.layout.proofs.RoundTrip as layout
use Rattle.v4x7.specs.declared.Config.{Config}
use Rattle.profile.specs.Profile.{widths, allowed, config_of, read_profile}
use Rattle.image.specs.Image.{read_image, image_bytes}
use Rattle.image.proofs.RoundTrip as image
use Rattle.startup.specs.declared.Report.{Report}
use Rattle.startup.specs.declared.Report.TheVariants.{Worked, Waiting, Running, Failed, Refused}
use Rattle.startup.specs.declared.Startup.{Startup}
use Rattle.ticks.specs.declared.Ticked.{Ticked}
use Rattle.capi_startup.specs.Kept.{phase_of, tag_of, number_at, standing_of, startup_in, ticks_in, ticks_part, kept_of, counts_bytes, ticks_bytes}
use Rattle.capi_startup.proofs.Laying.{forty}
use Rattle.capi_demands.specs.Place.{HeldPhase, Word, Storable, ReadsBack}
use Rattle.capi_demands.proofs.Numbers.{word_back, ticks_back}

-- a phase by its number
phase_again : (h : Option Report) (step used : ℕ) → HeldPhase h step used → phase_of (tag_of h) step used ≡ h
unfolding phase_of
phase_again None step used r = refl
phase_again (Some (Worked s u)) step used r = absurd r
phase_again (Some (Waiting s u)) step used r = absurd r
phase_again (Some (Running s u)) step used (e, f) = rw (e, f)
phase_again (Some (Failed n s u)) step used (inl a, e, f) = rw (a, e, f)
phase_again (Some (Failed n s u)) step used (inr a, e, f) = rw (a, e, f)
phase_again (Some (Refused n)) step used e = rw e

pub read_length : (p : List ℕ) (c : Config) → read_profile p ≡ gives c → length p ≡ 10
unfolding read_profile
read_length p c e =
    eqb-true (length p) 10
    (layout.passed 29 (eqb (length p) 10) (◌>>◌ (refuse 30 (not (allowed (cut widths p 0)))) (gives (config_of (cut widths p 0)))) c e).0

-- The parts of a place: a profile p, an image i, the counts of s with its last report, and k for the ticks.
module _ (p i k rest : List ℕ) (s : Startup) (report : Report) (ten : length p ≡ 10) (eight : length i ≡ 8) where
  abbrev tail : List ℕ
  tail = counts_bytes s report ++ (k ++ rest)

  abbrev l : List ℕ
  l = (p ++ (i ++ (counts_bytes s report ++ k))) ++ rest

  -- one behind the other
  in_row : l ≡ p ++ (i ++ tail)
  in_row =
      append_assoc p (i ++ (counts_bytes s report ++ k)) rest
      ∙ ap (λ (z : List ℕ). p ++ z)
      (append_assoc i (counts_bytes s report ++ k) rest ∙ ap (λ (z : List ℕ). i ++ z) (append_assoc (counts_bytes s report) k rest))

  pub profile_part : take 10 l ≡ p
  profile_part = ap (take 10) in_row ∙ take_at p (i ++ tail) 10 ten

  behind_profile : drop 10 l ≡ i ++ tail
  behind_profile = ap (drop 10) in_row ∙ drop_at p (i ++ tail) 10 ten

  image_part : take 8 (drop 10 l) ≡ i
  image_part = ap (take 8) behind_profile ∙ take_at i tail 8 eight

  behind_image : drop 18 l ≡ tail
  behind_image = sym (drop-drop 8 10 l) ∙ ap (drop 8) behind_profile ∙ drop_at i tail 8 eight

  pub byte_behind : (n : ℕ) → get_or l (18 + n) 0 ≡ get_or tail n 0
  byte_behind n = sym (get_or-drop 18 l n 0) ∙ ap (λ (z : List ℕ). get_or z n 0) behind_image

  behind_counts : drop 32 l ≡ k ++ rest
  unfolding counts_bytes
  behind_counts = sym (drop-drop 14 18 l) ∙ ap (drop 14) behind_image

  pub ticks_part_lem : length k ≡ 40 → ticks_part l ≡ k
  ticks_part_lem h = ap (take 40) behind_counts ∙ take_at k rest 40 h

  pub rest_part : length k ≡ 40 → drop 72 l ≡ rest
  rest_part h = sym (drop-drop 40 32 l) ∙ ap (drop 40) behind_counts ∙ drop_at k rest 40 h

  unmet_again : Word s.unmet → number_at l 19 ≡ s.unmet
  unfolding counts_bytes
  unmet_again h = rw (byte_behind 1, byte_behind 2, byte_behind 3, byte_behind 4) (word_back s.unmet h)

  used_again : Word s.used → number_at l 23 ≡ s.used
  unfolding counts_bytes
  used_again h = rw (byte_behind 5, byte_behind 6, byte_behind 7, byte_behind 8) (word_back s.used h)

  step_again : get_or l 18 0 ≡ s.step
  unfolding counts_bytes
  step_again = byte_behind 0

  tag_again : get_or l 27 0 ≡ tag_of s.over
  unfolding counts_bytes
  tag_again = byte_behind 9

  standing_again : Word s.unmet → Word s.used → HeldPhase s.over s.step s.used → standing_of s.config s.fields l ≡ s
  unfolding standing_of
  standing_again a b h = rw (step_again, unmet_again a, used_again b, tag_again, phase_again s.over s.step s.used h)

  startup_again : read_profile p ≡ gives s.config → read_image i ≡ gives s.fields →
      Word s.unmet → Word s.used → HeldPhase s.over s.step s.used → startup_in l ≡ gives s
  unfolding startup_in
  startup_again c f a b h = rw (profile_part, image_part, c, f) (ap gives (standing_again a b h))

-- Whatever bytes stand for the ticks, these read back too.
pub kept_of_lem : (p i k rest : List ℕ) (t : Ticked) (report : Report) → length p ≡ 10 → read_profile p ≡ gives t.startup.config →
    image_bytes t.startup.fields ≡ gives i → length k ≡ 40 → ticks_in k ≡ t.ticks → Storable t →
    kept_of ((p ++ (i ++ (counts_bytes t.startup report ++ k))) ++ rest) ≡ gives t
kept_of_lem p i k rest t report ten c f forty same st =
    let s = t.startup in
    let eight = (image.inverse).size s.fields i f in
    let g = (image.inverse).read_write s.fields i f in
    rw (startup_again p i k rest s report ten eight c g st.unmet st.used st.phase, ticks_part_lem p i k rest s report ten eight forty, same)

pub kept_again : ReadsBack
kept_again p t report rest l c st s =
    ap kept_of s.lent ∙
    kept_of_lem p s.image (ticks_bytes t.ticks) rest t report (read_length p t.startup.config c) c s.imaged (forty t.ticks)
    (ticks_back t.ticks (st.first, st.waits)) st
