-- What a start leaves in the place: profile and image as they were handed in, and two parts behind them. Assumes nothing.
use Prim.Native.Nat.{ℕ, ◌≤◌}
use mathlib.Core.Path.{◌≡◌, sym, ap, ◌∙◌}
use mathlib.Core.Bool.{not}
use mathlib.Core.List.{List, ◌++◌, append_assoc}
use borrow.Author.Tests.{eqb-true, not-false}
use borrow.Rule.Slice.PartMut.{put_mid}
use lib.Dec.{eqb}
use lib.ListN.{length, drop}
use Rattle.answer.specs.Answer.{Answer, gives, refuse, ◌>>◌, bound, passed}
use Rattle.image.specs.Image.{read_image}
use Rattle.profile.specs.Profile.{read_profile}
use Rattle.startup.specs.declared.Startup.{Startup}
use Rattle.startup.specs.declared.Report.TheVariants.{Worked}
use Rattle.ticks.specs.declared.Ticked.{Ticked}
use Rattle.ticks.specs.Ticks.{begun_with}
use Rattle.capi_give.specs.Given.{Given}
use Rattle.capi_give.specs.Giving.{given_as}
use Rattle.capi_startup.specs.Kept.{counts_bytes, ticks_bytes}
use Rattle.capi_startup.specs.Calls.{start_read, start_bytes}
use Rattle.capi_startup.proofs.Laying.{fourteen, forty}
use Rattle.capi_startup.proofs.Placing.{Front, laid}

-- what a test of the length lets through has that length
of_length : {A : Type 0} (k n : ℕ) (s : List ℕ) (m : Answer A) {a : A} → (◌>>◌ (refuse k (not (eqb (length s) n))) m) ≡ gives a → length s ≡ n
of_length k n s m e = eqb-true (length s) n (not-false (eqb (length s) n) (passed k (not (eqb (length s) n)) m e).failed)

module _ (p i : List ℕ) (s : Startup) (g : start_read p i ≡ gives s) where
  read : (length p ≡ 10) × (length i ≡ 8)
  unfolding start_read read_profile read_image
  read =
      let c = bound (read_profile p) _ g in
      let f = bound (read_image i) _ c.after in
      (of_length 29 10 p _ c.gave, of_length 31 8 i _ f.gave)

  pub profile_size : length p ≡ 10
  profile_size = read.0

  pub image_size : length i ≡ 8
  image_size = read.1

  -- the place's parts as they are laid, one behind another
  pub begun : (l a b m r : List ℕ) (x : Ticked) → 72 ≤ length l → a ≡ p → b ≡ i → m ≡ counts_bytes s (Worked 0 0) → x ≡ begun_with s → r ≡ ticks_bytes x.ticks →
      Given 72 (start_bytes p i) l (put_mid 32 40 (put_mid 18 14 (put_mid 10 8 (a ++ drop 10 l) b) m) r) 0
  unfolding start_bytes
  begun l a b m r x h profile image c o d =
      let front : Front 10 l (a ++ drop 10 l) p = record { size = read.0; bytes = ap (λ (y : List ℕ). y ++ drop 10 l) profile } in
      let ticks : r ≡ ticks_bytes (begun_with s).ticks = d ∙ ap (λ (y : Ticked). ticks_bytes y.ticks) o in
      let counted = laid (laid front 8 b (ap length image ∙ read.1)) 14 m (ap length c ∙ fourteen s (Worked 0 0)) in
      given_as 72 (start_bytes p i) l (p ++ (i ++ (m ++ r))) _ h (rw (g, sym c, sym ticks))
      ((laid counted 40 r (ap length d ∙ forty x.ticks)).bytes
      ∙ ap (λ (y : List ℕ). y ++ drop 72 l) (append_assoc (p ++ b) m r ∙ append_assoc p b (m ++ r) ∙ ap (λ (y : List ℕ). p ++ (y ++ (m ++ r))) image))
