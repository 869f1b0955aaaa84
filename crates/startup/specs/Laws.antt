-- Laws that hold the definitions to document 01's words where nothing else computes them.
-- Assumes nothing.
use Rattle.std.specs.Prelude.{ℕ, ◌+◌, ◌≡◌, refl, true, not, ◌||◌, [], ◌∷◌, eqb}
use Rattle.std.proofs.Common.{eqb-true}
use Rattle.answer.specs.Tests.{every_at}
use Rattle.tree.specs.declared.Clocks.{Clocks}
use Rattle.v4x7.specs.Check.{named_of}
use Rattle.image.specs.declared.Fields.{Fields}
use Rattle.image.specs.Image.{in_width}
use Rattle.startup.specs.Steps.{same_clocks}
use Rattle.startup.specs.declared.Reading.{Reading}
use Rattle.startup.specs.declared.Startup.{Startup}
use Rattle.startup.specs.Call.{handed_back, Event, back, wrote, met, waiting, missed, misread, compared, came_to, step_of}

abbrev clocks_of : ℕ → ℕ → ℕ → ℕ → ℕ → ℕ → Clocks
clocks_of s h p q t u = record { sysclk = s; hclk = h; pclk1 = p; pclk2 = q; pclk1_tim = t; pclk2_tim = u }

six : {s s' h h' p p' q q' t t' u u' : ℕ} → s ≡ s' → h ≡ h' → p ≡ p' → q ≡ q' → t ≡ t' → u ≡ u' →
    clocks_of s h p q t u ≡ clocks_of s' h' p' q' t' u'
six a b c d e f = rw (a, b, c, d, e, f)

-- Step 28 compares all six clocks: those that it finds the same are the same.
pub same_clocks_lem : (a b : Clocks) → same_clocks a b ≡ true → a ≡ b
same_clocks_lem a b e =
    let at = every_at (eqb a.sysclk b.sysclk ∷ eqb a.hclk b.hclk ∷ eqb a.pclk1 b.pclk1 ∷ eqb a.pclk2 b.pclk2
    ∷ eqb a.pclk1_tim b.pclk1_tim ∷ eqb a.pclk2_tim b.pclk2_tim ∷ []) e in
    six (eqb-true _ _ (at 0)) (eqb-true _ _ (at 1)) (eqb-true _ _ (at 2)) (eqb-true _ _ (at 3)) (eqb-true _ _ (at 4)) (eqb-true _ _ (at 5))

-- The unmet readings of its wait, and the readings used, after a call: an unmet reading counts for its wait, also the one that fails it; the one reading of
-- step 21 is no wait's; a step that is worked leaves none to the next.
abbrev unmet_after : Event → ℕ → ℕ
unmet_after back n = n
unmet_after (wrote f) n = 0
unmet_after met n = 0
unmet_after waiting n = n + 1
unmet_after missed n = n + 1
unmet_after misread n = n
unmet_after (compared same) n = n

pub unmet_after_lem : (next : ℕ) (s : Startup) (f : Fields) (e : Event) → (came_to next s f e).startup.unmet ≡ unmet_after e s.unmet
unmet_after_lem next s f back = refl
unmet_after_lem next s f (wrote g) = refl
unmet_after_lem next s f met = refl
unmet_after_lem next s f waiting = refl
unmet_after_lem next s f missed = refl
unmet_after_lem next s f misread = refl
unmet_after_lem next s f (compared same) = refl

-- 28 for a code goes before anything else, also after the end.
pub code_first : (s : Startup) (r : Reading) → (not (named_of s.config) || not (in_width s.fields)) ≡ true → step_of s r ≡ handed_back s
unfolding step_of
code_first s r e = rw e
