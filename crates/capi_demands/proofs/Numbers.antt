-- Numbers of four bytes, read back; and the ticks, all their bytes read back, before a call and after it.
-- Assumes nothing.
use Prim.Native.Nat.{ℕ, zero, suc, ◌+◌, ◌<◌, max}
use mathlib.Core.Path.{◌≡◌, refl, sym, ap, ap₂, ◌∙◌}
use mathlib.Core.Bool.{Bool, true, false, cond}
use mathlib.Core.List.{List, [], ◌∷◌, ◌++◌}
use native.Mathlib.Omega.{arith}
use native.Mathlib.Nat.{mod-eq_of_lt}
use borrow.Author.Tests.{ltb-true, lt-ltb}
use lib.Dec.{eqb, ltb, lit<}
use lib.ListN.{length, drop, get_or}
use Rattle.answer.specs.Tools.{by_cond, and_left, and_right, and_both}
use Rattle.layout.specs.Layout.{unpack, bytes, num, fitting, Bytes}
use Rattle.layout.specs.Numbers.{in_fours}
use Rattle.layout.proofs.Laws.{pack_lt, pack_unpack}
use Rattle.startup.specs.declared.Report.{Report}
use Rattle.startup.specs.declared.Report.TheVariants.{Worked, Waiting, Running, Failed, Refused}
use Rattle.ticks.specs.declared.Waits.{Waits}
use Rattle.ticks.specs.declared.Ticks.{Ticks}
use Rattle.ticks.specs.Ticks.{spent_of, noted_of, met_of, eight_of, longest_of, meets_wait, after_of}
use Rattle.ticks.proofs.Laws.{unmet_waits}
use Rattle.capi_startup.specs.Kept.{number_at, ticks_in, ticks_bytes, noted_bytes}
use Rattle.capi_demands.specs.Place.{Word, SmallWaits}

-- a number's four bytes spell it
pub word_back : (x : ℕ) → Word x → num (unpack (bytes 4) x) ≡ x
word_back x h = pack_unpack (bytes 4) x ∙ mod-eq_of_lt h

-- Of bytes, each is below 256, and so four of them spell a small number.

pub byte_at : (l : List ℕ) (i : ℕ) → Bytes l → get_or l i 0 < 256
byte_at [] i h = lit< tt
byte_at (x ∷ l) zero h = ltb-true x 256 (and_left (ltb x 256) (fitting (bytes (length l)) l) h)
byte_at (x ∷ l) (suc i) h = byte_at l i (and_right (ltb x 256) (fitting (bytes (length l)) l) h)

pub word_at : (l : List ℕ) (i : ℕ) → Bytes l → Word (number_at l i)
word_at l i h =
    let below : (k : ℕ) → ltb (get_or l k 0) 256 ≡ true = λ k. lt-ltb (get_or l k 0) 256 (byte_at l k h) in
    pack_lt (bytes 4) (get_or l i 0 ∷ get_or l (i + 1) 0 ∷ get_or l (i + 2) 0 ∷ get_or l (i + 3) 0 ∷ [])
    (and_both (below i) (and_both (below (i + 1)) (and_both (below (i + 2)) (and_both (below (i + 3)) refl))))

-- what is to be read in the ticks' bytes
abbrev pub Small : Ticks → Type 0
Small t = Word t.first × SmallWaits t.waits

pub ticks_back : (t : Ticks) → Small t → ticks_in (ticks_bytes t) ≡ t
unfolding ticks_in ticks_bytes
ticks_back t (h, (a, b, c, d, e, f, g, i)) =
    let w = t.waits in
    rw (
      word_back t.first h,
      word_back w.at2 a,
      word_back w.at4 b,
      word_back w.at7 c,
      word_back w.at10 d,
      word_back w.at12 e,
      word_back w.at15 f,
      word_back w.at18 g,
      word_back w.at27 i,
    )

-- The longest is small where all eight are.

both_small : {m n : ℕ} → Word m → Word n → Word (max m n)
both_small h k = omega arith

pub longest_small : (t : Ticks) → Small t → Word (longest_of t.waits)
unfolding longest_of
longest_small t (h, (a, b, c, d, e, f, g, i)) =
    both_small a (both_small b (both_small c (both_small d (both_small e (both_small f (both_small g (both_small i (lit< tt))))))))

-- A call leaves small ticks small, its own being so.

spent_small : (first tick : ℕ) → Word (spent_of first tick)
spent_small first tick = omega arith

noted_small : (w : Waits) (step ticks : ℕ) → SmallWaits w → Word ticks → SmallWaits (noted_of w step ticks)
unfolding noted_of
noted_small w step ticks (a, b, c, d, e, f, g, i) h =
    let at : (k old : ℕ) → Word old → Word (cond (eqb step k) ticks old) = λ k old o. by_cond Word (eqb step k) ticks old (λ t. h) (λ t. o) in
    (at 2 _ a, at 4 _ b, at 7 _ c, at 10 _ d, at 12 _ e, at 15 _ f, at 18 _ g, at 27 _ i)

pub after_small : (t : Ticks) (unmet tick : ℕ) (report : Report) → Small t → Word tick → Small (after_of t unmet tick report)
unfolding after_of met_of
after_small t unmet tick (Worked step used) s h = (s.0, noted_small t.waits step _ s.1 (spent_small _ tick))
after_small t unmet tick (Waiting step used) s h = (by_cond Word (eqb unmet 0) tick t.first (λ e. h) (λ e. s.0), s.1)
after_small t unmet tick (Running step used) s h = s
after_small t unmet tick (Failed number step used) s h = s
after_small t unmet tick (Refused number) s h = s

-- The ticks' bytes after a call: whatever they were, they are read as the ticks after it; those of ticks are then those of the ticks after it.

behind_first : (b : List ℕ) (x : ℕ) → (ticks_in (in_fours (x ∷ []) ++ drop 4 b)).waits ≡ (ticks_in b).waits
unfolding ticks_in
behind_first [] x = refl
behind_first (a ∷ []) x = refl
behind_first (a ∷ b ∷ []) x = refl
behind_first (a ∷ b ∷ c ∷ []) x = refl
behind_first (a ∷ b ∷ c ∷ d ∷ l) x = refl

module _ (unmet tick : ℕ) (report : Report) where
  abbrev next : Ticks → Ticks
  next t = after_of t unmet tick report

  module _ (b : List ℕ) where
    -- the bytes b with the ticks t noted
    abbrev by : Bool → Ticks → List ℕ
    by m t = cond m (ticks_bytes t) (in_fours (t.first ∷ []) ++ drop 4 b)

    read_by : (m : Bool) → meets_wait report ≡ m → Small (next (ticks_in b)) → ticks_in (by m (next (ticks_in b))) ≡ next (ticks_in b)
    unfolding ticks_in
    read_by true e small = ticks_back (next (ticks_in b)) small
    read_by false e small =
        let first = (next (ticks_in b)).first in
        ap₂ (λ (first : ℕ) (waits : Waits). record { first = first; waits = waits }) (word_back first small.0)
        (behind_first b first ∙ sym (unmet_waits (ticks_in b) unmet tick report e))

    pub noted_in : Small (next (ticks_in b)) → ticks_in (noted_bytes b unmet tick report) ≡ next (ticks_in b)
    unfolding noted_bytes
    noted_in small = read_by (meets_wait report) refl small

  written_by : (t : Ticks) (m : Bool) → meets_wait report ≡ m → by (ticks_bytes t) m (next t) ≡ ticks_bytes (next t)
  unfolding ticks_bytes
  written_by t true e = refl
  written_by t false e =
      ap (λ (w : Waits). in_fours ((next t).first ∷ (eight_of w ++ (longest_of w ∷ [])))) (sym (unmet_waits t unmet tick report e))

  pub noted_bytes_lem : (t : Ticks) → Small t → noted_bytes (ticks_bytes t) unmet tick report ≡ ticks_bytes (next t)
  unfolding noted_bytes
  noted_bytes_lem t small =
      ap (λ (k : Ticks). by (ticks_bytes t) (meets_wait report) (next k)) (ticks_back t small) ∙ written_by t (meets_wait report) refl
