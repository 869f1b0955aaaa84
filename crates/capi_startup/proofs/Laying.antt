-- What the calls lay over a place's parts: each byte of the counts and of the ticks, or the first tick alone. Assumes nothing.
use Prim.Native.Nat.{ℕ, ◌+◌, ◌*◌, ◌≤◌}
use mathlib.Core.Path.{◌≡◌, refl, sym, ap, ◌∙◌}
use mathlib.Core.Bool.{Bool, true, false}
use mathlib.Core.List.{List, [], ◌∷◌, ◌++◌, append-nil}
use native.Mathlib.Omega.{arith}
use lib.ListN.{length, drop, set, length-drop, length-set}
use lib.Seq.{sets, sets-eq, drop-length}
use Rattle.answer.specs.Tools.{by_cond}
use Rattle.layout.specs.Numbers.{in_fours, with_numbers}
use Rattle.layout.proofs.Filling.{sets_append, numbers_put}
use Rattle.startup.specs.declared.Report.{Report}
use Rattle.startup.specs.declared.Startup.{Startup}
use Rattle.ticks.specs.declared.Ticks as declared
use Rattle.ticks.specs.Ticks.{eight_of, longest_of, meets_wait, after_of}
use Rattle.capi_startup.specs.Kept.{ticks_in, counts_bytes, ticks_bytes, noted_bytes}

-- a part of which each byte is stored
all_set : (l vs : List ℕ) → length l ≡ length vs → sets l 0 vs ≡ vs
all_set l vs e =
    let n : 0 + length vs ≡ length l = omega arith in
    let h : 0 + length vs ≤ length l = omega arith in
    sets-eq vs l 0 h ∙ ap (λ (k : ℕ). vs ++ drop k l) n ∙ ap (λ (x : List ℕ). vs ++ x) (drop-length l) ∙ append-nil vs

-- ---- the counts: the step, two numbers, and five bytes behind them

pub counts_laid : (l m : List ℕ) (step unmet used a b c d e : ℕ) → length l ≡ 14 → m ≡ with_numbers (set l 0 step) 1 (unmet ∷ used ∷ []) →
    let vs = a ∷ b ∷ c ∷ d ∷ e ∷ [] in sets m 9 vs ≡ step ∷ (in_fours (unmet ∷ used ∷ []) ++ vs)
counts_laid l m step unmet used a b c d e h p =
    let vs = a ∷ b ∷ c ∷ d ∷ e ∷ [] in
    let ns = in_fours (unmet ∷ used ∷ []) in
    let n = length-set l 0 step in
    let r : 1 + 8 ≤ length (set l 0 step) = omega arith in
    ap (λ (x : List ℕ). sets x 9 vs) (p ∙ numbers_put (set l 0 step) (unmet ∷ used ∷ []) 1 r)
    ∙ sym (sets_append (set l 0 step) 1 ns vs)
    ∙ all_set l (step ∷ (ns ++ vs)) h

pub fourteen : (s : Startup) (report : Report) → length (counts_bytes s report) ≡ 14
unfolding counts_bytes
fourteen s report = refl

-- ---- the ticks

pub forty : (t : declared.Ticks) → length (ticks_bytes t) ≡ 40
unfolding ticks_bytes
forty t = refl

fours : (ns : List ℕ) → length (in_fours ns) ≡ 4 * length ns
fours [] = refl
fours (n ∷ ns) = let h = fours ns in omega arith

-- numbers that fill their part
pub numbers_whole : (l ns : List ℕ) → length l ≡ length (in_fours ns) → with_numbers l 0 ns ≡ in_fours ns
numbers_whole l ns e =
    let h : 0 + 4 * length ns ≤ length l = omega (arith, fours ns) in
    numbers_put l ns 0 h ∙ all_set l (in_fours ns) e

pub ticks_laid : (t : declared.Ticks) (longest : ℕ) (l m : List ℕ) → length l ≡ 40 → longest ≡ longest_of t.waits →
    m ≡ with_numbers l 0 (t.first ∷ (eight_of t.waits ++ (longest ∷ []))) → m ≡ ticks_bytes t
unfolding ticks_bytes
ticks_laid t longest l m e q p =
    p ∙ numbers_whole l (t.first ∷ (eight_of t.waits ++ (longest ∷ []))) e
    ∙ ap (λ (n : ℕ). in_fours (t.first ∷ (eight_of t.waits ++ (n ∷ [])))) q

pub noted_length : (b : List ℕ) (unmet tick : ℕ) (report : Report) → length b ≡ 40 → length (noted_bytes b unmet tick report) ≡ 40
unfolding noted_bytes
noted_length b unmet tick report h =
    let t = after_of (ticks_in b) unmet tick report in
    by_cond (λ (l : List ℕ). length l ≡ 40) (meets_wait report) (ticks_bytes t) (in_fours (t.first ∷ []) ++ drop 4 b)
    (λ e. forty t) (λ e. omega (arith, length-drop 4 b))

module _ (b : List ℕ) (unmet tick : ℕ) (report : Report) (e : length b ≡ 40) (u t : declared.Ticks) (p : u ≡ ticks_in b)
    (q : t ≡ after_of u unmet tick report) (met : Bool) (w : met ≡ meets_wait report) where
  -- a wait is met: all ticks are written
  pub all_noted : met ≡ true → ticks_bytes t ≡ noted_bytes b unmet tick report
  unfolding noted_bytes
  all_noted h = rw (sym w, h, q, p)

  -- none is: the first one alone
  pub first_noted : met ≡ false → with_numbers b 0 (t.first ∷ []) ≡ noted_bytes b unmet tick report
  unfolding noted_bytes
  first_noted h =
      let four = in_fours (t.first ∷ []) in
      let r : 0 + 4 ≤ length b = omega arith in
      numbers_put b (t.first ∷ []) 0 r ∙ sets-eq four b 0 r ∙ rw (sym w, h, q, p)
