-- Facts of the list of steps, by their numbers.
-- Assumes nothing.
use Prim.Native.Nat.{ℕ, zero, suc, ◌+◌, ◌≤◌, ◌<◌, max}
use mathlib.Core.Path.{◌≡◌, refl, sym, ap, ◌∙◌, subst}
use mathlib.Core.Logic.{◌⊎◌, inl, inr, ⊎_elim}
use mathlib.Core.Bool.{Bool, true, false}
use mathlib.Core.List.{List, [], ◌∷◌}
use native.Mathlib.Omega.{arith}
use native.Mathlib.Nat.{le_of_suc-le-suc, eq-or-lt_of_le, not-suc-le-zero}
use native.Mathlib.Numerals.{add-one}
use borrow.Author.Tests.{leb-true, leb-false}
use lib.Dec.{leb}
use lib.ListN.{drop, length, drop_of_length-le}
use Rattle.v4x7.specs.declared.Config.{Config}
use Rattle.v4x7.specs.Check.{has_hse, has_usb_hs, has_main}
use Rattle.startup.specs.Steps.{parts, from, on_in, listed_of, step_after, next_of}

-- What holds at a, and at the n - 1 numbers after it, holds at any of these.
abbrev pub Row : (ℕ → Type 0) → ℕ → ℕ → Type 0
Row P a zero = Unit {0}
Row P a (suc n) = P a × Row P (suc a) n

pub within : (P : ℕ → Type 0) (a n k : ℕ) → Row P a n → a ≤ k → k < a + n → P k
within P a zero k r lo hi = absurd (omega arith)
within P a (suc n) k r lo hi =
    ⊎_elim (λ e. subst P e r.0) (λ h. within P (suc a) n k r.1 h (omega arith)) (eq-or-lt_of_le lo)

-- Two numbers, either way round.
by_test : (a b : ℕ) (t : Bool) → leb a b ≡ t → (a ≤ b) ⊎ (b < a)
by_test a b true e = inl (leb-true a b e)
by_test a b false e = inr (leb-false a b e)

le_or_lt : (a b : ℕ) → (a ≤ b) ⊎ (b < a)
le_or_lt a b = by_test a b (leb a b) refl

-- Behind a list nothing is left.
past : {A : Type 0} (l : List A) (k : ℕ) → length l < k → from k l ≡ []
past l zero h = refl
past l (suc j) h = drop_of_length-le l (le_of_suc-le-suc h)

-- The steps that belong to no part, and the numbers that no step has.

pub always_listed : (c : Config) (k : ℕ) → 1 ≤ k → k < 8 → listed_of c k ≡ true
unfolding listed_of
always_listed c k = within (λ k. listed_of c k ≡ true) 1 7 k (refl, (refl, (refl, (refl, (refl, (refl, (refl, tt)))))))

pub set_up_listed : (c : Config) (k : ℕ) → 19 ≤ k → k < 24 → listed_of c k ≡ true
unfolding listed_of
set_up_listed c k = within (λ k. listed_of c k ≡ true) 19 5 k (refl, (refl, (refl, (refl, (refl, tt)))))

pub switch_listed : (c : Config) (k : ℕ) → 26 ≤ k → k < 29 → listed_of c k ≡ true
unfolding listed_of
switch_listed c k = within (λ k. listed_of c k ≡ true) 26 3 k (refl, (refl, (refl, tt)))

pub none_listed : (c : Config) (k : ℕ) → 28 < k → listed_of c k ≡ false
unfolding listed_of
none_listed c k h = ap on_in (past (parts c) k h)

-- The steps of a part.

pub hse_listed : (c : Config) (k : ℕ) → 8 ≤ k → k < 11 → listed_of c k ≡ has_hse c.hse
unfolding listed_of
hse_listed c k = within (λ k. listed_of c k ≡ has_hse c.hse) 8 3 k (refl, (refl, (refl, tt)))

pub eth_listed : (c : Config) (k : ℕ) → 11 ≤ k → k < 13 → listed_of c k ≡ c.ethpll
unfolding listed_of
eth_listed c k = within (λ k. listed_of c k ≡ c.ethpll) 11 2 k (refl, (refl, tt))

pub usb_hs_listed : (c : Config) (k : ℕ) → 13 ≤ k → k < 16 → listed_of c k ≡ has_usb_hs c.hspll
unfolding listed_of
usb_hs_listed c k = within (λ k. listed_of c k ≡ has_usb_hs c.hspll) 13 3 k (refl, (refl, (refl, tt)))

pub main_listed : (c : Config) (k : ℕ) → 16 ≤ k → k < 19 → listed_of c k ≡ has_main c.pll
unfolding listed_of
main_listed c k = within (λ k. listed_of c k ≡ has_main c.pll) 16 3 k (refl, (refl, (refl, tt)))

pub ruleset listed_by = (always_listed, set_up_listed, switch_listed, none_listed, hse_listed, eth_listed, usb_hs_listed, main_listed)

-- The next step whose part is present is the one after n, or is looked for behind that.

on_after : (k n : ℕ) (l : List Bool) → on_in (drop n l) ≡ true → step_after k (drop n l) ≡ suc k
on_after k zero [] e = let z : false ≡ true = e in cc
on_after k zero (true ∷ l) e = refl
on_after k zero (false ∷ l) e = let z : false ≡ true = e in cc
on_after k (suc n) [] e = let z : false ≡ true = e in cc
on_after k (suc n) (b ∷ l) e = on_after k n l e

off_after : (k n : ℕ) (l : List Bool) → n < length l → on_in (drop n l) ≡ false → step_after k (drop n l) ≡ step_after (suc k) (drop (suc n) l)
off_after k n [] h e = absurd (not-suc-le-zero h)
off_after k zero (true ∷ l) h e = let z : true ≡ false = e in cc
off_after k zero (false ∷ l) h e = refl
off_after k (suc n) (b ∷ l) h e = off_after k n l (le_of_suc-le-suc h) e

module _ (c : Config) (k n : ℕ) (e : next_of c k ≡ next_of c n) where
  pub next_here : listed_of c (n + 1) ≡ true → n + 1 ≡ next_of c k
  unfolding listed_of next_of
  next_here on =
      let here : on_in (drop n (parts c)) ≡ true = rw add-one at on in
      sym (e ∙ on_after n n (parts c) here ∙ sym (add-one n))

  pub next_later : n < 28 → listed_of c (n + 1) ≡ false → next_of c k ≡ next_of c (n + 1)
  unfolding listed_of next_of
  next_later h off =
      let here : on_in (drop n (parts c)) ≡ false = rw add-one at off in
      e ∙ off_after n n (parts c) h here ∙ ap (next_of c) (sym (add-one n))

  pub next_none : 28 ≤ n → n ≡ next_of c k
  unfolding next_of
  next_none h = sym (e ∙ ap (step_after n) (drop_of_length-le (parts c) h))

-- behind the last step there is none, wherever the search began
pub next_end : (c : Config) (k n : ℕ) → next_of c k ≡ next_of c n → (k ≤ 28 → n ≤ 28) → 28 ≤ n → max k 28 ≡ next_of c k
next_end c k n e end h =
    ⊎_elim (λ le. let up = end le in let same : max k 28 ≡ n = omega arith in same ∙ next_none c k n e h)
    (λ lt. let same : max k 28 ≡ k = omega arith in same ∙ next_none c k k refl (omega arith)) (le_or_lt k 28)
