-- What a call that C and Rust make gives: the number that it returns, and all that was lent. And HSE as it takes it.
-- Assumes nothing.
use Rattle.std.specs.Prelude.{ℕ, ◌≡◌, cond, Option, None, Some, List, [], ◌∷◌, ◌++◌, length, drop, eqb, ltb}
use Rattle.std.proofs.Common.{sym, ◌∙◌}
use Rattle.answer.specs.Answer.{Answer, gives, refuses, refuse, ◌>>=◌, ◌>>◌}
use Rattle.tree.specs.declared.Clocks.{Clocks}

-- HSE handed to a decoder as a number: 0 where there is none
abbrev pub decoder_hse : ℕ → Option ℕ
decoder_hse hz = cond (eqb hz 0) None (Some hz)

-- the number returned: 0, or the refusal
abbrev pub number_in : {A : Type 0} → Answer A → ℕ
number_in (gives a) = 0
number_in (refuses n) = n

-- What the lent items l, bytes or words, are to hold after n of them are given, or why none is: 32 first, then what refuses the record itself. What
-- is beyond the record stays. At bytes it is what a writer writes (layout's `written`).
abbrev pub through : {A : Type 0} → ℕ → Answer (List A) → List A → Answer (List A)
through n m l = do
  refuse 32 (ltb (length l) n)
  xs ← m
  gives (xs ++ drop n l)

-- the lent items after it: a refusal leaves them
abbrev pub after : {A : Type 0} → List A → Answer (List A) → List A
after l (gives xs) = xs
after l (refuses n) = l

-- A record m of n bytes or words, given through the lent ones l: 32 first where they are fewer, then what refuses the record. What is beyond the
-- record stays, and after a refusal all of it.
pub record Given {A : Type 0} (n : ℕ) (m : Answer (List A)) (l l' : List A) (r : ℕ) : Type 0 where
  pub number : r ≡ number_in (through n m l)
  pub lent : l' ≡ after l (through n m l)

-- Nothing is left open: two results that the promise allows are equal.
pub given_settled : {A : Type 0} {n : ℕ} {m : Answer (List A)} {l a b : List A} {r s : ℕ} → Given n m l a r → Given n m l b s → (r ≡ s) × (a ≡ b)
given_settled w v = (w.number ∙ sym v.number, w.lent ∙ sym v.lent)

-- one lent word after a number is given through it: a refusal leaves it
abbrev one_after : ℕ → Answer ℕ → ℕ
one_after x (gives a) = a
one_after x (refuses n) = x

-- A number given through one lent word.
pub record GivenOne (m : Answer ℕ) (x x' r : ℕ) : Type 0 where
  pub number : r ≡ number_in m
  pub lent : x' ≡ one_after x m

pub given_one_settled : {m : Answer ℕ} {x a b r s : ℕ} → GivenOne m x a r → GivenOne m x b s → (r ≡ s) × (a ≡ b)
given_one_settled w v = (w.number ∙ sym v.number, w.lent ∙ sym v.lent)

-- two numbers
abbrev pub pair_of : ℕ × ℕ → List ℕ
pair_of a = a.0 ∷ a.1 ∷ []

abbrev pub two_words : Answer (ℕ × ℕ) → Answer (List ℕ)
two_words m = do
  a ← m
  gives (pair_of a)

-- the six clocks, in the program's order
abbrev pub six_of : Clocks → List ℕ
six_of k = k.sysclk ∷ k.hclk ∷ k.pclk1 ∷ k.pclk2 ∷ k.pclk1_tim ∷ k.pclk2_tim ∷ []

abbrev pub six_words : Answer Clocks → Answer (List ℕ)
six_words m = do
  k ← m
  gives (six_of k)

-- and one more number behind them
abbrev pub seven_of : Clocks × ℕ → List ℕ
seven_of a = six_of a.0 ++ (a.1 ∷ [])

abbrev pub seven_words : Answer (Clocks × ℕ) → Answer (List ℕ)
seven_words m = do
  a ← m
  gives (seven_of a)
