-- Refusals of readers and writers in an order.
-- Assumes nothing.
use Rattle.std.specs.Prelude.{ℕ, zero, suc, ◌+◌, ◌*◌, ◌^◌, ◌≡◌, refl, Bool, true, false, not, List, [], ◌∷◌, ◌++◌, length, drop, ltb}
use Rattle.std.proofs.Common.{sym, ap, ap₂, ◌∙◌, add-zero, mul_assoc, pow-suc, arith}
use Rattle.answer.specs.Answer.{Answer, gives, refuses, refuse, ◌>>=◌, ◌>>◌}
use Rattle.answer.specs.Tests.{every, chain, every_chain}
use Rattle.answer.specs.Order.{Test, first_of, bare}
use Rattle.layout.specs.Bits.{bit_at, bits_at}
use Rattle.layout.specs.Lent.{written}

-- several tests that all have to hold, each refused by k
abbrev pub sames : ℕ → List Bool → List Test
sames k [] = []
sames k (b ∷ bs) = (k, not b) ∷ sames k bs

by_chain : {A : Type 0} (k : ℕ) (bs : List Bool) (x : A) → bare (◌>>◌ (refuse k (not (chain bs))) (gives x)) ≡ first_of (sames k bs)
by_chain k [] x = refl
by_chain k (true ∷ bs) x = by_chain k bs x
by_chain k (false ∷ bs) x = refl

pub same_number : {A : Type 0} (k : ℕ) (bs : List Bool) (x : A) → bare (◌>>◌ (refuse k (not (every bs))) (gives x)) ≡ first_of (sames k bs)
same_number k bs x = rw (every_chain bs) (by_chain k bs x)

-- a test, and what follows it
pub after_test : {A : Type 0} (n : ℕ) (t : Bool) (m : Answer A) (l : List Test) → bare m ≡ first_of l
    → bare (◌>>◌ (refuse n t) m) ≡ first_of ((n, t) ∷ l)
after_test n true m l e = refl
after_test n false m l e = e

-- A writer tests 32 first, then what refuses the record.
after_room : (m : Answer (List ℕ)) (t : Bool) (d : List ℕ) (l : List Test) → bare m ≡ first_of l
    → bare (◌>>◌ (refuse 32 t) (◌>>=◌ m (λ b. gives (b ++ d)))) ≡ first_of ((32, t) ∷ l)
after_room m true d l e = refl
after_room (gives b) false d l e = e
after_room (refuses k) false d l e = e

pub written_in_order : (n : ℕ) (m : Answer (List ℕ)) (l : List ℕ) (tests : List Test) → bare m ≡ first_of tests
    → bare (written n m l) ≡ first_of ((32, ltb (length l) n) ∷ tests)
written_in_order n m l tests e = after_room m (ltb (length l) n) (drop n l) tests e

-- bits one after another
regroup : (x b y z : ℕ) → z ≡ x * 2 → (x + b) * 2 + y ≡ z + (b * 2 + y)
regroup x b y z e = omega arith

pub bits_split : (s : List ℕ) (at m n : ℕ) → bits_at s at (m + n) ≡ bits_at s at m * 2 ^ n + bits_at s (at + m) n
unfolding bits_at
bits_split s at m zero = let e : bits_at s at (m + zero) ≡ bits_at s at m = ap (bits_at s at) (add-zero m) in omega (arith, e)
bits_split s at m (suc n) =
    let e : m + suc n ≡ suc (m + n) = omega arith in
    let p : at + (m + n) ≡ at + m + n = omega arith in
    let q : bits_at s at m * 2 ^ suc n ≡ bits_at s at m * 2 ^ n * 2 =
    ap (λ (k : ℕ). bits_at s at m * k) (pow-suc 2 n) ∙ sym (mul_assoc (bits_at s at m) (2 ^ n) 2) in
    ap (bits_at s at) e ∙ ap₂ (λ (x y : ℕ). x * 2 + y) (bits_split s at m n) (ap (bit_at s) p)
    ∙ regroup (bits_at s at m * 2 ^ n) (bits_at s (at + m) n) (bit_at s (at + m + n)) (bits_at s at m * 2 ^ suc n) q
