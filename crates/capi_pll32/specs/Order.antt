-- The order of refusals of calls on bytes: 32 for the lent memory, then the call's own.
-- Assumes nothing.
use Rattle.std.specs.Prelude.{◌≡◌, List, ◌∷◌, ◌++◌, ℕ, ltb, length, drop}
use Rattle.answer.specs.Answer.{Answer}
use Rattle.answer.specs.Order.{Test, first_of, bare, InOrder, order_past}
use Rattle.answer.specs.Lists.{order_map}
use Rattle.layout.specs.Lent.{written}

-- an answer of which it is known that it goes by a list
pub by_list : {A : Type 0} {m : Answer A} (l : List Test) → bare m ≡ first_of l → InOrder l m
by_list l e = record { goes = e }

-- n bytes or words are given through lent ones
pub lent_order : {l : List Test} (n : ℕ) (m : Answer (List ℕ)) (out : List ℕ) → InOrder l m → InOrder ((32, ltb (length out) n) ∷ l) (written n m out)
lent_order n m out h = order_past 32 (ltb (length out) n) (λ e. order_map (λ (b : List ℕ). b ++ drop n out) m h)
