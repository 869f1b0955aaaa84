-- Text put into lent bytes, piece by piece.
-- Assumes nothing.
use Rattle.std.specs.Prelude.{ℕ, ◌+◌, List, [], ◌∷◌, ◌++◌, ◌≡◌, refl, ltb, length, take, drop, Option, Some, None}
use Rattle.std.proofs.Common.{sym, ◌∙◌}
use Prim.Native.Char.{code}
use Prim.Native.String as string
use Rattle.answer.specs.Answer.{Answer, gives, refuses, refuse, ◌>>=◌, ◌>>◌, settled_by}
use Rattle.layout.specs.Lent.{after}
use Rattle.text.specs.Decimal.{decimal}

-- the bytes of a text of ASCII letters
abbrev pub ascii : string.String → List ℕ
ascii string.[] = []
ascii (string.◌∷◌ c s) = code c ∷ ascii s

-- a name, one space, a number in decimal, one newline
unfoldable pub line_of : List ℕ → ℕ → List ℕ
line_of name n = name ++ ascii " " ++ decimal n ++ ascii "\n"

-- the place where text goes on; 32 where there was no room
abbrev pub place_of : Option ℕ → Answer ℕ
place_of (Some at) = gives at
place_of None = refuses 32

-- the bytes l with the text xs over them, from the place `at` on
abbrev pub overlaid : List ℕ → ℕ → List ℕ → List ℕ
overlaid l at xs = take at l ++ xs ++ drop (at + length xs) l

-- the place, if the bytes l have room for the text xs there
abbrev pub room_of : Answer ℕ → List ℕ → List ℕ → Answer ℕ
room_of place xs l = do
  at ← place
  refuse 32 (ltb (length l) (at + length xs))
  gives at

-- the place after the text
abbrev pub end_of : Answer ℕ → List ℕ → List ℕ → Answer ℕ
end_of place xs l = do
  at ← room_of place xs l
  gives (at + length xs)

-- the bytes with the text in them
abbrev pub with_text : Answer ℕ → List ℕ → List ℕ → Answer (List ℕ)
with_text place xs l = do
  at ← room_of place xs l
  gives (overlaid l at xs)

-- The text xs put at a place of l: the answer r, and every lent byte.
pub record Placed (place : Option ℕ) (xs l l' : List ℕ) (r : Option ℕ) : Type 0 where
  pub answer : place_of r ≡ end_of (place_of place) xs l
  pub bytes : l' ≡ after l (with_text (place_of place) xs l)

-- Nothing is left open: the answer and the bytes are settled.
put_of : Answer ℕ → Option ℕ
put_of (gives at) = Some at
put_of (refuses n) = None

put_again : (r : Option ℕ) → put_of (place_of r) ≡ r
unfolding put_of
put_again (Some at) = refl
put_again None = refl

pub put_settled : (r s : Option ℕ) → place_of r ≡ place_of s → r ≡ s
put_settled = settled_by place_of put_of put_again

pub placed_settled : {p : Option ℕ} {xs l a b : List ℕ} {r s : Option ℕ} → Placed p xs l a r → Placed p xs l b s → (r ≡ s) × (a ≡ b)
placed_settled {r = r} {s = s} v w = (put_settled r s (v.answer ∙ sym w.answer), v.bytes ∙ sym w.bytes)
