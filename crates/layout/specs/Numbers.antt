-- Numbers as four bytes each, the most significant first.
-- Assumes nothing.
use Rattle.std.specs.Prelude.{ℕ, ◌+◌, ◌*◌, ◌≡◌, refl, cond, List, [], ◌∷◌, ◌++◌, ltb, length}
use Rattle.std.proofs.lemmas.List.Edits.{sets}
use Rattle.layout.specs.Layout.{unpack, bytes}

abbrev pub in_fours : List ℕ → List ℕ
in_fours [] = []
in_fours (x ∷ xs) = unpack (bytes 4) x ++ in_fours xs

-- The bytes l with the numbers xs over them, from place `at` on. Where there is no room for all of these, they stay.
unfoldable pub with_numbers : List ℕ → ℕ → List ℕ → List ℕ
with_numbers l at xs = cond (ltb (length l) (at + 4 * length xs)) l (sets l at (in_fours xs))

-- Two numbers; one over the last four of five bytes; and one that has no room.
pub worked : (in_fours (0x01020304 ∷ 255 ∷ []) ≡ 1 ∷ 2 ∷ 3 ∷ 4 ∷ 0 ∷ 0 ∷ 0 ∷ 255 ∷ []) ×
    (with_numbers (9 ∷ 9 ∷ 9 ∷ 9 ∷ 9 ∷ []) 1 (0x01020304 ∷ []) ≡ 9 ∷ 1 ∷ 2 ∷ 3 ∷ 4 ∷ []) ×
    (with_numbers (9 ∷ 9 ∷ 9 ∷ 9 ∷ []) 1 (0x01020304 ∷ []) ≡ 9 ∷ 9 ∷ 9 ∷ 9 ∷ [])
unfolding with_numbers
worked = (refl, refl, refl)
