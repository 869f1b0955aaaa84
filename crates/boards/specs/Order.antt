-- What a tray refuses, in document 02's order.
-- Assumes nothing.
use Rattle.std.specs.Prelude.{ℕ, ◌*◌, ◌%◌, ◌≡◌, not, List, [], ◌∷◌, ltb, eqb, length}
use Rattle.answer.specs.Order.{Test, first_of, bare, order_past, order_gives}
use Rattle.layout.specs.Order.{written_in_order}
use Rattle.boards.specs.Tray.{boards_in, tray_of, tray_into}

-- "29 if the length is not a multiple of ten"
abbrev pub length_tests : List ℕ → List Test
length_tests s = (29, not (eqb (length s % 10) 0)) ∷ []

-- "32 first if the output has fewer than 32 bytes for each whole ten of input, then 29 .."
abbrev pub tray_tests : List ℕ → List ℕ → List Test
tray_tests s l = (32, ltb (length l) (32 * boards_in s)) ∷ length_tests s

pub tray_in_order : (s l : List ℕ) → bare (tray_into s l) ≡ first_of (tray_tests s l)
unfolding tray_of
tray_in_order s l =
    written_in_order (32 * boards_in s) (tray_of s) l (length_tests s) (order_past 29 (not (eqb (length s % 10) 0)) (λ e. order_gives)).goes
