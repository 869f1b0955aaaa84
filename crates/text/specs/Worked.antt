-- Numbers in decimal, worked by hand. `negsuc n` is -(n + 1).
-- Assumes nothing.
use Rattle.std.specs.Prelude.{◌≡◌, refl, [], ◌∷◌, map, pos, negsuc}
use Rattle.text.specs.Decimal.{digits, decimal, signed}
use Rattle.text.specs.Text.{ascii}

pub signs : map signed (pos 0 ∷ pos 7 ∷ pos 44800 ∷ negsuc 0 ∷ negsuc 44799 ∷ [])
    ≡ ascii "0" ∷ ascii "7" ∷ ascii "44800" ∷ ascii "-1" ∷ ascii "-44800" ∷ []
unfolding signed decimal digits
signs = refl
