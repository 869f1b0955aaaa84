-- What the image's reader and writer refuse, in document 01's order, by the bits of the image.
-- Assumes nothing.
use Rattle.std.specs.Prelude.{ℕ, ◌≡◌, not, List, [], ◌∷◌, length, eqb, ltb}
use Rattle.answer.specs.Answer.{gives, refuse, ◌>>◌}
use Rattle.answer.specs.Order.{Test, first_of, bare}
use Rattle.layout.specs.Layout.{packed}
use Rattle.layout.specs.Bits.{bits_at, cut}
use Rattle.layout.specs.Lent.{written}
use Rattle.layout.specs.Order.{sames, after_test, same_number, written_in_order}
use Rattle.image.specs.declared.Fields.{Fields}
use Rattle.image.specs.Image.{widths, zero_filled, fields_of, list_of, read_image, in_width, image_bytes}

-- "Readers the length, then the fields in layout order."
abbrev pub read_tests : List ℕ → List Test
read_tests s =
    (31, not (eqb (length s) 8))  -- image not 8 bytes
    ∷ (31, not (eqb (bits_at s 59 5) 0))  -- filling not zero
    ∷ []

pub read_in_order : (s : List ℕ) → bare (read_image s) ≡ first_of (read_tests s)
unfolding read_image
read_in_order s =
    let l = cut widths s 0 in
    after_test 31 (not (eqb (length s) 8)) (◌>>◌ (refuse 31 (not (zero_filled l))) (gives (fields_of l))) (sames 31 (zero_filled l ∷ []))
    (same_number 31 (zero_filled l ∷ []) (fields_of l))

-- "Writers test 32 first .. a code too wide gives 28."
abbrev pub write_tests : Fields → List ℕ → List Test
write_tests f l =
    (32, ltb (length l) 8)  -- lent output shorter than the record
    ∷ (28, not (in_width f))  -- a code too wide
    ∷ []

pub write_in_order : (f : Fields) (l : List ℕ) → bare (written 8 (image_bytes f) l) ≡ first_of (write_tests f l)
unfolding image_bytes
write_in_order f l = written_in_order 8 (image_bytes f) l ((28, not (in_width f)) ∷ []) (same_number 28 (in_width f ∷ []) (packed 8 widths (list_of f)))
