-- Records taken apart and made by a host, the fields one a byte in the layout's order, the filling last.
-- Assumes nothing.
use Rattle.std.specs.Prelude.{ℕ, not, List}
use Rattle.answer.specs.Answer.{Answer, gives, refuses, refuse, ◌>>◌}
use Rattle.layout.specs.Layout.{fitting, packed}
use Rattle.layout.specs.Bits.{cut}
use Rattle.profile.specs.Profile as profile
use Rattle.image.specs.Image as image

-- the fields of bytes that are accepted
abbrev pub accepted_fields : {A : Type 0} → Answer A → List ℕ → List ℕ → Answer (List ℕ)
accepted_fields m ws s = do
  m
  gives (cut ws s 0)

-- the fields of a record that its reader accepts
abbrev pub fields_by : {A : Type 0} → (List ℕ → Answer A) → List ℕ → List ℕ → Answer (List ℕ)
fields_by reader ws s = do
  reader s
  gives (cut ws s 0)

-- whatever refuses, with this number
abbrev pub refused_by : {A : Type 0} → ℕ → Answer A → Answer A
refused_by k (gives a) = gives a
refused_by k (refuses n) = refuses k

-- the record of n bytes that fields make, refused by k: they don't fit the layout, or its reader refuses it
abbrev pub record_by : {A : Type 0} → (List ℕ → Answer A) → ℕ → ℕ → List ℕ → List ℕ → Answer (List ℕ)
record_by reader k n ws xs = do
  refuse k (not (fitting ws xs))
  refused_by k (reader (packed n ws xs))
  gives (packed n ws xs)

-- a profile, its frequency as four bytes; "a writer given what its reader would refuse, or a code too wide, gives 30"
unfoldable pub profile_fields : List ℕ → Answer (List ℕ)
profile_fields = fields_by profile.read_profile profile.widths

unfoldable pub profile_from : List ℕ → Answer (List ℕ)
profile_from = record_by profile.read_profile 30 10 profile.widths

-- an image; 28 likewise
unfoldable pub image_fields : List ℕ → Answer (List ℕ)
image_fields = fields_by image.read_image image.widths

unfoldable pub image_from : List ℕ → Answer (List ℕ)
image_from = record_by image.read_image 28 8 image.widths
