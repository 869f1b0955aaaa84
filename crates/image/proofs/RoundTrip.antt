-- Reading what was written gives the fields back, writing what was read gives the bytes back, and what is readable is exactly what is writable.
-- Assumes nothing.
use Prim.Native.Nat.{ℕ, ◌/◌, ◌%◌, ◌≤◌}
use mathlib.Core.Path.{◌≡◌, refl, sym, ap, ◌∙◌}
use mathlib.Core.Bool.{true}
use mathlib.Core.List.{List, ◌++◌}
use Rattle.std.specs.Prelude.{Result, Ok}
use native.Mathlib.Nat.{div-one}
use borrow.Author.Tests.{eqb-true}
use lib.ListN.{length, take, drop}
use Rattle.answer.specs.Answer.{gives}
use Rattle.answer.specs.declared.Refusal.{Refusal}
use Rattle.layout.specs.Layout.{unpack, fitting, packed, Bytes}
use Rattle.layout.specs.Codec.{Inverse}
use Rattle.layout.specs.Lent.{Wrote}
use Rattle.layout.proofs.Laws.{fitting_unpack}
use Rattle.layout.proofs.Reading.{flag_of_bit, bit_of_flag}
use Rattle.layout.proofs.RoundTrip as layout
use Rattle.image.specs.declared.Fields.{Fields}
use Rattle.image.specs.Image.{widths, fields_of, zero_filled, list_of, in_width, read_image, image_bytes}
use Rattle.image.proofs.Widths.{in_width_lem}

of_list : (f : Fields) → fields_of (list_of f) ≡ f
unfolding fields_of list_of
of_list f = simp flag_of_bit

fit : (f : Fields) → in_width f ≡ true → (fitting widths (list_of f) ≡ true) × (zero_filled (list_of f) ≡ true)
unfolding list_of
fit f h = (sym (in_width_lem f) ∙ h, refl)

list_of_lem : (v : ℕ) → zero_filled (unpack widths v) ≡ true → list_of (fields_of (unpack widths v)) ≡ unpack widths v
unfolding fields_of list_of
list_of_lem v h =
    let z : v % 32 ≡ 0 = ap (λ (n : ℕ). n % 32) (sym (div-one v)) ∙ eqb-true (v / 1 % 32) 0 h in
    simp (bit_of_flag, div-one, z)

back : (v : ℕ) → zero_filled (unpack widths v) ≡ true
    → (list_of (fields_of (unpack widths v)) ≡ unpack widths v) × (in_width (fields_of (unpack widths v)) ≡ true)
back v h =
    let e = list_of_lem v h in
    (e, in_width_lem (fields_of (unpack widths v)) ∙ ap (fitting widths) e ∙ fitting_unpack widths v)

pub inverse : Inverse 8 read_image image_bytes
unfolding read_image image_bytes
inverse = layout.inverse 8 widths refl zero_filled fields_of in_width list_of of_list fit back 31 31 28

-- fields that were read are in width: no call refuses them by 28
pub read_in_width : (s : List ℕ) (f : Fields) → Bytes s → read_image s ≡ gives f → in_width f ≡ true
unfolding image_bytes
read_in_width s f b e = (layout.passed 28 (in_width f) (gives (packed 8 widths (list_of f))) s (inverse.write_read s f b e)).0

-- Of the calls: fields written and read again are the same, and bytes read and written again are the same.
pub read_after_write : (f : Fields) (l l' : List ℕ) → Wrote 8 (image_bytes f) l l' (Ok tt) → read_image (take 8 l') ≡ gives f
read_after_write = layout.read_after_write inverse

pub write_after_read : (s : List ℕ) (f : Fields) (l l' : List ℕ) (o : Result (Unit {0}) Refusal)
    → Bytes s → read_image s ≡ gives f → 8 ≤ length l → Wrote 8 (image_bytes f) l l' o
    → (o ≡ Ok tt) × (l' ≡ s ++ drop 8 l)
write_after_read = layout.write_after_read inverse
