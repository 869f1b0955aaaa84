-- Taking a record apart and making it again lose nothing, whatever reads it: once over the layout, then of profile and image. Assumes nothing.
use Prim.Native.Nat.{ℕ, ◌*◌}
use mathlib.Core.Path.{◌≡◌, refl, sym, ap, ◌∙◌}
use mathlib.Core.Bool.{true, not}
use mathlib.Core.List.{List, []}
use borrow.Author.Tests.{not-false, eqb-true}
use native.Mathlib.Omega.{arith}
use lib.Dec.{eqb}
use lib.ListN.{length}
use Rattle.answer.specs.Answer.{Answer, gives, refuses, refuse, ◌>>◌, followed, passed}
use Rattle.layout.specs.Layout.{total, fitting, packed, unpack, num, Bytes}
use Rattle.layout.specs.Bits.{cut}
use Rattle.layout.specs.Codec.{Inverse}
use Rattle.layout.proofs.Laws.{fitting_unpack}
use Rattle.layout.proofs.Reading.{cut_unpack, cut_packed, length_packed, packed_unpack}
use Rattle.profile.specs.Profile.{read_profile}
use Rattle.profile.specs.Profile as profile
use Rattle.image.specs.Image.{read_image}
use Rattle.image.specs.Image as image
use Rattle.v4x7.specs.declared.Config.{Config}
use Rattle.image.specs.declared.Fields.{Fields}
use Rattle.capi_codec.specs.Codec.{refused_by, fields_by, record_by, profile_fields, profile_from, image_fields, image_from}

list_in : Answer (List ℕ) → List ℕ
list_in (gives l) = l
list_in (refuses n) = []

same_list : {l m : List ℕ} → gives l ≡ gives m → l ≡ m
unfolding list_in
same_list e = ap list_in e

-- what is not refused with another number is not refused
unrefused : {A : Type 0} (k : ℕ) (m : Answer A) {a : A} → refused_by k m ≡ gives a → m ≡ gives a
unrefused k (gives b) e = e
unrefused k (refuses n) e = absurd (let z : ◌≡◌ {A = ℕ} 0 1 = cc in omega arith)

module _ {A : Type 0} (reader : List ℕ → Answer A) (k n : ℕ) (ws : List ℕ) (whole : total ws ≡ 8 * n)
    (sized : (s : List ℕ) (a : A) → reader s ≡ gives a → length s ≡ n) where
  record Made (xs p : List ℕ) : Type 0 where
    fits : fitting ws xs ≡ true
    bytes : p ≡ packed n ws xs
    value : A
    accepted : reader p ≡ gives value

  made : (xs p : List ℕ) → record_by reader k n ws xs ≡ gives p → Made xs p
  made xs p e =
      let a = passed k (not (fitting ws xs)) (◌>>◌ (refused_by k (reader (packed n ws xs))) (gives (packed n ws xs))) e in
      let b = followed (refused_by k (reader (packed n ws xs))) (gives (packed n ws xs)) a.after in
      let q : packed n ws xs ≡ p = same_list b.after in
      record {
        fits = not-false (fitting ws xs) a.failed;
        bytes = sym q;
        value = b.value;
        accepted = ap reader (sym q) ∙ unrefused k (reader (packed n ws xs)) b.gave;
      }

  taken_apart : (xs p : List ℕ) → record_by reader k n ws xs ≡ gives p → fields_by reader ws p ≡ gives xs
  taken_apart xs p e =
      let m = made xs p e in
      rw m.accepted (ap gives (ap (λ (s : List ℕ). cut ws s 0) m.bytes ∙ cut_packed ws n whole xs m.fits))

  made_again : (s xs : List ℕ) → Bytes s → fields_by reader ws s ≡ gives xs → record_by reader k n ws xs ≡ gives s
  made_again s xs b e =
      let r = followed (reader s) (gives (cut ws s 0)) e in
      let l = sized s r.value r.gave in
      let u : unpack ws (num s) ≡ xs = sym (cut_unpack ws n whole s b l) ∙ same_list r.after in
      let f : fitting ws xs ≡ true = ap (fitting ws) (sym u) ∙ fitting_unpack ws (num s) in
      let p : packed n ws xs ≡ s = ap (packed n ws) (sym u) ∙ packed_unpack ws n whole s b l in
      rw (f, p, r.gave) refl

  pub inverse : Inverse n (fields_by reader ws) (record_by reader k n ws)
  inverse = record {
    size = λ xs p e. ap length (made xs p e).bytes ∙ length_packed ws n whole xs;
    read_write = taken_apart;
    write_read = made_again;
  }

-- what a test of the length lets through has that length
of_length : {A : Type 0} (k n : ℕ) (s : List ℕ) (m : Answer A) {a : A} → (◌>>◌ (refuse k (not (eqb (length s) n))) m) ≡ gives a → length s ≡ n
of_length k n s m e = eqb-true (length s) n (not-false (eqb (length s) n) (passed k (not (eqb (length s) n)) m e).failed)

ten : (s : List ℕ) (c : Config) → read_profile s ≡ gives c → length s ≡ 10
unfolding read_profile
ten s c e = of_length 29 10 s _ e

eight : (s : List ℕ) (f : Fields) → read_image s ≡ gives f → length s ≡ 8
unfolding read_image
eight s f e = of_length 31 8 s _ e

pub profile_inverse : Inverse 10 profile_fields profile_from
unfolding profile_fields profile_from
profile_inverse = inverse read_profile 30 10 profile.widths refl ten

pub image_inverse : Inverse 8 image_fields image_from
unfolding image_fields image_from
image_inverse = inverse read_image 28 8 image.widths refl eight
