-- The image's eight bytes are those of its two numbers. Assumes nothing.
use Prim.Native.Nat.{ℕ, ◌+◌, ◌*◌, ◌/◌, ◌%◌, ◌≤◌, ◌<◌}
use mathlib.Core.Path.{◌≡◌, sym, ap, ◌∙◌}
use mathlib.Core.Bool.{Bool, true, false}
use mathlib.Core.List.{List, [], ◌∷◌, ◌++◌}
use native.Mathlib.Omega.{arith}
use lib.ListN.{length, drop}
use lib.Seq.{sets, sets-eq}
use Rattle.std.specs.Prelude.{Ok}
use Rattle.layout.specs.Bits.{bit}
use Rattle.layout.specs.Layout.{pack, unpack, bytes, packed}
use Rattle.layout.specs.Lent.{Wrote}
use Rattle.layout.specs.Numbers.{in_fours, with_numbers}
use Rattle.layout.proofs.Filling.{numbers_put}
use Rattle.layout.proofs.Writing.{written_to}
use Rattle.image.specs.declared.Fields.{Fields}
use Rattle.image.specs.Image.{widths, list_of, in_width, image_bytes}
use Rattle.image.specs.Width.{Wide, wide}
use Rattle.image.specs.Words.{early_of, late_of}

-- eight bytes are twice four
module _ (a b : ℕ) (h : b < 4294967296) where
  abbrev v : ℕ
  v = a * 4294967296 + b

  first : (v / 72057594037927936 % 256 ≡ a / 16777216 % 256) × (v / 281474976710656 % 256 ≡ a / 65536 % 256)
      × (v / 1099511627776 % 256 ≡ a / 256 % 256) × (v / 4294967296 % 256 ≡ a / 1 % 256)
  first = (omega arith, omega arith, omega arith, omega arith)

  last : (v / 16777216 % 256 ≡ b / 16777216 % 256) × (v / 65536 % 256 ≡ b / 65536 % 256) × (v / 256 % 256 ≡ b / 256 % 256) × (v / 1 % 256 ≡ b / 1 % 256)
  last = (omega arith, omega arith, omega arith, omega arith)

  halves : unpack (bytes 8) v ≡ in_fours (a ∷ b ∷ [])
  halves = rw (first.0, first.1, first.2, first.3, last.0, last.1, last.2, last.3)

bit_le : (b : Bool) → bit b ≤ 1
bit_le true = omega arith
bit_le false = omega arith

module _ (f : Fields) where
  whole : pack widths (list_of f) ≡ early_of f * 4294967296 + late_of f
  unfolding list_of
  whole = omega arith

  late_small : Wide f → late_of f < 4294967296
  late_small (a, b, c, d, e) =
      let g = bit_le f.cfgr0.adcsrc in
      let h = bit_le f.cfgr2.syspll_gate in
      let i = bit_le f.cfgr2.rngsrc in
      let j = bit_le f.cfgr2.i2spllsrc in
      let k = bit_le f.flash.lock in
      let m = bit_le f.flash.flock in
      omega (arith, b, c)

  two_words_lem : Wide f → packed 8 widths (list_of f) ≡ in_fours (early_of f ∷ late_of f ∷ [])
  two_words_lem w = ap (unpack (bytes 8)) whole ∙ halves (early_of f) (late_of f) (late_small w)

  pub written : (l l' : List ℕ) (a b : ℕ) → 8 ≤ length l → in_width f ≡ true → a ≡ early_of f → b ≡ late_of f → l' ≡ with_numbers l 0 (a ∷ b ∷ []) →
      Wrote 8 (image_bytes f) l l' (Ok tt)
  unfolding image_bytes
  written l l' a b h w e g p =
      let xs = packed 8 widths (list_of f) in
      let four : in_fours (a ∷ b ∷ []) ≡ xs = rw (e, g) (sym (two_words_lem (wide f w))) in
      let laid : l' ≡ xs ++ drop 8 l =
      p ∙ numbers_put l (a ∷ b ∷ []) 0 (omega arith) ∙ ap (sets l 0) four ∙ sets-eq xs l 0 (omega arith) in
      rw laid (written_to 8 (image_bytes f) l xs h (rw w))
