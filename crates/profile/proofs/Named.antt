-- A configuration that was read has only codes with a name: no call refuses it by 28. Assumes nothing.
use Prim.Native.Nat.{ℕ, ◌<◌}
use mathlib.Core.Path.{◌≡◌, refl, sym, ap, ◌∙◌}
use mathlib.Core.Bool.{Bool, true, false, not, ◌&&◌, ◌||◌}
use mathlib.Core.List.{List}
use native.Mathlib.Omega.{arith}
use borrow.Author.Tests.{le-leb, ltb-true, not-false}
use lib.Dec.{eqb, ltb, leb}
use lib.ListN.{length}
use Rattle.answer.specs.Answer.{gives, passed, refuse, ◌>>◌}
use Rattle.answer.specs.Tests.{every_at}
use Rattle.layout.specs.Bits.{cut, bits_at}
use Rattle.layout.proofs.Reading.{bits_lt}
use Rattle.layout.proofs.Laws.{and_true}
use Rattle.v4x7.specs.declared.Config.{Config}
use Rattle.v4x7.specs.Check.{named_pll, named_hs_pll, named, named_of}
use Rattle.profile.specs.Profile.{widths, tests, allowed, pll_of, hspll_of, config_of, read_profile}

pll_named : (b : Bool) (m : ℕ) → m < 32 → named_pll (pll_of b m) ≡ true
pll_named true m h = le-leb m 31 (omega arith)
pll_named false m h = refl

hspll_named : (b : Bool) (m : ℕ) → m < 3 → named_hs_pll (hspll_of b m) ≡ true
hspll_named true m h = le-leb m 2 (omega arith)
hspll_named false m h = refl

or_true : (a : Bool) → (a || true) ≡ true
or_true true = refl
or_true false = refl

source_named : (n : ℕ) (a b : Bool) → ltb n 4 ≡ a → (a || b) ≡ true → (leb n 3 || b) ≡ true
source_named n true b e q = rw (le-leb n 3 (omega (arith, ltb-true n 4 e)))
source_named n false b e q = rw q (or_true (leb n 3))

within : (z low high : Bool) → high ≡ true → (z || low) ≡ true → (z || (low && high)) ≡ true
within z low high h q = rw (h, and_true low) q

pub fields_named : (s : List ℕ) → allowed (cut widths s 0) ≡ true → named_of (config_of (cut widths s 0)) ≡ true
unfolding config_of tests named
fields_named s h =
    let t = every_at (tests (cut widths s 0)) h in
    let ahb = bits_at s 53 4 in
    let apb1 = bits_at s 57 3 in
    let apb2 = bits_at s 60 3 in
    rw (
      pll_named (eqb (bits_at s 37 1) 1) (bits_at s 38 5) (bits_lt s 38 5),
      hspll_named (eqb (bits_at s 49 1) 1) (bits_at s 50 2) (ltb-true (bits_at s 50 2) 3 (t 5)),
      le-leb (bits_at s 34 2) 2 (omega (arith, ltb-true (bits_at s 34 2) 3 (t 1))),
      le-leb (bits_at s 36 1) 1 (omega (arith, bits_lt s 36 1)),
      source_named (bits_at s 43 3) (ltb (bits_at s 43 3) 4) (eqb (bits_at s 43 3) 6) refl (t 3),
      le-leb (bits_at s 46 3) 7 (omega (arith, bits_lt s 46 3)),
      within (eqb ahb 0) (leb 8 ahb) (leb ahb 15) (le-leb ahb 15 (omega (arith, bits_lt s 53 4))) (t 6),
      within (eqb apb1 0) (leb 4 apb1) (leb apb1 7) (le-leb apb1 7 (omega (arith, bits_lt s 57 3))) (t 7),
      within (eqb apb2 0) (leb 4 apb2) (leb apb2 7) (le-leb apb2 7 (omega (arith, bits_lt s 60 3))) (t 8),
      le-leb (bits_at s 63 2) 2 (omega (arith, ltb-true (bits_at s 63 2) 3 (t 9))),
      le-leb (bits_at s 74 2) 3 (omega (arith, bits_lt s 74 2)),
      le-leb (bits_at s 76 2) 2 (omega (arith, ltb-true (bits_at s 76 2) 3 (t 11))),
    )

pub read_named : (s : List ℕ) (c : Config) → read_profile s ≡ gives c → named_of c ≡ true
unfolding read_profile
read_named s c e =
    let l = cut widths s 0 in
    let a = passed 29 (not (eqb (length s) 10)) (◌>>◌ (refuse 30 (not (allowed l))) (gives (config_of l))) e in
    let b = passed 30 (not (allowed l)) (gives (config_of l)) a.after in
    let g : gives (config_of l) ≡ gives c = b.after in
    let q : config_of l ≡ c = cc in
    sym (ap named_of q) ∙ fields_named s (not-false (allowed l) b.failed)
