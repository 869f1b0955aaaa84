-- The waits owed: the ones of the mask are the parts that the startup turns on.
-- Assumes nothing.
use Rattle.std.specs.Prelude.{ℕ, ◌+◌, ◌≤◌, ◌≡◌, refl, Bool, true, false, cond, not}
use Rattle.std.proofs.Common.{sym, ap, ◌∙◌, arith}
use Rattle.std.specs.Int.Count.{ones, ones_in}
use Rattle.answer.specs.Answer.{gives, passed}
use Rattle.v4x7.specs.declared.Config.{Config}
use Rattle.v4x7.specs.Check.{named_of, has_hse, has_usb_hs, has_main}
use Rattle.startup.specs.Call.{mask_of, waits_owed_of}

abbrev pub bit_of : Bool → ℕ
bit_of b = cond b 1 0

-- how many of HSE, ETH PLL, USBHS PLL and main PLL the startup turns on
abbrev pub turned_on : Config → ℕ
turned_on c = bit_of (has_hse c.hse) + bit_of c.ethpll + bit_of (has_usb_hs c.hspll) + bit_of (has_main c.pll)

-- all sixteen masks
four_ones : (a b c d : Bool) → ones (cond a 8 0 + cond b 4 0 + cond c 2 0 + cond d 1 0) ≡ bit_of a + bit_of b + bit_of c + bit_of d
unfolding ones ones_in
four_ones false false false false = refl
four_ones false false false true = refl
four_ones false false true false = refl
four_ones false false true true = refl
four_ones false true false false = refl
four_ones false true false true = refl
four_ones false true true false = refl
four_ones false true true true = refl
four_ones true false false false = refl
four_ones true false false true = refl
four_ones true false true false = refl
four_ones true false true true = refl
four_ones true true false false = refl
four_ones true true false true = refl
four_ones true true true false = refl
four_ones true true true true = refl

pub ones_turned_on : (c : Config) → ones (mask_of c) ≡ turned_on c
ones_turned_on c = four_ones (has_hse c.hse) c.ethpll (has_usb_hs c.hspll) (has_main c.pll)

bit_le : (b : Bool) → bit_of b ≤ 1
bit_le true = omega arith
bit_le false = omega arith

pub four_at_most : (c : Config) → turned_on c ≤ 4
four_at_most c = omega (arith, bit_le (has_hse c.hse), bit_le c.ethpll, bit_le (has_usb_hs c.hspll), bit_le (has_main c.pll))

pub owed : (c : Config) {n : ℕ} → waits_owed_of c ≡ gives n → n ≡ 4 + turned_on c
unfolding waits_owed_of
owed c {n} e =
    let given = passed 28 (not (named_of c)) _ e in
    let is : 4 + ones (mask_of c) ≡ n = cc given.after in
    sym is ∙ ap (λ (n : ℕ). 4 + n) (ones_turned_on c)
