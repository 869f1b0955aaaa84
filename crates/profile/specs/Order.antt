-- What the profile's reader and writer refuse, in document 01's order, by the bits of the profile.
-- Assumes nothing.
use Rattle.std.specs.Prelude.{ℕ, ◌+◌, ◌*◌, ◌^◌, ◌≡◌, ◌&&◌, ◌||◌, not, List, [], ◌∷◌, ◌++◌, length, drop, eqb, ltb, leb}
use Rattle.std.proofs.Common.{sym, ap, ◌∙◌, arith}
use Rattle.answer.specs.Answer.{gives, refuse, ◌>>◌}
use Rattle.answer.specs.Order.{Test, first_of, bare, behind}
use Rattle.layout.specs.Layout.{fitting, packed}
use Rattle.layout.specs.Bits.{bits_at, cut}
use Rattle.layout.specs.Lent.{written}
use Rattle.layout.specs.Order.{sames, after_test, same_number, written_in_order, bits_split}
use Rattle.v4x7.specs.declared.Config.{Config}
use Rattle.v4x7.specs.Order.{check_tests}
use Rattle.profile.specs.Profile.{widths, frequency_in, tests, allowed, config_of, read_profile, fields_of, writable, profile_bytes}

-- "Readers the length, then the fields in layout order."
unfoldable pub read_tests : List ℕ → List Test
read_tests s =
    (29, not (eqb (length s) 10))  -- profile not 10 bytes
    ∷ (30, not (eqb (bits_at s 0 1) 1 || (eqb (bits_at s 1 1) 0 && eqb (bits_at s 2 32) 0)))  -- HSE absent, its bypass or frequency not zero
    ∷ (30, not (ltb (bits_at s 34 2) 3))  -- system clock 3
    ∷ (30, not (eqb (bits_at s 37 1) 1 || eqb (bits_at s 38 5) 0))  -- PLL absent, its multiplier not zero; PLL source is free
    ∷ (30, not (ltb (bits_at s 43 3) 4 || eqb (bits_at s 43 3) 6))  -- SYSPLL source 4, 5, 7
    ∷ (30, not (eqb (bits_at s 49 1) 1 || eqb (bits_at s 50 2) 0))  -- USBHS absent, its source not zero
    ∷ (30, not (ltb (bits_at s 50 2) 3))  -- its source 3
    ∷ (30, not (eqb (bits_at s 53 4) 0 || leb 8 (bits_at s 53 4)))  -- AHB 1..7
    ∷ (30, not (eqb (bits_at s 57 3) 0 || leb 4 (bits_at s 57 3)))  -- APB1 1..3
    ∷ (30, not (eqb (bits_at s 60 3) 0 || leb 4 (bits_at s 60 3)))  -- APB2 1..3
    ∷ (30, not (ltb (bits_at s 63 2) 3))  -- RNG 3
    ∷ (30, not (eqb (bits_at s 65 1) 1 || eqb (bits_at s 66 8) 0))  -- ADC divisor not zero with the ADC on HCLK
    ∷ (30, not (ltb (bits_at s 76 2) 3))  -- duty 3
    ∷ (30, not (eqb (bits_at s 78 2) 0))  -- filling
    ∷ []

-- the frequency's four bytes are the 32 bits from place 2 on
frequency_bits : (s : List ℕ) → bits_at s 2 32 ≡ frequency_in (cut widths s 0)
frequency_bits s =
    let a : bits_at s 2 32 ≡ bits_at s 2 8 * 2 ^ 24 + bits_at s 10 24 = bits_split s 2 8 24 in
    let b : bits_at s 10 24 ≡ bits_at s 10 8 * 2 ^ 16 + bits_at s 18 16 = bits_split s 10 8 16 in
    let c : bits_at s 18 16 ≡ bits_at s 18 8 * 2 ^ 8 + bits_at s 26 8 = bits_split s 18 8 8 in
    omega arith

pub read_in_order : (s : List ℕ) → bare (read_profile s) ≡ first_of (read_tests s)
unfolding read_profile read_tests tests
read_in_order s =
    let l = cut widths s 0 in
    after_test 29 (not (eqb (length s) 10)) (◌>>◌ (refuse 30 (not (allowed l))) (gives (config_of l))) (sames 30 (tests l))
    (same_number 30 (tests l) (config_of l))
    ∙ ap
    (λ (hz : ℕ). first_of
    ((29, not (eqb (length s) 10)) ∷ (30, not (eqb (bits_at s 0 1) 1 || (eqb (bits_at s 1 1) 0 && eqb hz 0))) ∷ drop 2 (read_tests s)))
    (sym (frequency_bits s))

-- a profile's check: the reader's tests, then the check's, over what was read
abbrev pub check_profile_tests : List ℕ → List Test
check_profile_tests s = read_tests s ++ behind (read_profile s) check_tests

-- "Writers test 32 first .. A writer given what its reader would refuse, or a code too wide, gives 30."
abbrev pub write_tests : Config → List ℕ → List Test
write_tests c l =
    (32, ltb (length l) 10)  -- lent output shorter than the record
    ∷ (30, not (allowed (fields_of c)))  -- what its reader would refuse
    ∷ (30, not (fitting widths (fields_of c)))  -- a code too wide
    ∷ []

pub write_in_order : (c : Config) (l : List ℕ) → bare (written 10 (profile_bytes c) l) ≡ first_of (write_tests c l)
unfolding profile_bytes writable
write_in_order c l =
    written_in_order 10 (profile_bytes c) l (sames 30 (allowed (fields_of c) ∷ fitting widths (fields_of c) ∷ []))
    (same_number 30 (allowed (fields_of c) ∷ fitting widths (fields_of c) ∷ []) (packed 10 widths (fields_of c)))
