-- Laws of the records of CH32V1 and CH32L1: a configuration has one, and the bytes that fields are given as are read as these fields.
-- Assumes nothing.
use Rattle.std.specs.Prelude.{ℕ, ◌<◌, ◌≡◌, refl, Bool, ◌&&◌, ◌||◌, Option, None, Some, List, [], ◌∷◌, ◌++◌}
use Rattle.std.proofs.Common.{sym, eqb-true}
use Rattle.std.proofs.Math.Bool.{true, false}
use Rattle.std.proofs.Math.Dec.{eqb}
use Rattle.answer.specs.Answer.{gives}
use Rattle.layout.proofs.Reading.{flag_of_bit}
use Rattle.answer.specs.Tools.{and_left, and_right}
use Rattle.v1.specs.declared.Pll.{Pll}
use Rattle.v1.specs.declared.Config.{Config}
use Rattle.v1.specs.declared.Fields.{Fields}
use Rattle.v1.specs.V1.{prediv_code}
use Rattle.capi_pll32.specs.Bytes.{at, yes, yes_or_no, record_in, hse_hz_in, hse_allowed}
use Rattle.capi_pll32.specs.Records.{listed, same, said_as, three_said, of_one, bit_says, or_else, source_byte, source_back, source_says, source_read, hse_there, hse_bypass, hse_hz, hse_bytes, hse_back, hse_says, hse_read, hse_hz_read}
use Rattle.layout.specs.Bits.{bit}
use Rattle.v1.specs.declared.PllPreDiv.{PllPreDiv}
use Rattle.v1.specs.declared.PllPreDiv.TheVariants as prediv
use Rattle.capi_v1.specs.Calls.{config_pll, config_of, config_allowed, is_config, fields_in, fields_allowed, is_fields, bytes_of}

-- a PLL's three bytes: whether it is there, whether its input is halved, its multiplier's code
abbrev pub pll_there : Option Pll → Bool
pll_there None = false
pll_there (Some pll) = true

abbrev pub pll_less : Option Pll → ℕ
pll_less None = 0
pll_less (Some pll) = prediv_code pll.prediv

abbrev pub pll_mul : Option Pll → ℕ
pll_mul None = 0
pll_mul (Some pll) = pll.mul

unfoldable pub pll_bytes : Option Pll → List ℕ
pll_bytes p = bit (pll_there p) ∷ pll_less p ∷ pll_mul p ∷ []

-- the record of a configuration
unfoldable pub config_bytes : Config → List ℕ
config_bytes c =
    hse_bytes c.hse
    ++ (c.sys ∷ source_byte c.pll_src ∷ (pll_bytes c.pll ++ (c.ahb_pre ∷ c.apb1_pre ∷ c.apb2_pre ∷ [])))

module _ (p h mul : ℕ) (allowed : (yes_or_no p && yes_or_no h && (yes p || eqb h 0 && eqb mul 0)) ≡ true) where
  here : yes_or_no p ≡ true
  here = and_left (yes_or_no p) (yes_or_no h) (and_left _ _ allowed)

  pll_as : (t u : Bool) → yes p ≡ t → yes h ≡ u → pll_bytes (config_pll t u mul) ≡ p ∷ h ∷ mul ∷ []
  unfolding pll_bytes
  pll_as true true e q = same (sym (eqb-true p 1 e)) (same (sym (eqb-true h 1 q)) refl)
  pll_as true false e q =
      same (sym (eqb-true p 1 e)) (same (said_as h false q (and_right (yes_or_no p) (yes_or_no h) (and_left _ _ allowed))) refl)
  pll_as false u e q =
      let none : (eqb h 0 && eqb mul 0) ≡ true = or_else (yes p) _ e (and_right (yes_or_no p && yes_or_no h) _ allowed) in
      same (said_as p false e here)
      (same (sym (eqb-true h 0 (and_left _ (eqb mul 0) none))) (same (sym (eqb-true mul 0 (and_right (eqb h 0) _ none))) refl))

-- what is read of a record gives it back
back : (l : List ℕ) → ((i : ℕ) → at l i < 256) → config_allowed l ≡ true → config_bytes (config_of l) ≡ listed (at l) 14
unfolding config_bytes config_of config_allowed
back l small h =
    let hse-source = and_left (hse_allowed (at l 0) (at l 1) (hse_hz_in l) && yes_or_no (at l 7)) _ h in
    let hse = hse_back l small (and_left _ (yes_or_no (at l 7)) hse-source) in
    let source = source_back (at l 7) (and_right (hse_allowed (at l 0) (at l 1) (hse_hz_in l)) _ hse-source) in
    let pll = pll_as (at l 8) (at l 9) (at l 10)
    (and_right (hse_allowed (at l 0) (at l 1) (hse_hz_in l) && yes_or_no (at l 7)) _ h)
    (yes (at l 8)) (yes (at l 9)) refl refl in
    rw (hse, source, pll) refl

-- a configuration that a record holds has that record alone
pub one_record : (l : List ℕ) → ((i : ℕ) → at l i < 256) → is_config l ≡ true → l ≡ config_bytes (config_of l)
one_record l small = of_one 14 l (config_allowed l) (back l small)

prediv_says : (d : PllPreDiv) → yes_or_no (prediv_code d) ≡ true
prediv_says prediv.Div1 = refl
prediv_says prediv.Div2 = refl

pll_says : (p : Option Pll) → (yes_or_no (bit (pll_there p)) && yes_or_no (pll_less p) && (yes (bit (pll_there p)) || eqb (pll_less p) 0 && eqb (pll_mul p) 0)) ≡ true
pll_says None = refl
pll_says (Some pll) = rw (prediv_says pll.prediv) refl

prediv_read : (d : PllPreDiv) (mul : ℕ) → config_pll true (yes (prediv_code d)) mul ≡ Some (record { prediv = d; mul = mul })
prediv_read prediv.Div1 mul = refl
prediv_read prediv.Div2 mul = refl

pll_read : (p : Option Pll) → config_pll (yes (bit (pll_there p))) (yes (pll_less p)) (pll_mul p) ≡ p
pll_read None = refl
pll_read (Some pll) = prediv_read pll.prediv pll.mul

-- and every configuration has it: its bytes are read as the configuration
pub config_read_back : (c : Config) → hse_hz c.hse < 4294967296 → record_in (is_config (config_bytes c)) (config_of (config_bytes c)) ≡ gives c
unfolding config_bytes hse_bytes pll_bytes config_allowed config_of
config_read_back c fits =
    rw (
      hse_hz_read (bit (hse_there c.hse)) (bit (hse_bypass c.hse)) (hse_hz c.hse) _ fits,
      hse_says c.hse,
      source_says c.pll_src,
      pll_says c.pll,
      hse_read c.hse,
      source_read c.pll_src,
      pll_read c.pll,
    )
    refl

-- the bytes that fields are given as are read as these fields
pub fields_read_back : (f : Fields) → record_in (is_fields (bytes_of f)) (fields_in (bytes_of f)) ≡ gives f
fields_read_back f =
    rw (
      bit_says f.pllsrc,
      bit_says f.pllxtpre,
      bit_says f.hsipre,
      flag_of_bit f.pllsrc,
      flag_of_bit f.pllxtpre,
      flag_of_bit f.hsipre,
    )
    refl

-- and they alone are: a byte that says yes or no is 1 or 0
pub fields_one_record : (l : List ℕ) → is_fields l ≡ true → l ≡ bytes_of (fields_in l)
fields_one_record l =
    of_one 8 l (fields_allowed l) (λ h.
    let bits = three_said (at l 1) (at l 2) (at l 7) h in
    rw (bits.0, bits.1, bits.2) refl)
