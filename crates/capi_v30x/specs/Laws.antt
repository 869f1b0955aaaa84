-- Laws of the records of CH32V30x: a configuration has one, and the bytes that fields are given as are read as these fields.
-- Assumes nothing.
use Rattle.std.specs.Prelude.{ℕ, ◌<◌, ◌≡◌, refl, Bool, true, false, cond, ◌&&◌, ◌||◌, Option, None, Some, List, [], ◌∷◌, ◌++◌, eqb, leb}
use Rattle.std.proofs.Common.{sym, arith, leb-true, eqb-true}
use Rattle.std.proofs.lemmas.Bool.{eqb-false}
use Rattle.answer.specs.Answer.{gives}
use Rattle.layout.specs.Bits.{bit}
use Rattle.layout.proofs.Reading.{flag_of_bit}
use Rattle.answer.specs.Tools.{and_left, and_right}
use Rattle.v30x.specs.declared.PllSource.{PllSource}
use Rattle.v30x.specs.declared.PllSource.TheVariants as source
use Rattle.v30x.specs.declared.Pll.{Pll}
use Rattle.v30x.specs.declared.Config.{Config}
use Rattle.v30x.specs.declared.Fields.{Fields}
use Rattle.capi_pll32.specs.Bytes.{at, yes, yes_or_no, record_in, hse_hz_in, hse_allowed}
use Rattle.capi_pll32.specs.Records.{listed, same, said, said_as, three_said, of_one, bit_says, or_else, source_byte, source_back, source_says, source_read, hse_there, hse_bypass, hse_hz, hse_bytes, hse_back, hse_says, hse_read, hse_hz_read}
use Rattle.capi_v30x.specs.Calls.{config_pll, config_hs_pll, config_of, pll_allowed, usbhs_allowed, config_allowed, is_config, fields_in, fields_allowed, is_fields, bytes_of}

abbrev pub pll_source_byte : PllSource → ℕ
pll_source_byte source.Hsi = 0
pll_source_byte source.Hse = 1
pll_source_byte source.Pll2 = 2

-- a PLL's three bytes: whether it is there, its predivider's code, its multiplier's
abbrev pub pll_there : Option Pll → Bool
pll_there None = false
pll_there (Some pll) = true

abbrev pub pll_less : Option Pll → ℕ
pll_less None = 0
pll_less (Some pll) = pll.prediv

abbrev pub pll_mul : Option Pll → ℕ
pll_mul None = 0
pll_mul (Some pll) = pll.mul

unfoldable pub pll_bytes : Option Pll → List ℕ
pll_bytes p = bit (pll_there p) ∷ pll_less p ∷ pll_mul p ∷ []

-- the USBHS PLL's two: whether it is there, its prescaler's code
abbrev pub hs_pll_there : Option ℕ → Bool
hs_pll_there None = false
hs_pll_there (Some pre) = true

abbrev pub hs_pll_less : Option ℕ → ℕ
hs_pll_less None = 0
hs_pll_less (Some pre) = pre

unfoldable pub hs_pll_bytes : Option ℕ → List ℕ
hs_pll_bytes p = bit (hs_pll_there p) ∷ hs_pll_less p ∷ []

-- the record of a configuration
unfoldable pub config_bytes : Config → List ℕ
config_bytes c =
    hse_bytes c.hse
    ++ (c.sys ∷ pll_source_byte c.pll_src
    ∷ (pll_bytes c.pll ++ (bit c.pllx ∷ c.ahb_pre ∷ c.apb1_pre ∷ c.apb2_pre ∷ source_byte c.hspll_src ∷ hs_pll_bytes c.hspll)))

source_as : (x : ℕ) (t u : Bool) → eqb x 0 ≡ t → eqb x 1 ≡ u → leb x 2 ≡ true → pll_source_byte (cond t source.Hsi (cond u source.Hse source.Pll2)) ≡ x
source_as x true u e q h = sym (eqb-true x 0 e)
source_as x false true e q h = sym (eqb-true x 1 q)
source_as x false false e q h =
    let k = leb-true x 2 h in
    let not-0 = eqb-false x 0 e in
    let not-1 = eqb-false x 1 q in
    omega (arith, k, not-0, not-1)

pll_as : (p pre mul : ℕ) (t : Bool) → yes p ≡ t → yes_or_no p ≡ true → (yes p || eqb pre 0 && eqb mul 0) ≡ true →
    pll_bytes (config_pll t pre mul) ≡ p ∷ pre ∷ mul ∷ []
unfolding pll_bytes
pll_as p pre mul true e h q = same (sym (eqb-true p 1 e)) refl
pll_as p pre mul false e h q =
    let none : (eqb pre 0 && eqb mul 0) ≡ true = or_else (yes p) _ e q in
    same (said_as p false e h)
    (same (sym (eqb-true pre 0 (and_left _ (eqb mul 0) none))) (same (sym (eqb-true mul 0 (and_right (eqb pre 0) _ none))) refl))

hspll_as : (p pre : ℕ) (t : Bool) → yes p ≡ t → yes_or_no p ≡ true → (yes p || eqb pre 0) ≡ true → hs_pll_bytes (config_hs_pll t pre) ≡ p ∷ pre ∷ []
unfolding hs_pll_bytes
hspll_as p pre true e h q = same (sym (eqb-true p 1 e)) refl
hspll_as p pre false e h q = same (said_as p false e h) (same (sym (eqb-true pre 0 (or_else (yes p) _ e q))) refl)

-- what is read of a record gives it back
back : (l : List ℕ) → ((i : ℕ) → at l i < 256) → config_allowed l ≡ true → config_bytes (config_of l) ≡ listed (at l) 18
unfolding config_bytes config_of config_allowed
back l small h =
    let hse-pll = and_left (hse_allowed (at l 0) (at l 1) (hse_hz_in l) && pll_allowed l) (usbhs_allowed l) h in
    let pll-x : pll_allowed l ≡ true = and_right (hse_allowed (at l 0) (at l 1) (hse_hz_in l)) (pll_allowed l) hse-pll in
    let pll-all = and_left _ (yes_or_no (at l 11)) pll-x in
    let source-pll = and_left (leb (at l 7) 2 && yes_or_no (at l 8)) _ pll-all in
    let usbhs : usbhs_allowed l ≡ true = and_right (hse_allowed (at l 0) (at l 1) (hse_hz_in l) && pll_allowed l) (usbhs_allowed l) h in
    let hs-source = and_left (yes_or_no (at l 15) && yes_or_no (at l 16)) _ usbhs in
    rw (
      hse_back l small (and_left _ (pll_allowed l) hse-pll),
      source_as (at l 7) (eqb (at l 7) 0) (eqb (at l 7) 1) refl refl (and_left _ (yes_or_no (at l 8)) source-pll),
      pll_as (at l 8) (at l 9) (at l 10) (yes (at l 8)) refl (and_right (leb (at l 7) 2) _ source-pll)
          (and_right (leb (at l 7) 2 && yes_or_no (at l 8)) _ pll-all),
      said (at l 11) (and_right (leb (at l 7) 2 && yes_or_no (at l 8) && (yes (at l 8) || eqb (at l 9) 0 && eqb (at l 10) 0)) _ pll-x),
      source_back (at l 15) (and_left _ (yes_or_no (at l 16)) hs-source),
      hspll_as (at l 16) (at l 17) (yes (at l 16)) refl (and_right (yes_or_no (at l 15)) _ hs-source)
          (and_right (yes_or_no (at l 15) && yes_or_no (at l 16)) _ usbhs),
    )
    refl

-- a configuration that a record holds has that record alone
pub one_record : (l : List ℕ) → ((i : ℕ) → at l i < 256) → is_config l ≡ true → l ≡ config_bytes (config_of l)
one_record l small = of_one 18 l (config_allowed l) (back l small)

pll_source_says : (s : PllSource) → leb (pll_source_byte s) 2 ≡ true
pll_source_says source.Hsi = refl
pll_source_says source.Hse = refl
pll_source_says source.Pll2 = refl

pll_source_read : (s : PllSource) → cond (eqb (pll_source_byte s) 0) source.Hsi (cond (eqb (pll_source_byte s) 1) source.Hse source.Pll2) ≡ s
pll_source_read source.Hsi = refl
pll_source_read source.Hse = refl
pll_source_read source.Pll2 = refl

pll_says : (p : Option Pll) → (yes (bit (pll_there p)) || eqb (pll_less p) 0 && eqb (pll_mul p) 0) ≡ true
pll_says None = refl
pll_says (Some pll) = refl

pll_read : (p : Option Pll) → config_pll (yes (bit (pll_there p))) (pll_less p) (pll_mul p) ≡ p
pll_read None = refl
pll_read (Some pll) = refl

hspll_says : (p : Option ℕ) → (yes (bit (hs_pll_there p)) || eqb (hs_pll_less p) 0) ≡ true
hspll_says None = refl
hspll_says (Some pre) = refl

hspll_read : (p : Option ℕ) → config_hs_pll (yes (bit (hs_pll_there p))) (hs_pll_less p) ≡ p
hspll_read None = refl
hspll_read (Some pre) = refl

-- and every configuration has it: its bytes are read as the configuration
pub config_read_back : (c : Config) → hse_hz c.hse < 4294967296 → record_in (is_config (config_bytes c)) (config_of (config_bytes c)) ≡ gives c
unfolding config_bytes hse_bytes pll_bytes hs_pll_bytes config_allowed config_of
config_read_back c fits =
    rw (
      hse_hz_read (bit (hse_there c.hse)) (bit (hse_bypass c.hse)) (hse_hz c.hse) _ fits,
      hse_says c.hse,
      pll_source_says c.pll_src,
      bit_says (pll_there c.pll),
      pll_says c.pll,
      bit_says c.pllx,
      source_says c.hspll_src,
      bit_says (hs_pll_there c.hspll),
      hspll_says c.hspll,
      hse_read c.hse,
      pll_source_read c.pll_src,
      pll_read c.pll,
      flag_of_bit c.pllx,
      source_read c.hspll_src,
      hspll_read c.hspll,
    )
    refl

-- the bytes that fields are given as are read as these fields
pub fields_read_back : (f : Fields) → record_in (is_fields (bytes_of f)) (fields_in (bytes_of f)) ≡ gives f
fields_read_back f =
    rw (
      bit_says f.pllsrc,
      bit_says f.prediv1src,
      bit_says f.hsipre,
      flag_of_bit f.pllsrc,
      flag_of_bit f.prediv1src,
      flag_of_bit f.hsipre,
    )
    refl

-- and they alone are: a byte that says yes or no is 1 or 0
pub fields_one_record : (l : List ℕ) → is_fields l ≡ true → l ≡ bytes_of (fields_in l)
fields_one_record l =
    of_one 9 l (fields_allowed l) (λ h.
    let bits = three_said (at l 1) (at l 3) (at l 8) h in
    rw (bits.0, bits.1, bits.2) refl)
