-- The calls of CH32V1 and CH32L1 on bytes.
-- Assumes nothing.
use Rattle.std.specs.Prelude.{ℕ, Bool, cond, not, ◌&&◌, ◌||◌, Option, None, Some, List, [], ◌∷◌, eqb, ltb, length}
use Rattle.answer.specs.Answer.{Answer, gives, refuse, ◌>>=◌, ◌>>◌}
use Rattle.layout.specs.Bits.{bit}
use Rattle.tree.specs.declared.Clocks.{Clocks}
use Rattle.pll32.specs.declared.ClockRecord.{ClockRecord}
use Rattle.pll32.specs.Pll.{source_of}
use Rattle.v1.specs.declared.Chip.{Chip}
use Rattle.v1.specs.declared.Chip.TheVariants as chip
use Rattle.v1.specs.declared.PllPreDiv.TheVariants as prediv
use Rattle.v1.specs.declared.Pll.{Pll}
use Rattle.v1.specs.declared.Config.{Config}
use Rattle.v1.specs.declared.Fields.{Fields}
use Rattle.v1.specs.V1.{check_of, decode_of, fields_of}
use Rattle.capi_give.specs.Given.{decoder_hse}
use Rattle.capi_pll32.specs.Bytes.{at, yes, yes_or_no, hse_hz_in, config_hse, hse_allowed}

-- the part: 0 V1, 1 L1
abbrev pub chip_of : ℕ → Chip
chip_of part = cond (eqb part 0) chip.V1 chip.L1

abbrev pub config_pll : Bool → Bool → ℕ → Option Pll
config_pll present halved mul =
    cond present (cond halved (Some (record { prediv = prediv.Div2; mul = mul })) (Some (record { prediv = prediv.Div1; mul = mul }))) None

-- A configuration of 14 bytes: 0 HSE present, 1 bypass, 2 to 5 its frequency, 6 the system clock, 7 PLL from HSE, 8 PLL present, 9 its input halved,
-- 10 its multiplier's code, 11 AHB, 12 APB1, 13 APB2
unfoldable pub config_of : List ℕ → Config
config_of l = record {
  hse = config_hse (yes (at l 0)) (yes (at l 1)) (hse_hz_in l);
  sys = at l 6;
  pll_src = source_of (yes (at l 7));
  pll = config_pll (yes (at l 8)) (yes (at l 9)) (at l 10);
  ahb_pre = at l 11;
  apb1_pre = at l 12;
  apb2_pre = at l 13;
}

-- Yes or no where that is asked, and an absent part's bytes zero: so no configuration has two records
unfoldable pub config_allowed : List ℕ → Bool
config_allowed l =
    hse_allowed (at l 0) (at l 1) (hse_hz_in l) && yes_or_no (at l 7)
    && (yes_or_no (at l 8) && yes_or_no (at l 9) && (yes (at l 8) || eqb (at l 9) 0 && eqb (at l 10) 0))

abbrev pub is_config : List ℕ → Bool
is_config l = eqb (length l) 14 && config_allowed l

-- Fields of 8 bytes: 0 SWS, 1 PLLSRC, 2 PLLXTPRE, 3 PLLMUL, 4 HPRE, 5 PPRE1, 6 PPRE2, 7 the HSI predivider bit
abbrev pub fields_in : List ℕ → Fields
fields_in l = record {
  sws = at l 0;
  pllsrc = yes (at l 1);
  pllxtpre = yes (at l 2);
  pllmul = at l 3;
  hpre = at l 4;
  ppre1 = at l 5;
  ppre2 = at l 6;
  hsipre = yes (at l 7);
}

abbrev pub fields_allowed : List ℕ → Bool
fields_allowed l = yes_or_no (at l 1) && yes_or_no (at l 2) && yes_or_no (at l 7)

abbrev pub is_fields : List ℕ → Bool
is_fields l = eqb (length l) 8 && fields_allowed l

abbrev pub bytes_of : Fields → List ℕ
bytes_of f = f.sws ∷ bit f.pllsrc ∷ bit f.pllxtpre ∷ f.pllmul ∷ f.hpre ∷ f.ppre1 ∷ f.ppre2 ∷ bit f.hsipre ∷ []

abbrev pub field_bytes : Answer Fields → Answer (List ℕ)
field_bytes m = do
  f ← m
  gives (bytes_of f)

-- The check: 28 for bytes that are no record and for a part neither 0 nor 1, then as the check refuses
unfoldable pub check_read : ℕ → List ℕ → Answer ClockRecord
check_read part l = do
  refuse 28 (not (is_config l) || ltb 1 part)
  check_of (chip_of part) (config_of l)

-- The decoder, likewise
unfoldable pub decode_read : ℕ → List ℕ → ℕ → Answer Clocks
decode_read part l hz = do
  refuse 28 (not (is_fields l) || ltb 1 part)
  decode_of (chip_of part) (fields_in l) (decoder_hse hz)

-- The fields call, likewise, of two records
unfoldable pub init_read : ℕ → List ℕ → List ℕ → Answer Fields
init_read part l e = do
  refuse 28 ((not (is_config l) || not (is_fields e)) || ltb 1 part)
  fields_of (chip_of part) (config_of l) (fields_in e)
