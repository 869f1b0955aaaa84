-- The calls of CH32V30x on bytes.
-- Assumes nothing.
use Rattle.std.specs.Prelude.{ℕ, Bool, cond, not, ◌&&◌, ◌||◌, Option, None, Some, List, [], ◌∷◌, eqb, leb, length}
use Rattle.answer.specs.Answer.{Answer, gives, refuse, ◌>>=◌, ◌>>◌}
use Rattle.layout.specs.Bits.{bit}
use Rattle.tree.specs.declared.Clocks.{Clocks}
use Rattle.pll32.specs.declared.ClockRecord.{ClockRecord}
use Rattle.pll32.specs.Pll.{source_of}
use Rattle.v30x.specs.declared.PllSource.{PllSource}
use Rattle.v30x.specs.declared.PllSource.TheVariants as source
use Rattle.v30x.specs.declared.Pll.{Pll}
use Rattle.v30x.specs.declared.Config.{Config}
use Rattle.v30x.specs.declared.Fields.{Fields}
use Rattle.v30x.specs.V30x.{check_of, decode_of, fields_of}
use Rattle.capi_give.specs.Given.{decoder_hse}
use Rattle.capi_pll32.specs.Bytes.{at, yes, yes_or_no, hse_hz_in, config_hse, hse_allowed}

-- what feeds the PLL: 0 HSI, 1 HSE, 2 PLL2
abbrev pub config_pll_source : ℕ → PllSource
config_pll_source b = cond (eqb b 0) source.Hsi (cond (eqb b 1) source.Hse source.Pll2)

abbrev pub config_pll : Bool → ℕ → ℕ → Option Pll
config_pll present pre mul = cond present (Some (record { prediv = pre; mul = mul })) None

abbrev pub config_hs_pll : Bool → ℕ → Option ℕ
config_hs_pll present pre = cond present (Some pre) None

-- A configuration of 18 bytes: 0 HSE present, 1 bypass, 2 to 5 its frequency, 6 the system clock, 7 the PLL's source, 8 PLL present,
-- 9 its predivider's code, 10 its multiplier's, 11 PLL2 or PLL3 asked for, 12 AHB, 13 APB1, 14 APB2, 15 USBHS from HSE, 16 USBHS present,
-- 17 its prescaler's code
unfoldable pub config_of : List ℕ → Config
config_of l = record {
  hse = config_hse (yes (at l 0)) (yes (at l 1)) (hse_hz_in l);
  sys = at l 6;
  pll_src = config_pll_source (at l 7);
  pll = config_pll (yes (at l 8)) (at l 9) (at l 10);
  pllx = yes (at l 11);
  ahb_pre = at l 12;
  apb1_pre = at l 13;
  apb2_pre = at l 14;
  hspll_src = source_of (yes (at l 15));
  hspll = config_hs_pll (yes (at l 16)) (at l 17);
}

-- The PLL's bytes and those of USBHS: a source that there is, yes or no where that is asked, and an absent part's bytes zero
abbrev pub pll_allowed : List ℕ → Bool
pll_allowed l = leb (at l 7) 2 && yes_or_no (at l 8) && (yes (at l 8) || eqb (at l 9) 0 && eqb (at l 10) 0) && yes_or_no (at l 11)

abbrev pub usbhs_allowed : List ℕ → Bool
usbhs_allowed l = yes_or_no (at l 15) && yes_or_no (at l 16) && (yes (at l 16) || eqb (at l 17) 0)

-- so no configuration has two records
unfoldable pub config_allowed : List ℕ → Bool
config_allowed l = hse_allowed (at l 0) (at l 1) (hse_hz_in l) && pll_allowed l && usbhs_allowed l

abbrev pub is_config : List ℕ → Bool
is_config l = eqb (length l) 18 && config_allowed l

-- Fields of 9 bytes: 0 SWS, 1 PLLSRC, 2 PREDIV1, 3 PREDIV1SRC, 4 PLLMUL, 5 HPRE, 6 PPRE1, 7 PPRE2, 8 the HSI predivider bit
abbrev pub fields_in : List ℕ → Fields
fields_in l = record {
  sws = at l 0;
  pllsrc = yes (at l 1);
  prediv1 = at l 2;
  prediv1src = yes (at l 3);
  pllmul = at l 4;
  hpre = at l 5;
  ppre1 = at l 6;
  ppre2 = at l 7;
  hsipre = yes (at l 8);
}

abbrev pub fields_allowed : List ℕ → Bool
fields_allowed l = yes_or_no (at l 1) && yes_or_no (at l 3) && yes_or_no (at l 8)

abbrev pub is_fields : List ℕ → Bool
is_fields l = eqb (length l) 9 && fields_allowed l

abbrev pub bytes_of : Fields → List ℕ
bytes_of f =
    f.sws ∷ bit f.pllsrc ∷ f.prediv1 ∷ bit f.prediv1src ∷ f.pllmul ∷ f.hpre ∷ f.ppre1 ∷ f.ppre2 ∷ bit f.hsipre ∷ []

abbrev pub field_bytes : Answer Fields → Answer (List ℕ)
field_bytes m = do
  f ← m
  gives (bytes_of f)

-- The check: 28 for bytes that are no record, then as the check refuses
unfoldable pub check_read : List ℕ → Answer ClockRecord
check_read l = do
  refuse 28 (not (is_config l))
  check_of (config_of l)

-- The decoder, likewise
unfoldable pub decode_read : List ℕ → ℕ → Answer Clocks
decode_read l hz = do
  refuse 28 (not (is_fields l))
  decode_of (fields_in l) (decoder_hse hz)

-- The fields call, likewise, of two records
unfoldable pub init_read : List ℕ → List ℕ → Answer Fields
init_read l e = do
  refuse 28 (not (is_config l) || not (is_fields e))
  fields_of (config_of l) (fields_in e)
