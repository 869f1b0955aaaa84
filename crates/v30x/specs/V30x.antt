-- CH32V30x, document 01, "V1 and V30x": the check in its order, the fields, and the decoder.
-- Assumes nothing.
use Rattle.std.specs.Prelude.{Bool, true, false, not, ◌&&◌, ◌||◌, Option, None, Some, ℕ, ◌+◌, eqb, leb}
use Rattle.answer.specs.Answer.{Answer, gives, refuses, refuse, ◌>>=◌, ◌>>◌}
use Rattle.divider.specs.declared.Frequency.{Frequency}
use Rattle.divider.specs.Frequency.{over}
use Rattle.tree.specs.declared.Clocks.{Clocks}
use Rattle.pll32.specs.declared.Part.TheVariants as part
use Rattle.pll32.specs.declared.Source.{Source}
use Rattle.pll32.specs.declared.Source.TheVariants as from
use Rattle.pll32.specs.declared.Setting.{Setting}
use Rattle.pll32.specs.declared.Codes.{Codes}
use Rattle.pll32.specs.declared.ClockRecord.{ClockRecord}
use Rattle.tree.specs.Tree.{hse_frequency_of}
use Rattle.pll32.specs.Pll.{too_wide, wide_setting, source_frequency_of, pll_output_of, configured_clocks_of, source_of, prediv_code_in, decoded_clocks_of}
use Rattle.v30x.specs.declared.PllSource.{PllSource}
use Rattle.v30x.specs.declared.PllSource.TheVariants as source
use Rattle.v30x.specs.declared.Pll.{Pll}
use Rattle.v30x.specs.declared.Config.{Config}
use Rattle.v30x.specs.declared.Fields.{Fields}

-- the codes of the system clock and the prescalers, of a configuration and of fields
abbrev pub config_codes : Config → Codes
config_codes c = record { sys = c.sys; prescalers = record { ahb = c.ahb_pre; apb1 = c.apb1_pre; apb2 = c.apb2_pre } }

abbrev pub fields_codes : Fields → Codes
fields_codes f = record { sys = f.sws; prescalers = record { ahb = f.hpre; apb1 = f.ppre1; apb2 = f.ppre2 } }

-- 28: a code of a configuration too wide for its field, used or not
abbrev pub wide_pll : Option Pll → Bool
wide_pll None = false
wide_pll (Some p) = wide_setting p.prediv p.mul

abbrev pub wide_hs_pll : Option ℕ → Bool
wide_hs_pll None = false
wide_hs_pll (Some pre) = leb 8 pre

unfoldable pub wide_config : Config → Bool
wide_config c =
    wide_pll c.pll || wide_hs_pll c.hspll || too_wide c.sys c.ahb_pre c.apb1_pre c.apb2_pre

-- PLL from HSI or HSE after the predivider, code + 1: 3, 24; HSI predivider not 1 or 2: 25
abbrev pub from_hsi : Source → Bool
from_hsi from.Hsi = true
from_hsi from.Hse = false

abbrev pub setting_of : Source → ℕ → ℕ → Setting
setting_of source prediv mul = record { source = source; prediv = prediv; mul = mul }

unfoldable pub pll_from_oscillator_of : Option ℕ → Source → ℕ → ℕ → Answer (Option Frequency)
pll_from_oscillator_of hse source prediv mul = do
  x ← pll_output_of part.V30x hse (setting_of source prediv mul)
  refuse 25 (from_hsi source && leb 2 prediv)
  gives (Some x)

-- a configured PLL from PLL2: 27
unfoldable pub configured_pll_of : Option ℕ → PllSource → Option Pll → Answer (Option Frequency)
configured_pll_of hse source None = gives None
configured_pll_of hse source.Hsi (Some p) = pll_from_oscillator_of hse from.Hsi p.prediv p.mul
configured_pll_of hse source.Hse (Some p) = pll_from_oscillator_of hse from.Hse p.prediv p.mul
configured_pll_of hse source.Pll2 (Some p) = refuses 27

-- USBHS: 3, then 8 unless HSI or HSE, divided by its 1..8, is 3, 4, 5 or 8 MHz
abbrev pub reference_allowed : ℕ → Bool
reference_allowed hz = eqb hz 3000000 || eqb hz 4000000 || eqb hz 5000000 || eqb hz 8000000

unfoldable pub usbhs_of : Option ℕ → Source → Option ℕ → Answer (Unit {0})
usbhs_of hse source None = gives tt
usbhs_of hse source (Some pre) = do
  x ← source_frequency_of source hse
  refuse 8 (not (reference_allowed (over x (pre + 1)).hz))

-- 27 where `pllx` is present or PLL2 feeds a configured PLL, 3, 24, 25, then USBHS
unfoldable pub sources_of : Option ℕ → Config → Answer (Option Frequency)
sources_of hse c = do
  refuse 27 c.pllx
  out ← configured_pll_of hse c.pll_src c.pll
  usbhs_of hse c.hspll_src c.hspll
  gives out

-- The check: 28, then the sources, then SYSCLK: 20, 3, 26. The six clocks and the USB divisor
unfoldable pub check_of : Config → Answer ClockRecord
check_of c = do
  refuse 28 (wide_config c)
  out ← sources_of (hse_frequency_of c.hse) c
  configured_clocks_of part.V30x (hse_frequency_of c.hse) out c.sys c.ahb_pre c.apb1_pre c.apb2_pre

-- The fields. HSE is divided by PREDIV1 + 1; HSI by 1 where its bit is set, by 2 where it is clear
unfoldable pub setting_in : Fields → Setting
setting_in f = record { source = source_of f.pllsrc; prediv = prediv_code_in f.pllsrc f.prediv1 f.hsipre; mul = f.pllmul }

unfoldable pub wide_fields : Fields → Bool
wide_fields f = wide_setting f.prediv1 f.pllmul || too_wide f.sws f.hpre f.ppre1 f.ppre2

-- The decoder: 28; then, only where the clock in use needs it, 27 where the PLL runs from HSE with PREDIV1SRC set, 3, 24
unfoldable pub decode_of : Fields → Option ℕ → Answer Clocks
decode_of f hse = do
  refuse 28 (wide_fields f)
  refuse 27 (eqb f.sws 2 && f.pllsrc && f.prediv1src)
  decoded_clocks_of part.V30x hse (setting_in f) f.sws f.hpre f.ppre1 f.ppre2

-- What starting the PLL leaves in the fields: as they were where none is configured. The check refuses PLL2
unfoldable pub pll_fields : PllSource → Option Pll → Fields → Fields
pll_fields source None f = f
pll_fields source.Hsi (Some p) f =
    record {
      sws = f.sws;
      pllsrc = false;
      prediv1 = f.prediv1;
      prediv1src = f.prediv1src;
      pllmul = p.mul;
      hpre = f.hpre;
      ppre1 = f.ppre1;
      ppre2 = f.ppre2;
      hsipre = eqb p.prediv 0;
    }
pll_fields source.Hse (Some p) f =
    record {
      sws = f.sws;
      pllsrc = true;
      prediv1 = p.prediv;
      prediv1src = false;
      pllmul = p.mul;
      hpre = f.hpre;
      ppre1 = f.ppre1;
      ppre2 = f.ppre2;
      hsipre = f.hsipre;
    }
pll_fields source.Pll2 (Some p) f = f

-- then SWS, which the start waits for, and the prescalers
unfoldable pub written_of : Config → Fields → Fields
written_of c f =
    record {
      sws = c.sys;
      pllsrc = (pll_fields c.pll_src c.pll f).pllsrc;
      prediv1 = (pll_fields c.pll_src c.pll f).prediv1;
      prediv1src = (pll_fields c.pll_src c.pll f).prediv1src;
      pllmul = (pll_fields c.pll_src c.pll f).pllmul;
      hpre = c.ahb_pre;
      ppre1 = c.apb1_pre;
      ppre2 = c.apb2_pre;
      hsipre = (pll_fields c.pll_src c.pll f).hsipre;
    }

-- The fields call: 28 for the earlier fields, then as the check refuses
unfoldable pub fields_of : Config → Fields → Answer Fields
fields_of c earlier = do
  refuse 28 (wide_fields earlier)
  checked ← check_of c
  gives (written_of c earlier)
