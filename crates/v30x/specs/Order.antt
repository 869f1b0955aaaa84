-- The order of refusals of CH32V30x: document 01, "V1 and V30x", as flat lists over what is handed in.
-- The theorems stand in proofs/Order.antt. Assumes nothing.
use Rattle.std.specs.Prelude.{Bool, true, false, cond, not, ◌&&◌, List, [], ◌∷◌, Option, None, Some, ℕ, ◌+◌, ◌*◌, ◌/◌, eqb, leb}
use Rattle.answer.specs.Order.{Test}
use Rattle.tree.specs.Order.{no_hse, hse_hz}
use Rattle.pll32.specs.declared.Part.TheVariants as part
use Rattle.tree.specs.Tree.{hse_frequency_of}
use Rattle.pll32.specs.Pll.{factor}
use Rattle.pll32.specs.Order.{from_hse, source_hz, over32, codes_tests}
use Rattle.v30x.specs.declared.PllSource.{PllSource}
use Rattle.v30x.specs.declared.PllSource.TheVariants as source
use Rattle.v30x.specs.declared.Pll.{Pll}
use Rattle.v30x.specs.declared.Config.{Config}
use Rattle.v30x.specs.declared.Fields.{Fields}
use Rattle.v30x.specs.V30x.{reference_allowed}

-- The PLLs, and their numbers: those of an absent one are 0.

abbrev pub has_pll : Option Pll → Bool
has_pll None = false
has_pll (Some p) = true

abbrev pub prediv_code : Option Pll → ℕ
prediv_code None = 0
prediv_code (Some p) = p.prediv

abbrev pub mul_code : Option Pll → ℕ
mul_code None = 0
mul_code (Some p) = p.mul

abbrev pub has_usbhs : Option ℕ → Bool
has_usbhs None = false
has_usbhs (Some pre) = true

abbrev pub usbhs_code : Option ℕ → ℕ
usbhs_code None = 0
usbhs_code (Some pre) = pre

-- what feeds the PLL: HSI, HSE or PLL2
abbrev pub pll_from_hsi : PllSource → Bool
pll_from_hsi source.Hsi = true
pll_from_hsi source.Hse = false
pll_from_hsi source.Pll2 = false

abbrev pub pll_from_hse : PllSource → Bool
pll_from_hse source.Hsi = false
pll_from_hse source.Hse = true
pll_from_hse source.Pll2 = false

abbrev pub pll_from_pll2 : PllSource → Bool
pll_from_pll2 source.Hsi = false
pll_from_pll2 source.Hse = false
pll_from_pll2 source.Pll2 = true

-- the PLL's product: HSE or HSI 8 MHz, by the predivider, code + 1, times the multiplier (13 where it is 6.5)
abbrev pub pll_hz : Option ℕ → PllSource → Option Pll → ℕ
pll_hz h s p = cond (pll_from_hse s) (hse_hz h) 8000000 / (prediv_code p + 1) * factor part.V30x (mul_code p)

-- The check: 28 for each code; 27; the PLL: 27, 3, 24, 25; USBHS: 3, 8; SYSCLK: 20, 3, 26.

abbrev pub check_tests : Config → List Test
check_tests c =
    let h = hse_frequency_of c.hse in
    (28, leb 16 (prediv_code c.pll))
    ∷ (28, leb 16 (mul_code c.pll))
    ∷ (28, leb 8 (usbhs_code c.hspll))
    ∷ (28, leb 4 c.sys)
    ∷ (28, leb 16 c.ahb_pre)
    ∷ (28, leb 8 c.apb1_pre)
    ∷ (28, leb 8 c.apb2_pre)
    ∷ (27, c.pllx)
    ∷ (27, has_pll c.pll && pll_from_pll2 c.pll_src)
    ∷ (3, has_pll c.pll && (pll_from_hse c.pll_src && no_hse h))
    ∷ (24, has_pll c.pll && over32 (pll_hz h c.pll_src c.pll))
    ∷ (25, has_pll c.pll && (pll_from_hsi c.pll_src && leb 2 (prediv_code c.pll)))
    ∷ (3, has_usbhs c.hspll && (from_hse c.hspll_src && no_hse h))
    ∷ (8, has_usbhs c.hspll && not (reference_allowed (source_hz c.hspll_src h / (usbhs_code c.hspll + 1))))
    ∷ (20, eqb c.sys 3)
    ∷ (3, eqb c.sys 1 && no_hse h)
    ∷ (26, eqb c.sys 2 && not (has_pll c.pll))
    ∷ []

-- The fields call: 28 for each code of the earlier fields, then as the check.

abbrev pub fields_tests : Config → Fields → List Test
fields_tests c f = (28, leb 16 f.prediv1) ∷ (28, leb 16 f.pllmul) ∷ codes_tests f.sws f.hpre f.ppre1 f.ppre2 (check_tests c)

-- The decoder: 28 for each code; then, where the clock in use needs it, 27, 3, 24.

-- HSE by PREDIV1 + 1; HSI by 1 where its bit is set, by 2 where it is clear
abbrev pub running_hz : Fields → Option ℕ → ℕ
running_hz f h = cond f.pllsrc (hse_hz h / (f.prediv1 + 1)) (8000000 / cond f.hsipre 1 2) * factor part.V30x f.pllmul

abbrev pub in_use_tests : Fields → Option ℕ → List Test
in_use_tests f h =
    (27, eqb f.sws 2 && f.pllsrc && f.prediv1src)
    ∷ (3, eqb f.sws 1 && no_hse h)
    ∷ (3, eqb f.sws 2 && (f.pllsrc && no_hse h))
    ∷ (24, eqb f.sws 2 && over32 (running_hz f h))
    ∷ []

abbrev pub decode_tests : Fields → Option ℕ → List Test
decode_tests f h =
    (28, leb 16 f.prediv1) ∷ (28, leb 16 f.pllmul) ∷ codes_tests f.sws f.hpre f.ppre1 f.ppre2 (in_use_tests f h)
