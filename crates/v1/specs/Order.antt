-- The order of refusals of CH32V1 and CH32L1: document 01, "V1 and V30x", as flat lists over what is handed in.
-- The theorems stand in proofs/Order.antt. Assumes nothing.
use Rattle.std.specs.Prelude.{Bool, true, false, cond, not, ◌&&◌, List, [], ◌∷◌, Option, None, Some, ℕ, ◌*◌, ◌/◌, eqb, leb}
use Rattle.answer.specs.Order.{Test}
use Rattle.tree.specs.Order.{no_hse, hse_hz}
use Rattle.pll32.specs.declared.Part.{Part}
use Rattle.pll32.specs.declared.Source.{Source}
use Rattle.tree.specs.Tree.{hse_frequency_of}
use Rattle.pll32.specs.Pll.{factor}
use Rattle.pll32.specs.Order.{from_hse, source_hz, over32, codes_tests}
use Rattle.v1.specs.declared.Chip.{Chip}
use Rattle.v1.specs.declared.PllPreDiv.{PllPreDiv}
use Rattle.v1.specs.declared.PllPreDiv.TheVariants.{Div1, Div2}
use Rattle.v1.specs.declared.Pll.{Pll}
use Rattle.v1.specs.declared.Config.{Config}
use Rattle.v1.specs.declared.Fields.{Fields}
use Rattle.v1.specs.V1.{part_of}

-- The PLL, and its numbers: those of an absent one are 0.

abbrev pub has_pll : Option Pll → Bool
has_pll None = false
has_pll (Some p) = true

abbrev pub mul_code : Option Pll → ℕ
mul_code None = 0
mul_code (Some p) = p.mul

-- the predivider: 1 or 2
abbrev pub predivider : PllPreDiv → ℕ
predivider Div1 = 1
predivider Div2 = 2

abbrev pub pll_hz : Part → Option ℕ → Source → Option Pll → ℕ
pll_hz part h source None = 0
pll_hz part h source (Some p) = source_hz source h / predivider p.prediv * factor part p.mul

-- The check: 28 for each code; the PLL: 3, 24; SYSCLK: 20, 3, 26.

abbrev pub check_tests : Chip → Config → List Test
check_tests chip c =
    let h = hse_frequency_of c.hse in
    (28, leb 16 (mul_code c.pll))
    ∷ (28, leb 4 c.sys)
    ∷ (28, leb 16 c.ahb_pre)
    ∷ (28, leb 8 c.apb1_pre)
    ∷ (28, leb 8 c.apb2_pre)
    ∷ (3, has_pll c.pll && (from_hse c.pll_src && no_hse h))
    ∷ (24, has_pll c.pll && over32 (pll_hz (part_of chip) h c.pll_src c.pll))
    ∷ (20, eqb c.sys 3)
    ∷ (3, eqb c.sys 1 && no_hse h)
    ∷ (26, eqb c.sys 2 && not (has_pll c.pll))
    ∷ []

-- The fields call: 28 for each code of the earlier fields, then as the check.

abbrev pub fields_tests : Chip → Config → Fields → List Test
fields_tests chip c f = (28, leb 16 f.pllmul) ∷ codes_tests f.sws f.hpre f.ppre1 f.ppre2 (check_tests chip c)

-- The decoder: 28 for each code; then, where the clock in use needs it, 3, 24.

-- HSE by 2 where PLLXTPRE is set; HSI by 1 where its bit is set, by 2 where it is clear
abbrev pub running_hz : Part → Fields → Option ℕ → ℕ
running_hz part f h = cond f.pllsrc (hse_hz h / cond f.pllxtpre 2 1) (8000000 / cond f.hsipre 1 2) * factor part f.pllmul

abbrev pub decode_tests : Chip → Fields → Option ℕ → List Test
decode_tests chip f h =
    (28, leb 16 f.pllmul) ∷ codes_tests f.sws f.hpre f.ppre1 f.ppre2
    ((3, eqb f.sws 1 && no_hse h)
    ∷ (3, eqb f.sws 2 && (f.pllsrc && no_hse h))
    ∷ (24, eqb f.sws 2 && over32 (running_hz (part_of chip) f h))
    ∷ [])
