-- The V4x7 rules' numbers, for the lists of refusals: plain, and 0 for what is not there.
-- Assumes nothing.
use Rattle.std.specs.Prelude.{Bool, cond, ◌||◌, Option, [], ◌∷◌, ℕ, ◌*◌, ◌/◌, ltb, eqb, get_or}
use Rattle.tree.specs.Order.{hse_hz}
use Rattle.v4x7_rules.specs.Rules.{doubled}

abbrev pub outside : ℕ → ℕ → ℕ → Bool
outside low high n = ltb n low || ltb high n

-- the main PLL: HSE where the source bit is set, else HSI, by the doubled multiplier; the product first
abbrev pub main_pll_hz : Option ℕ → Bool → ℕ → ℕ
main_pll_hz hse source mul = cond source (hse_hz hse) 20000000 * get_or doubled mul 0 / 2

-- USBHS references: 25, 20, 24, 32 MHz, codes 0, 1, 2, 3
abbrev pub allowed : ℕ → Bool
allowed hz = eqb hz 25000000 || eqb hz 20000000 || eqb hz 24000000 || eqb hz 32000000

abbrev pub reference_code : ℕ → ℕ
reference_code hz = cond (eqb hz 25000000) 0 (cond (eqb hz 20000000) 1 (cond (eqb hz 24000000) 2 3))

-- SYSPLL's sources: USBHS 480 MHz, ETH 500 MHz, two thirds of USBHS 320 MHz, two thirds of ETH 333,333,333 Hz, else main PLL
abbrev pub sys_pll_hz : ℕ → ℕ → ℕ
sys_pll_hz source main = get_or (480000000 ∷ 500000000 ∷ 320000000 ∷ 333333333 ∷ []) source main
