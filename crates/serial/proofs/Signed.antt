-- PCLK - rate x BRR as the machine computes it: what each operation reads back is the number.
-- Assumes nothing.
use mathlib.Core.Path.{◌≡◌, ap₂, ◌∙◌}
use Prim.Native.Nat.{ℕ, ◌*◌, ◌^◌, ◌<◌}
use native.Mathlib.Nat.{lt_of_le_of_lt, mul-le-mul, le_of_lt}
use native.Mathlib.Omega.{arith}
use lib.IntN.{ℤ, pos, ◌-ℤ◌, ◌*ℤ◌}
use mir.Syntax.{w64}
use mir.Val.{SFits, to_z, of_z}
use mir.ValLaws.{to_z_pos, to_z-of_z}
use Rattle.serial.specs.Serial.{error_of}

module _ (p r b : ℕ) (hp : p < 2 ^ 32) (hr : r < 2 ^ 32) (hb : b < 2 ^ 16) where
  below : r * b < 2 ^ 63
  below = lt_of_le_of_lt (mul-le-mul (le_of_lt hr) (le_of_lt hb)) (omega arith)

  -- rate x BRR, as it is read back
  abbrev reached : ℤ
  reached = to_z w64 (of_z w64 (to_z w64 r *ℤ to_z w64 b))

  product : to_z w64 r *ℤ to_z w64 b ≡ pos (r * b)
  product = ap₂ (λ (x y : ℤ). x *ℤ y) (to_z_pos w64 r (omega arith)) (to_z_pos w64 b (omega arith))

  pub product_fits : SFits w64 (to_z w64 r *ℤ to_z w64 b)
  product_fits = rw product (record { sfits = below })

  difference : to_z w64 p -ℤ reached ≡ error_of p r b
  difference = ap₂ (λ (x y : ℤ). x -ℤ y) (to_z_pos w64 p (omega arith)) (to_z-of_z w64 _ product_fits ∙ product)
