-- The text of a number with its sign, by a test of the number as it is read back.
-- Assumes nothing.
use mathlib.Core.Path.{◌≡◌, refl, sym, ◌∙◌}
use mathlib.Core.Bool.{true, false}
use mathlib.Core.List.{◌∷◌}
use Prim.Native.Nat.{ℕ}
use native.Mathlib.Omega.{arith}
use borrow.Author.Tests.{le-leb}
use lib.IntN.{ℤ, pos, negsuc, nat_abs}
use lib.Signed.{le_z}
use mir.Syntax.{w32}
use mir.Val.{SFits, to_z, of_z}
use mir.ValLaws.{to_z-of_z}
use Rattle.answer.specs.Tools.{true_false, false_true}
use Rattle.text.specs.Decimal.{decimal, signed}

by_sign : (z : ℤ) → (le_z (pos 0) z ≡ true → signed z ≡ decimal (nat_abs z)) × (le_z (pos 0) z ≡ false → signed z ≡ 45 ∷ decimal (nat_abs z))
unfolding signed
by_sign (pos n) = (λ t. refl, λ t. true_false (sym (le-leb 0 n (omega arith)) ∙ t))
by_sign (negsuc n) = (λ t. false_true t, λ t. refl)

module _ (z : ℤ) (h : SFits w32 z) {n : ℕ} (e : n ≡ nat_abs (to_z w32 (of_z w32 z))) where
  pub unsigned_text : le_z (pos 0) (to_z w32 (of_z w32 z)) ≡ true → signed z ≡ decimal n
  unsigned_text t = rw (e, to_z-of_z w32 z h) ((by_sign z).0 (rw (to_z-of_z w32 z h) at t))

  pub minus_text : le_z (pos 0) (to_z w32 (of_z w32 z)) ≡ false → signed z ≡ 45 ∷ decimal n
  minus_text t = rw (e, to_z-of_z w32 z h) ((by_sign z).1 (rw (to_z-of_z w32 z h) at t))
