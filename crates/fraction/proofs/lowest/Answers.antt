use native.Mathlib.Omega.{arith}
use Prim.Native.Nat.{◌<◌}
use borrow.Author.Tests.{eq-eqb, ne_eqb}
use Rattle.fraction.specs.Fraction.{lowest_of}
use Rattle.fraction.proofs.Laws.{gcd_pos}
use Rattle.fraction.proofs.lowest.Goals as goal
use Rattle.fraction.proofs.lowest.Goals.{After-gcd-common}

-- the common divisor is not 0
positive : (c : goal.After-gcd-common) → 0 < c.gcd-common.result
positive c = rw c.gcd-common.ensures (gcd_pos _ _ (omega arith))

pub returns-then-divisor-eq0 : goal.returns-then-divisor-eq0
unfolding lowest_of
returns-then-divisor-eq0 c = rw (eq-eqb _ _ c.if-divisor-eq0.true)

pub nonzero_div-result : goal.nonzero_div-result
nonzero_div-result c = positive c

pub nonzero_div-result-2 : goal.nonzero_div-result-2
nonzero_div-result-2 c = positive c

pub returns : goal.returns
unfolding lowest_of
returns c = rw (ne_eqb _ _ c.if-divisor-eq0.false, c.gcd-common.ensures)
