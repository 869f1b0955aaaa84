use Rattle.std.proofs.Common.{◌+◌, ◌*◌, ◌≤◌, arith, sym}
use Rattle.divider.specs.Facts.{at_most}
use Rattle.divider.specs.Laws.{apb_given}
use Rattle.v4x7_rules.proofs.adc_divisor.Goals as goal
use Rattle.v4x7_rules.proofs.adc_divisor.Goals.{In_ok-apb2}

-- the source's divisor by APB2's, and by the ADC's own
product : (c : goal.In_ok-apb2) → let args = c.args in args.first * c.in_ok-apb2.apb2 ≤ 512 * 16
product c = at_most c.requires (apb_given c.args.ppre2 (sym c.in_ok-apb2.ensures)).high

pub overflow_mul-result : goal.overflow_mul-result
overflow_mul-result c = omega (arith, product c)

pub overflow_mul-result-3 : goal.overflow_mul-result-3
overflow_mul-result-3 c =
    let own : 2 * (c.from.result + 1) ≤ 8 = omega arith in
    omega (arith, at_most (product (goal.at.overflow_mul-result-3 c).In_ok-apb2) own)
