use borrow.Author.Rules.{rules}
use Rattle.divider.specs.Facts.{below}
use Rattle.divider.specs.Frequency.{over}
use Rattle.tree.proofs.product.Goals as goal

pub overflow_mul-twice : goal.overflow_mul-twice
unfolding over
overflow_mul-twice c = record { fits = below 32 (search rules) (search rules) }

pub returns : goal.returns
unfolding over
returns c = search rules
