use mathlib.Core.Path.{◌≡◌}
use Rattle.startup.specs.Steps.{next_of}
use Rattle.startup.proofs.next.Given as goal

abbrev pub invariant-loop-before : goal.invariant-loop-before
invariant-loop-before l = next_of l.config l.step ≡ next_of l.config l.before
