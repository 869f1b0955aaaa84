use Rattle.layout.proofs.Loading.{Loading}
use Rattle.layout.proofs.load.Given as goal

abbrev pub invariant-loop-i : goal.invariant-loop-i
invariant-loop-i l = Loading l.ws l.s l.initial.out l.out l.n l.at l.i
