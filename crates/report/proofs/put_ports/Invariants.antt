use mathlib.Core.Path.{◌≡◌}
use Rattle.report.proofs.Ports.{Lining}
use Rattle.report.proofs.put_ports.Given as goal

abbrev pub invariant-loop-port : goal.invariant-loop-port
invariant-loop-port l = (l.port-iterator.size ≡ 5) × Lining l.clocks l.ports l.initial.next l.initial.out l.out l.next l.port-iterator.rest.now
