use mathlib.Core.Path.{◌∙◌}
use native.Mathlib.Omega.{arith}
use Rattle.report.proofs.Ports.{begun, lined, ended}
use Rattle.report.proofs.put_ports.Goals as goal

pub loop-port-init : goal.loop-port-init
loop-port-init c =
    let items = c.chunks_exact-port-items.ensures in
    rw c.into_iter-port-iterator.ensures.into_iter_gives (items.size, rw items.rest (begun _ _ _ _))

pub loop-port-preserved : goal.loop-port-preserved
loop-port-preserved c =
    let size = c.loop-port.invariant.0 in
    let steps = c.in-Some.ensures.steps in
    let put = rw (c.port_divisor-divisor.ensures, c.number-rate.ensures) at c.put_port-next.ensures in
    (steps.0 ∙ size, lined c.in-Some.port.now c.loop-port.invariant.1 steps.1.0 (steps.1.1 ∙ size) put.joined put.port_len_bound)

pub returns : goal.returns
returns c =
    let size = c.loop-port.invariant.0 in
    let short = c.in-None.ensures.steps.1.0 in
    let both = ended c.loop-port.invariant.1 (omega arith) in
    record { joined = both.0; ports_bound = both.1 }
