use Rattle.text.specs.Pieces.{join}
use Rattle.report.specs.Report.{text_of}
use Rattle.report.proofs.put_answer.Goals as goal

pub returns-clause-joined : goal.returns-clause-joined
unfolding text_of
returns-clause-joined c = rw c.in-Ok.is (join c.put_clocks-seven.ensures.joined c.put_ports.ensures.joined)
