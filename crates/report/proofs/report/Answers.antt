use Rattle.report.proofs.Showing.{made}
use Rattle.report.proofs.report.Goals as goal

pub returns-clause-shown : goal.returns-clause-shown
returns-clause-shown c = let text = c.put_text.ensures in rw (made text.joined text.input_len_bound c.in_ok-n.was) at c.put_bytes.ensures
