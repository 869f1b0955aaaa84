use Rattle.text.specs.Pieces.{one_piece, then}
use Rattle.report.specs.Report.{lines_of}
use Rattle.report.proofs.put_clocks.Goals as goal

pub returns-clause-joined : goal.returns-clause-joined
unfolding lines_of
returns-clause-joined c =
    then (then (then (then (then (then
    (one_piece c.put_line-a.ensures)
    c.put_line-b.ensures)
    c.put_line-c.ensures)
    c.put_line-d.ensures)
    c.put_line-e.ensures)
    c.put_line-f.ensures)
    c.put_line.ensures
