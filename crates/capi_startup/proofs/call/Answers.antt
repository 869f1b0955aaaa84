use Rattle.capi_startup.proofs.Calling.{stays, unwritten, called}
use Rattle.capi_startup.proofs.call.Goals as goal

pub returns-then-is_some-leaves_as_it_was : goal.returns-then-is_some-leaves_as_it_was
returns-then-is_some-leaves_as_it_was c =
    let args = c.args in
    stays args.place.now args.startup args.w args.tick c.requires _ c.reading.ensures _ c.step-report.ensures
    _ _ c.is_some.ensures c.leaves_as_it_was.ensures c.if-is_some-leaves_as_it_was.true _ c.number.ensures

pub returns-in-Err : goal.returns-in-Err
returns-in-Err c =
    let args = c.args in
    rw c.number-in-Err.ensures (unwritten args.place.now args.startup args.w args.tick c.requires _ c.reading.ensures
    _ c.step-report.ensures _ _ c.is_some.ensures c.leaves_as_it_was.ensures c.if-is_some-leaves_as_it_was.false _ _
    c.write_image.ensures _ c.in-Err.is)

pub returns : goal.returns
returns c =
    let args = c.args in
    called args.place.now args.startup args.w args.tick c.requires _ c.reading.ensures _ c.step-report.ensures
    _ _ c.is_some.ensures c.leaves_as_it_was.ensures c.if-is_some-leaves_as_it_was.false _ _ c.write_image.ensures
    c.in_default.is _ _ c.lay_counts.ensures c.note.ensures _ c.number-2.ensures
