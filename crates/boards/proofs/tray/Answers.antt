use Rattle.std.proofs.Common.{arith}
use Rattle.boards.proofs.Filling.{boards_stored, uneven, served}
use Rattle.boards.proofs.tray.Goals as goal

pub returns-then-profiles-ne0 : goal.returns-then-profiles-ne0
returns-then-profiles-ne0 c = let args = c.args in uneven args.profiles.now args.out.now c.if-out-count.false c.if-profiles-ne0.true

pub returns : goal.returns
returns c =
    let args = c.args in
    let last = c.in-None.ensures.steps in
    served args.profiles.now args.out.now c.if-out-count.false c.if-profiles-ne0.false
    (boards_stored c.loop-i.out _ c.loop-i.i-iterator.iter.rest.now _ (omega (arith, last.0.1.0)) c.loop-i.invariant.stored)
