use Rattle.answer.specs.Answer.{told}
use Rattle.answer.specs.Said.{says}
use Rattle.capi_startup.proofs.Starting.{begun}
use Rattle.capi_startup.proofs.wontabeli_start.Goals as goal

pub returns-in-Ok : goal.returns-in-Ok
returns-in-Ok c =
    let args = c.args in
    begun args.p.now args.i.now _ (told says c.begin.ensures c.in-Ok.is)
    args.place.now _ _ _ _ _ c.if-place-lt-PLACE_SIZE.false c.keep.ensures c.keep-in-Ok.ensures
    c.lay_counts.ensures c.begin-ticked.ensures c.lay_ticks.ensures
