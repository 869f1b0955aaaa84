use Rattle.std.proofs.lemmas.List.{length-replicate}
use Rattle.capi_codec.proofs.Making.{made, misfit}
use Rattle.capi_codec.proofs.stored.Goals as goal

pub returns-then-store : goal.returns-then-store
returns-then-store g c = made _ _ _ _ _ _ c.store.ensures c.requires.whole (length-replicate _ _) c.requires.narrow c.if-store.true

pub returns-else-store : goal.returns-else-store
returns-else-store g c = misfit _ _ _ _ _ _ c.store.ensures c.requires.whole (length-replicate _ _) c.requires.narrow c.if-store.false
