use Rattle.std.specs.Prelude.{◌≡◌, refl, Bool, true, false, cond, None, Some, ℕ}
use Rattle.std.specs.Bool.{then_some}
use Rattle.std.proofs.Common.{sym}
use borrow.Author.Tests.{not-false}
use Rattle.decoder.specs.Queries.{rng_query_of}
use Rattle.decoder.proofs.rng_source_frequency.Goals as goal

-- where the definition has a choice the code has `then_some`
chosen : (ready : Bool) (hz : ℕ) → then_some ready hz ≡ cond ready (Some hz) None
chosen true hz = refl
chosen false hz = refl

pub returns-then-f : goal.returns-then-f
unfolding rng_query_of
returns-then-f c =
    simp (
      sym c.in_width.ensures,
      c.if-not-in_width.false,
      not-false c.args.f.cfgr2.rngsrc c.if-not-f.false,
      c.if-f.true,
      c.then_some.ensures,
      chosen,
    )
