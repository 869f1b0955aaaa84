-- Nothing is left open: two results that the promise of `seven` allows are equal, also where a refusal is any number. Assumes nothing.
use Rattle.std.specs.Prelude.{◌≡◌, ℕ, Result}
use Rattle.answer.specs.Said.{says_by}
use Rattle.answer.proofs.Settling.{settled_as}
use Rattle.tree.specs.declared.Clocks.{Clocks}

pub seven_settled : (r s : Result (Clocks × ℕ) ℕ) → says_by (λ n. n) r ≡ says_by (λ n. n) s → r ≡ s
seven_settled = settled_as (λ n. n) (λ d e q. q)
