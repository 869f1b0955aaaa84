-- The fields of a record stored in lent bytes.
-- Assumes nothing.
use Rattle.std.specs.Prelude.{ℕ, ◌≡◌, Bool, cond, List, ◌++◌, length, drop}
use Rattle.std.proofs.Common.{sym, ◌∙◌}
use Rattle.layout.specs.Layout.{storable, size_of, packed}

-- The answer of a store, and every byte: the record's, and those beyond as they were. Fields that can't be stored leave all of them.
pub record Stored (ws xs l l' : List ℕ) (r : Bool) : Type 0 where
  pub answer : r ≡ storable ws xs (length l)
  pub bytes : l' ≡ cond (storable ws xs (length l)) (packed (size_of ws) ws xs ++ drop (size_of ws) l) l

-- Nothing is left open.
pub stored_settled : {ws xs l a b : List ℕ} {r s : Bool} → Stored ws xs l a r → Stored ws xs l b s → (r ≡ s) × (a ≡ b)
stored_settled w v = (w.answer ∙ sym v.answer, w.bytes ∙ sym v.bytes)
