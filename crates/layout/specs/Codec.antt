-- A record that is read from bytes and written into them.
-- Assumes nothing.
use Rattle.std.specs.Prelude.{ℕ, ◌≡◌, List, length}
use Rattle.answer.specs.Answer.{Answer, gives}
use Rattle.layout.specs.Layout.{Bytes}

-- A record of n bytes. Reading and writing undo one another, and what can be read is exactly what can be written.
pub record Inverse {A : Type 0} (n : ℕ) (read : List ℕ → Answer A) (write : A → Answer (List ℕ)) : Type 0 where
  pub size : (a : A) (s : List ℕ) → write a ≡ gives s → length s ≡ n
  pub read_write : (a : A) (s : List ℕ) → write a ≡ gives s → read s ≡ gives a
  pub write_read : (s : List ℕ) (a : A) → Bytes s → read s ≡ gives a → write a ≡ gives s
