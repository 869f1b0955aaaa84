-- A frequency as it is carried down the tree: whole Hz. Divisions round down, and this is the one place that says how.
-- Assumes nothing.
use Rattle.std.specs.Prelude.{ℕ, ◌*◌, ◌/◌}
use Rattle.divider.specs.declared.Frequency.{Frequency}

-- a frequency of n Hz
abbrev pub whole : ℕ → Frequency
whole n = record { hz = n }

-- multiplied
abbrev pub times : Frequency → ℕ → Frequency
times x m = record { hz = x.hz * m }

-- divided, rounded down
unfoldable pub over : Frequency → ℕ → Frequency
over x d = record { hz = x.hz / d }
