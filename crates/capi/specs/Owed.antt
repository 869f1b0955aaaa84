-- The keys of step 19, and a profile's waits and calls, as C and Rust ask for them.
-- Assumes nothing.
use Rattle.std.specs.Prelude.{ℕ, Option, None, Some, List}
use Rattle.answer.specs.Answer.{Answer, gives, refuses, ◌>>=◌}
use Rattle.profile.specs.Profile.{read_profile}
use Rattle.startup.specs.declared.FlashKey.{FlashKey}
use Rattle.startup.specs.declared.FlashKey.TheVariants.{Keyr, ModeKeyr}
use Rattle.startup.specs.Call.{key_of, waits_owed_of, call_bound_of}

-- a key's register, 0 KEYR or 1 MODEKEYR, and the key; 28 behind the last
abbrev pub key_words : Option FlashKey → Answer (ℕ × ℕ)
key_words (Some (Keyr key)) = gives (0, key)
key_words (Some (ModeKeyr key)) = gives (1, key)
key_words None = refuses 28

abbrev pub key_read : ℕ → Answer (ℕ × ℕ)
key_read position = key_words (key_of position)

-- the waits owed and the bound of the calls: 29, 30
unfoldable pub waits_read : List ℕ → Answer ℕ
waits_read p = do
  c ← read_profile p
  waits_owed_of c

unfoldable pub calls_read : List ℕ → Answer ℕ
calls_read p = do
  c ← read_profile p
  call_bound_of c
