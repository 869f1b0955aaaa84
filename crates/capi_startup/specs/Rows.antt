-- The bytes of a place, worked: every number at its own place.
-- Assumes nothing.
use Rattle.std.specs.Prelude.{ℕ, ◌≡◌, refl, List, [], ◌∷◌, ◌++◌, replicate}
use Rattle.answer.specs.Answer.{gives}
use Rattle.v4x7.specs.declared.Config.{Config}
use Rattle.image.specs.declared.Fields.{Fields}
use Rattle.startup.specs.declared.Report.TheVariants.{Worked, Waiting, Failed}
use Rattle.startup.specs.Call.{going, ended}
use Rattle.ticks.specs.declared.Ticks as declared
use Rattle.ticks.specs.Ticks.{noted_of, met_of, after_of, longest_of}
use Rattle.capi_startup.specs.Kept.{ticks_in, counts_bytes, ticks_bytes, noted_bytes}
use Rattle.capi_startup.specs.Calls.{start_read, start_bytes}

-- At step 3, with 4 unmet readings of 0x01020305 used; and over by 21 at step 10.
pub counts_worked : (c : Config) (f : Fields) →
    (counts_bytes (going c f 3 4 0x01020305) (Waiting 3 0x01020305) ≡ 3 ∷ 0 ∷ 0 ∷ 0 ∷ 4 ∷ 1 ∷ 2 ∷ 3 ∷ 5 ∷ 0 ∷ 1 ∷ 0 ∷ 3 ∷ 0 ∷ []) ×
    (counts_bytes (ended (going c f 10 6 7) f 8 9 (Failed 21 10 9)).startup (Failed 21 10 9) ≡
    10 ∷ 0 ∷ 0 ∷ 0 ∷ 8 ∷ 0 ∷ 0 ∷ 0 ∷ 9 ∷ 21 ∷ 3 ∷ 21 ∷ 10 ∷ 0 ∷ [])
unfolding counts_bytes
counts_worked c f = (refl, refl)

-- A first tick of 1, and waits of 2, 3, 9, 5, 6, 7, 8 and 4 ticks.
abbrev some : declared.Ticks
some = record { first = 1; waits = record { at2 = 2; at4 = 3; at7 = 9; at10 = 5; at12 = 6; at15 = 7; at18 = 8; at27 = 4 } }

abbrev some_waits : List ℕ
some_waits =
    0 ∷ 0 ∷ 0 ∷ 2 ∷ 0 ∷ 0 ∷ 0 ∷ 3 ∷ 0 ∷ 0 ∷ 0 ∷ 9 ∷ 0 ∷ 0 ∷ 0 ∷ 5 ∷ 0 ∷ 0 ∷ 0 ∷ 6 ∷ 0 ∷ 0 ∷ 0 ∷ 7 ∷ 0 ∷ 0 ∷ 0 ∷ 8 ∷ 0 ∷ 0 ∷ 0 ∷ 4
    ∷ 0 ∷ 0 ∷ 0 ∷ 9 ∷ []

-- Stored and read. A reading that doesn't meet its wait writes the first tick where it is the wait's first, and one that meets the wait of step 10, 12 ticks
-- after it, writes all.
pub ticks_worked : (ticks_bytes some ≡ 0 ∷ 0 ∷ 0 ∷ 1 ∷ some_waits) × (ticks_in (0 ∷ 0 ∷ 0 ∷ 1 ∷ some_waits) ≡ some) ×
    (noted_bytes (0 ∷ 0 ∷ 0 ∷ 1 ∷ some_waits) 0 515 (Waiting 10 7) ≡ 0 ∷ 0 ∷ 2 ∷ 3 ∷ some_waits) ×
    (noted_bytes (0 ∷ 0 ∷ 0 ∷ 1 ∷ some_waits) 6 13 (Worked 10 7) ≡
    0 ∷ 0 ∷ 0 ∷ 1 ∷ 0 ∷ 0 ∷ 0 ∷ 2 ∷ 0 ∷ 0 ∷ 0 ∷ 3 ∷ 0 ∷ 0 ∷ 0 ∷ 9 ∷ 0 ∷ 0 ∷ 0 ∷ 12 ∷ 0 ∷ 0 ∷ 0 ∷ 6 ∷ 0 ∷ 0 ∷ 0 ∷ 7 ∷ 0 ∷ 0 ∷ 0 ∷ 8 ∷ 0 ∷ 0 ∷ 0 ∷ 4
    ∷ 0 ∷ 0 ∷ 0 ∷ 12 ∷ [])
unfolding ticks_bytes ticks_in noted_bytes after_of met_of noted_of longest_of
ticks_worked = (refl, refl, refl, refl)

-- A startup that was just started: behind profile and image step 1, and 53 zeros.
pub start_worked : (p i : List ℕ) (c : Config) (f : Fields) → start_read p i ≡ gives (going c f 1 0 0) →
    start_bytes p i ≡ gives (p ++ (i ++ (1 ∷ replicate 53 0)))
unfolding start_bytes counts_bytes ticks_bytes longest_of
start_worked p i c f e = rw e
