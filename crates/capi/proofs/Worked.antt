-- The two words of a query: 1 and the frequency where there is one, zeros where its PLL is not ready.
-- Assumes nothing.
use mathlib.Core.Path.{◌≡◌, refl}
use Rattle.std.specs.Prelude.{Some, None}
use Rattle.answer.specs.Answer.{gives}
use Rattle.capi.specs.Calls.{pair_of}

pub ready : pair_of (gives (Some 480000000)) ≡ gives (1, 480000000)
ready = refl

pub not_ready_lem : pair_of (gives None) ≡ gives (0, 0)
not_ready_lem = refl
