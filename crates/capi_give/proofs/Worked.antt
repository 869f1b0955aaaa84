-- The words of clocks that all differ, in the order in which the program writes them: two exchanged would show.
-- Assumes nothing.
use mathlib.Core.Path.{◌≡◌, refl}
use mathlib.Core.List.{[], ◌∷◌}
use Rattle.answer.specs.Answer.{gives}
use Rattle.tree.specs.declared.Clocks.{Clocks}
use Rattle.capi_give.specs.Given.{six_words, seven_words}

abbrev clocks : Clocks
clocks = record { sysclk = 1; hclk = 2; pclk1 = 3; pclk2 = 4; pclk1_tim = 5; pclk2_tim = 6 }

pub six_words_lem : six_words (gives clocks) ≡ gives (1 ∷ 2 ∷ 3 ∷ 4 ∷ 5 ∷ 6 ∷ [])
six_words_lem = refl

-- and one more number behind them
pub seven_words_lem : seven_words (gives (clocks, 7)) ≡ gives (1 ∷ 2 ∷ 3 ∷ 4 ∷ 5 ∷ 6 ∷ 7 ∷ [])
seven_words_lem = refl
