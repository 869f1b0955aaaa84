-- Why a report refuses.
-- Assumes nothing.
use Rattle.std.specs.Prelude.{ℕ, ◌+◌, ◌≡◌, refl, Bool, true, false, List, [], ◌∷◌, ltb, length}
use Rattle.std.proofs.Common.{zero-add}
use Rattle.answer.specs.Answer.{gives, refuse, ◌>>=◌, ◌>>◌}
use Rattle.answer.specs.Order.{Test, first_of, bare}
use Rattle.report.specs.Report.{report_of, reported_of}

-- 32: lent output shorter than the text
abbrev pub report_tests : List ℕ → List ℕ → List Test
report_tests s l = (32, ltb (length l) (length (report_of s))) ∷ []

pub report_in_order : (s l : List ℕ) → bare (reported_of s l) ≡ first_of (report_tests s l)
report_in_order s l = rw zero-add (by_test (ltb (length l) (length (report_of s))))
  where
    by_test : (t : Bool) → bare (◌>>=◌ (◌>>◌ (refuse 32 t) (gives 0)) (λ at. gives (at + length (report_of s)))) ≡ first_of ((32, t) ∷ [])
    by_test true = refl
    by_test false = refl
