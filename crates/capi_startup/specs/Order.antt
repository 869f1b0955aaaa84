-- The order of the C calls' refusals: the readers' lists, then the call's own. That 32 comes first of all is `Given`'s.
-- Assumes nothing.
use Rattle.std.specs.Prelude.{ℕ, true, not, Option, None, Some, List, [], ◌∷◌, ◌++◌, eqb, take, drop}
use Rattle.answer.specs.Answer.{Answer, gives, refuses}
use Rattle.answer.specs.Order.{Test, InOrder, behind, order_gives, order_behind}
use Rattle.v4x7.specs.declared.Config.{Config}
use Rattle.v4x7.specs.declared.ClockRecord.{ClockRecord}
use Rattle.v4x7.specs.Check.{named_of, check_of}
use Rattle.profile.specs.Profile.{read_profile}
use Rattle.image.specs.Image.{in_width, read_image}
use Rattle.startup.specs.declared.Reading.{Reading}
use Rattle.startup.specs.declared.Report.{Report}
use Rattle.startup.specs.declared.Startup.{Startup}
use Rattle.startup.specs.Call.{number_of}
use Rattle.startup.specs.Order.{start_tests, step_tests}
use Rattle.startup.proofs.Order.{start_goes}
use Rattle.capi_startup.specs.Kept.{startup_in}
use Rattle.capi_startup.specs.Calls.{reading_of, start_read}

-- `wontabeli_start`: 29 and 30 of the profile, 31 of the image, then the start's
abbrev pub start_read_tests : (Config → List Test) → List Test → List Test → List ℕ → List ℕ → List Test
start_read_tests check profile image p i =
    profile ++ behind (read_profile p) (λ c. image ++ behind (read_image i) (λ f. start_tests (check c) f))

pub start_in_order : (check : Config → List Test) (profile image : List Test) (p i : List ℕ) → ((c : Config) → InOrder (check c) (check_of c)) →
    InOrder profile (read_profile p) → InOrder image (read_image i) → InOrder (start_read_tests check profile image p i) (start_read p i)
unfolding start_read
start_in_order check profile image p i h a b =
    order_behind (read_profile p) a (λ c. order_behind (read_image i) b (λ f. start_goes c f (h c)))

-- `wontabeli_step`: 30 of the place's profile, 31 of its image, then the tests of a call of its startup s.

-- not over, by the check's answer
abbrev going_tests : Answer ClockRecord → Startup → Reading → List Test
going_tests (refuses n) s r = (28, true) ∷ []  -- its configuration is not accepted
going_tests (gives x) s r = step_tests x.clocks s r

-- over: 28 for its codes, then the number that it is over by
abbrev over_tests : Startup → Report → List Test
over_tests s last =
    (28, not (named_of s.config)) ∷  -- a code without a name
    (28, not (in_width s.fields)) ∷  -- a code too wide
    (21, eqb (number_of last) 21) ∷  -- a wait had failed
    (22, eqb (number_of last) 22) ∷  -- the flash mode read back had differed
    (23, eqb (number_of last) 23) ∷  -- the clocks had differed after the switch
    (28, eqb (number_of last) 28) ∷  -- its place has a phase number that no starting leads to
    []

abbrev phase_tests : Option Report → Startup → Reading → List Test
phase_tests None s r = going_tests (check_of s.config) s r
phase_tests (Some last) s r = over_tests s last

abbrev pub called_tests : Startup → Reading → List Test
called_tests s r = phase_tests s.over s r

abbrev pub step_read_tests : List Test → List Test → List ℕ → ℕ → List Test
step_read_tests profile image l w =
    (profile ++ behind (read_profile (take 10 l)) (λ c. image ++ behind (read_image (take 8 (drop 10 l))) (λ f. []))) ++
    behind (startup_in l) (λ s. called_tests s (reading_of w))

pub startup_in_order : (profile image : List Test) (l : List ℕ) → InOrder profile (read_profile (take 10 l)) → InOrder image (read_image (take 8 (drop 10 l))) →
    InOrder (profile ++ behind (read_profile (take 10 l)) (λ c. image ++ behind (read_image (take 8 (drop 10 l))) (λ f. []))) (startup_in l)
unfolding startup_in
startup_in_order profile image l a b =
    order_behind (read_profile (take 10 l)) a (λ c. order_behind (read_image (take 8 (drop 10 l))) b (λ f. order_gives))
