use mathlib.Core.Path.{◌≡◌, refl}
use mathlib.Core.Bool.{Bool, true, false}
use Prim.Native.Nat.{ℕ}
use Rattle.std.specs.Bool.{then_some}
use Rattle.tree.specs.declared.Hse.{Hse}
use Rattle.profile.specs.Profile.{hse_of, pll_of, hspll_of, config_of}
use Rattle.profile.proofs.config_of.Goals as goal

some_hse : (b y : Bool) (f : ℕ) → then_some {T = Hse} b (record { bypass = y; freq = f }) ≡ hse_of b y f
some_hse true y f = refl
some_hse false y f = refl

some_pll : (b : Bool) (m : ℕ) → then_some b m ≡ pll_of b m
some_pll true m = refl
some_pll false m = refl

some_hspll : (b : Bool) (m : ℕ) → then_some b m ≡ hspll_of b m
some_hspll true m = refl
some_hspll false m = refl

pub returns : goal.returns
unfolding config_of
returns c =
    rw (
      c.then_some.ensures,
      some_hse,
      c.number-hz.ensures,
      c.then_some-2.ensures,
      some_pll,
      c.then_some-3.ensures,
      some_hspll,
      c.adc_of.ensures,
    )
