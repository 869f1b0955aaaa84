-- Facts of the startup's functions: a call by what its tests say, the keys, and the bits of the mask.
-- Assumes nothing.
use Prim.Native.Nat.{ℕ, zero, suc, ◌+◌, ◌*◌, ◌≤◌}
use mathlib.Core.Path.{◌≡◌, refl, sym}
use mathlib.Core.Bool.{Bool, true, false, cond, not, ◌||◌}
use native.Mathlib.Omega.{arith}
use mir.Val.{bool_byte as from_bool}
use Rattle.std.specs.Prelude.{None, Some, ltb}
use Rattle.std.proofs.Math.Bool.{or-false}
use Rattle.answer.specs.Answer.{gives, passed}
use Rattle.v4x7.specs.declared.Config.{Config}
use Rattle.v4x7.specs.declared.ClockRecord.{ClockRecord}
use Rattle.v4x7.specs.Check.{named_of, check_of}
use Rattle.image.specs.Image.{in_width}
use Rattle.startup.specs.declared.Reading.{Reading}
use Rattle.startup.specs.declared.Report.{Report}
use Rattle.startup.specs.declared.Startup.{Startup}
use Rattle.startup.specs.Steps.{listed_of, next_of, work_of}
use Rattle.startup.specs.Call.{seen_of, came_to, event_of, call_of, seeing, repeated_of, step_of, mask_of, key_of}

-- The check refuses a code without a name.
accepted_named : (c : Config) {x : ClockRecord} → gives x ≡ check_of c → not (named_of c) ≡ false
unfolding check_of
accepted_named c e = (passed 28 (not (named_of c)) _ (sym e)).failed

module _ (s : Startup) (r : Reading) (width : in_width s.fields ≡ true) where
  -- A call of a startup that is over.
  pub step_over : {last : Report} → s.over ≡ Some last → repeated_of s last ≡ step_of s r
  unfolding step_of
  step_over over = rw (width, over, or-false)

  -- A call of one that is going.
  pub step_going : {x : ClockRecord} {listed : Bool} → s.over ≡ None → gives x ≡ check_of s.config → listed ≡ listed_of s.config s.step →
      (not listed || ltb 8000001 s.used) ≡ false →
      came_to (next_of s.config s.step) s (seeing s r) (event_of 1000000 s r (work_of s.config x.clocks s.step s.fields (seen_of r))) ≡ step_of s r
  unfolding step_of call_of
  step_going going check on few = rw (accepted_named s.config check, width, going, sym check, sym on, few)

-- Behind the four keys there is none.
pub no_key : (k : ℕ) → (k ≡ 0 → ⊥) → (k ≡ 1 → ⊥) → (k ≡ 2 → ⊥) → (k ≡ 3 → ⊥) → None ≡ key_of k
unfolding key_of
no_key zero a b c d = absurd (a refl)
no_key (suc zero) a b c d = absurd (b refl)
no_key (suc (suc zero)) a b c d = absurd (c refl)
no_key (suc (suc (suc zero))) a b c d = absurd (d refl)
no_key (suc (suc (suc (suc k)))) a b c d = refl

-- The mask, by the steps that turn its parts on.

pub bit_le : (b : Bool) → from_bool b ≤ 1
bit_le true = omega arith
bit_le false = omega arith

weighed : (n : ℕ) (b : Bool) → n * from_bool b ≡ cond b n 0
weighed n true = omega arith
weighed n false = omega arith

bit : (b : Bool) → from_bool b ≡ cond b 1 0
bit true = refl
bit false = refl

pub mask_is : (c : Config) →
    8 * from_bool (listed_of c 9) + 4 * from_bool (listed_of c 11) + 2 * from_bool (listed_of c 14) + from_bool (listed_of c 17) ≡ mask_of c
unfolding listed_of
mask_is c = rw (weighed 8, weighed 4, weighed 2, bit)
