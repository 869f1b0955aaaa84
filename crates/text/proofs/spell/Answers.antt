use mathlib.Core.Path.{◌≡◌, sym, ◌∙◌}
use mathlib.Core.List.{List, [], ◌∷◌, append-nil, append_assoc}
use Prim.Native.Nat.{ℕ, zero, suc, ◌+◌, ◌-◌, ◌/◌, ◌%◌, ◌^◌, ◌<◌, ◌≤◌}
use native.Mathlib.Nat.{pow-suc}
use native.Mathlib.Omega.{arith}
use borrow.Author.Rules.{rules}
use lib.ListN.{length, set, drop, length-set, length-drop}
use lib.Seq.{drop-cons, drop-length, drop-set-lt, get_or-set_same}
use Rattle.text.specs.Decimal.{decimal}
use Rattle.text.specs.DecimalLaws.{one_digit, more_digits}
use Rattle.text.proofs.spell.Invariants.{Spelling}
use Rattle.text.proofs.spell.Goals as goal

begun : (n : ℕ) (ten : List ℕ) → n < 2 ^ 32 → length ten ≡ 10 → Spelling n ten 9 n
begun n ten h e =
    let none : drop 10 ten ≡ [] = rw (← e) (drop-length ten) in
    record { long = e; within = omega arith; room = omega arith; spelt = sym (append-nil (decimal n)) ∙ rw none }

some_left : (first rest : ℕ) → 10 ≤ rest → rest < 10 ^ suc first → 0 < first
some_left zero rest h r = absurd (omega (arith, pow-suc 10 0))
some_left (suc k) rest h r = omega arith

-- one digit more
module _ {n : ℕ} {ten : List ℕ} {first rest : ℕ} (s : Spelling n ten first rest) (d : ℕ) (e : d ≡ 48 + rest % 10) where
  put : drop first (set ten first d) ≡ d ∷ drop (suc first) ten
  put =
      let h : first < length ten = omega arith in
      drop-cons (set ten first d) first 0 (simp length-set h) ∙ rw (get_or-set_same ten first d 0 h, drop-set-lt (suc first) ten first d (omega arith))

  next : 10 ≤ rest → Spelling n (set ten first d) (first - 1) (rest / 10)
  next h =
      let f = some_left first rest h s.room in
      let g : suc (first - 1) ≡ first = omega arith in
      record {
        long = simp length-set s.long;
        within = omega arith;
        room = rw g (omega (arith, pow-suc 10 first));
        spelt = s.spelt ∙ rw (g, put, more_digits rest h, ← e, append_assoc);
      }

  ended : rest < 10 → (drop first (set ten first d) ≡ decimal n) × (first + length (decimal n) ≡ 10)
  ended h =
      let all : drop first (set ten first d) ≡ decimal n = put ∙ rw (s.spelt, one_digit rest h, ← e) in
      (all, rw (← all, length-drop, length-set) (omega arith))

pub loop-rest-init : goal.loop-rest-init
loop-rest-init c = begun c.args.n c.args.ten.now (search rules) c.requires

pub overflow_sub-first : goal.overflow_sub-first
overflow_sub-first c = omega (arith, some_left c.loop-rest.first c.loop-rest.rest c.loop-rest-test.true c.loop-rest.invariant.room)

pub loop-rest-preserved : goal.loop-rest-preserved
loop-rest-preserved c = next c.loop-rest.invariant c.digit.result c.digit.ensures c.loop-rest-test.true

pub returns : goal.returns
returns c =
    let both = ended c.loop-rest.invariant c.digit-2.result c.digit-2.ensures c.loop-rest-test.false in
    record { ten_after = both.0; n_value = both.1 }
