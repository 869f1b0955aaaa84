-- Runs of bytes stored one behind another: what is still to be stored, from turn to turn of a loop. Assumes nothing.
use Prim.Native.Nat.{ℕ, suc, ◌+◌, ◌*◌, ◌/◌, ◌%◌, ◌<◌, ◌≤◌}
use mathlib.Core.Path.{◌≡◌, sym, ap, ◌∙◌}
use mathlib.Core.List.{List, ◌++◌, append-nil}
use native.Mathlib.Nat.{zero-add}
use native.Mathlib.Omega.{arith}
use lib.ListN.{length, length-append}
use borrow.Author.Tests.{ne_eqb}
use lib.Seq.{sets, sets-eq, drop-length, take_at, drop_at}
use Rattle.answer.specs.Answer.{Answer}
use Rattle.v4x7.specs.declared.ClockRecord.{ClockRecord}
use Rattle.profile.specs.Profile.{check_profile}
use Rattle.layout.proofs.Filling.{sets_append}
use Rattle.layout.proofs.Writing.{short, refused, written_to}
use Rattle.std.specs.Prelude.{Ok, Err}
use Rattle.answer.specs.declared.Refusal.TheVariants.{OutputTooShort, ProfileLength}
use Rattle.layout.specs.Numbers.{in_fours}
use Rattle.boards.specs.Tray.{numbers_of, board_of, boards_in, records_of, tray_of, Trayed}
use Rattle.boards.specs.Laws.{board_length, records_length}

-- a run over all there is
pub sets_whole : (l xs : List ℕ) → length xs ≡ length l → sets l 0 xs ≡ xs
sets_whole l xs e = sets-eq xs l 0 (omega arith) ∙ rw (zero-add, e, drop-length) (append-nil xs)

-- the record of a check's answer
pub its_record : (p xs : List ℕ) {m : Answer ClockRecord} → xs ≡ numbers_of m → m ≡ check_profile p → in_fours xs ≡ board_of p
unfolding board_of
its_record p xs e q = rw (e, q)

-- the records of all profiles that lie back to back
abbrev pub all_of : List ℕ → List ℕ
all_of s = records_of (boards_in s) s

first_of_all : (p left : List ℕ) → length p ≡ 10 → all_of (p ++ left) ≡ board_of p ++ all_of left
unfolding records_of
first_of_all p left e =
    let n : boards_in (p ++ left) ≡ suc (boards_in left) = omega (arith, length-append p left) in
    rw (n, take_at p left 10 e, drop_at p left 10 e)

-- a board is stored, and those behind it are left
pub board_stored : (out g p left : List ℕ) (i : ℕ) → length p ≡ 10 → sets out (i * 32) (all_of (p ++ left)) ≡ g →
    sets (sets out (i * 32) (board_of p)) ((i + 1) * 32) (all_of left) ≡ g
board_stored out g p left i e q =
    let k : (i + 1) * 32 ≡ i * 32 + length (board_of p) = omega (arith, board_length p) in
    rw k (sym (sets_append out (i * 32) (board_of p) (all_of left)) ∙ ap (sets out (i * 32)) (sym (first_of_all p left e)) ∙ q)

-- all are stored
pub boards_stored : (out g left : List ℕ) (at : ℕ) → length left < 10 → sets out at (all_of left) ≡ g → out ≡ g
unfolding records_of
boards_stored out g left at h q = let e : boards_in left ≡ 0 = omega arith in rw e at q

-- a tray, by the way that its call took
module _ (s l : List ℕ) where
  pub too_short : length l / 32 < boards_in s → Trayed s l l (Err OutputTooShort)
  too_short h = short (32 * boards_in s) (tray_of s) l (omega arith)

  pub uneven : boards_in s ≤ length l / 32 → (length s % 10 ≡ 0 → ⊥) → Trayed s l l (Err ProfileLength)
  unfolding tray_of
  uneven h e = refused (32 * boards_in s) (tray_of s) l ProfileLength (omega arith) (rw (ne_eqb (length s % 10) 0 e))

  pub served : {l' : List ℕ} → boards_in s ≤ length l / 32 → length s % 10 ≡ 0 → l' ≡ sets l 0 (records_of (boards_in s) s) → Trayed s l l' (Ok tt)
  unfolding tray_of
  served h e q =
      let size = records_length (boards_in s) s in
      rw (q, sets-eq (records_of (boards_in s) s) l 0 (omega arith), zero-add, size)
      (written_to (32 * boards_in s) (tray_of s) l (records_of (boards_in s) s) (omega arith) (rw e))
