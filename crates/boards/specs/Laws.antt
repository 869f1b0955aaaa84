-- What follows of a tray: each record is its own board's, and trays lie back to back.
-- Assumes nothing.
use Rattle.std.specs.Prelude.{ℕ, zero, suc, ◌+◌, ◌*◌, ◌%◌, ◌<◌, ◌≤◌, ◌≡◌, refl, Bool, true, false, not, Ok, List, [], ◌∷◌, ◌++◌, eqb, ltb, length, take, drop}
use Rattle.std.proofs.Common.{sym, ap, ◌∙◌, append-nil, append_assoc, zero-add, arith, lt-ltb, le-ltb, ltb-true, ltb-false, length-append, length-drop, length-take-le, take_all, take_at, drop_at, drop-drop}
use Rattle.std.proofs.lemmas.List.{take-append-le, drop-append-le}
use Rattle.std.proofs.Math.Seq.{drop-append-add}
use Rattle.answer.specs.Answer.{Answer, gives, refuses, refuse, ◌>>=◌, ◌>>◌, passed}
use Rattle.layout.proofs.Writing.{held}
use Rattle.v4x7.specs.declared.ClockRecord.{ClockRecord}
use Rattle.profile.specs.Profile.{check_profile}
use Rattle.layout.specs.Numbers.{in_fours}
use Rattle.boards.specs.Tray.{numbers_of, board_of, boards_in, records_of, tray_of, tray_into, Trayed}

-- a record has 32 bytes
in_fours_length : (m : Answer ClockRecord) → length (in_fours (numbers_of m)) ≡ 32
in_fours_length (gives x) = refl
in_fours_length (refuses n) = refl

pub board_length : (p : List ℕ) → length (board_of p) ≡ 32
unfolding board_of
board_length p = in_fours_length (check_profile p)

pub records_length : (n : ℕ) (s : List ℕ) → length (records_of n s) ≡ 32 * n
unfolding records_of
records_length zero s = refl
records_length (suc n) s =
    length-append (board_of (take 10 s)) (records_of n (drop 10 s)) ∙ omega (arith, board_length (take 10 s), records_length n (drop 10 s))

-- record i is that of profile i, whatever the other profiles are
pub record_at : (n i : ℕ) (s : List ℕ) → i < n → take 32 (drop (32 * i) (records_of n s)) ≡ board_of (take 10 (drop (10 * i) s))
unfolding records_of
record_at zero i s h = absurd (omega arith)
record_at (suc n) zero s h = take_at (board_of (take 10 s)) (records_of n (drop 10 s)) 32 (board_length (take 10 s))
record_at (suc n) (suc i) s h =
    let first = board_of (take 10 s) in
    let rest = records_of n (drop 10 s) in
    let e : 32 * suc i ≡ length first + 32 * i = omega (arith, board_length (take 10 s)) in
    let f : 10 + 10 * i ≡ 10 * suc i = omega arith in
    ap (λ (k : ℕ). take 32 (drop k (first ++ rest))) e
    ∙ ap (take 32) (drop-append-add first rest (32 * i))
    ∙ record_at n i (drop 10 s) (omega arith)
    ∙ ap (λ (l : List ℕ). board_of (take 10 l)) (drop-drop (10 * i) 10 s ∙ ap (λ (k : ℕ). drop k s) f)

-- boards, and others behind them
pub records_append : (m n : ℕ) (s t : List ℕ) → length s ≡ 10 * m → records_of (m + n) (s ++ t) ≡ records_of m s ++ records_of n t
unfolding records_of
records_append zero n [] t e = rw zero-add
records_append zero n (x ∷ s) t e = absurd (omega arith)
records_append (suc m) n s t e =
    let g : 10 ≤ length s = omega arith in
    let f : suc m + n ≡ suc (m + n) = omega arith in
    ap (λ (k : ℕ). records_of k (s ++ t)) f
    ∙ rw (take-append-le 10 s t g, drop-append-le 10 s t g, records_append m n (drop 10 s) t (rw length-drop (omega arith)))
    (sym (append_assoc (board_of (take 10 s)) (records_of m (drop 10 s)) (records_of n t)))

-- Another profile at a board's place, refused or not, changes that board's record alone.
pub among_others : (m n : ℕ) (before profile behind : List ℕ) → length before ≡ 10 * m → length profile ≡ 10 →
    records_of (m + suc n) (before ++ (profile ++ behind)) ≡ records_of m before ++ (board_of profile ++ records_of n behind)
unfolding records_of
among_others m n before profile behind e f =
    records_append m (suc n) before (profile ++ behind) e
    ∙ rw (take_at profile behind 10 f, drop_at profile behind 10 f)

-- the tray of one board: the bytes of a call for that board alone
pub one_board : (p : List ℕ) → length p ≡ 10 → tray_of p ≡ gives (board_of p)
unfolding tray_of records_of
one_board p e = rw (e, take_all 10 p (omega arith), append-nil (board_of p))

-- The tray of two trays back to back, the first of them of whole boards, is their records back to back; it is refused where the second is.
pub two_trays : (s t : List ℕ) → length s % 10 ≡ 0 → tray_of (s ++ t) ≡ (do
  a ← tray_of s
  b ← tray_of t
  gives (a ++ b))
unfolding tray_of
two_trays s t e =
    let n : length (s ++ t) % 10 ≡ length t % 10 = rw length-append (omega arith) in
    let k : boards_in (s ++ t) ≡ boards_in s + boards_in t = rw length-append (omega arith) in
    rw (n, e, k, records_append (boards_in s) (boards_in t) s t (omega arith)) (by_test (not (eqb (length t % 10) 0)) (records_of (boards_in s) s) (records_of (boards_in t) t))
  where
    by_test : (refused : Bool) (x y : List ℕ) →
        ◌>>◌ (refuse 29 refused) (gives (x ++ y)) ≡ ◌>>=◌ (◌>>◌ (refuse 29 refused) (gives y)) (λ b. gives (x ++ b))
    by_test true x y = refl
    by_test false x y = refl

-- no profiles: accepted, and nothing is written
pub no_boards : (l : List ℕ) → tray_into [] l ≡ gives l
unfolding tray_of records_of
no_boards l = rw (le-ltb (length l) 0 (omega arith))

-- record i, in the lent bytes of a tray that was written
pub record_lent : (s : List ℕ) {l l' : List ℕ} (i : ℕ) → Trayed s l l' (Ok tt) → i < boards_in s → take 32 (drop (32 * i) l') ≡ board_of (take 10 (drop (10 * i) s))
unfolding tray_of
record_lent s {l} i w h =
    let n : ℕ = boards_in s in
    let all : List ℕ = records_of n s in
    let done = held w refl in
    let served = passed 29 (not (eqb (length s % 10) 0)) (gives all) done.gave in
    let e : done.bytes ≡ all = (let g : gives all ≡ gives done.bytes = served.after in cc) in
    let size = records_length n s in
    let left : 32 ≤ length (drop (32 * i) all) = rw length-drop (omega arith) in
    rw (done.lent, e, drop-append-le (32 * i) all (drop (32 * n) l) (omega arith), take-append-le 32 (drop (32 * i) all) (drop (32 * n) l) left)
    (record_at n i s h)

-- The program lends 65,536 bytes, and reads 20,490 at most: whatever lies beyond these, the tray is answered as the whole of it.
pub enough_read : (s l : List ℕ) → length l ≡ 65536 → tray_into (take 20490 s) l ≡ tray_into s l
enough_read s l e = by_test (ltb 20490 (length s)) refl
  where
    by_test : (long : Bool) → ltb 20490 (length s) ≡ long → tray_into (take 20490 s) l ≡ tray_into s l
    by_test true t =
        let more = ltb-true 20490 (length s) t in
        let size = length-take-le 20490 s (omega arith) in
        rw (lt-ltb (length l) (32 * boards_in (take 20490 s)) (omega arith), lt-ltb (length l) (32 * boards_in s) (omega arith))
    by_test false t = ap (λ (p : List ℕ). tray_into p l) (take_all 20490 s (ltb-false 20490 (length s) t))
