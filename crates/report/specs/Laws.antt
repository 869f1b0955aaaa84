-- What follows of the program's text: which lengths an input may have, and that with no port every byte is as before.
-- Assumes nothing.
use Rattle.std.specs.Prelude.{◌≡◌, refl, true, false, ◌&&◌, List, [], ℕ, ◌+◌, ◌-◌, ◌*◌, ◌/◌, ◌%◌, ◌≤◌, leb, eqb, length, drop}
use Rattle.std.proofs.Common.{append-nil, arith, leb-true, le-leb, eqb-true, eq-eqb, take_all}
use Rattle.std.proofs.Math.Seq.{drop-length}
use Rattle.answer.specs.Answer.{Answer, gives, refuses}
use Rattle.answer.specs.Tools.{and_left, and_right, and_both}
use Rattle.v4x7.specs.declared.ClockRecord.{ClockRecord}
use Rattle.profile.specs.Profile.{check_profile}
use Rattle.text.specs.Text.{ascii, line_of}
use Rattle.report.specs.Report.{lines_of, port_lines, text_of, sized, answered_of, report_of}

-- an input has ten bytes and five for each of up to eight ports
pub record Carries (n : ℕ) : Type 0 where
  pub count : ℕ
  pub most : count ≤ 8
  pub bytes : n ≡ 10 + 5 * count

pub sized_carries : (n : ℕ) → sized n ≡ true → Carries n
sized_carries n e =
    let bounds = and_left (leb 10 n && leb n 50) (eqb (n % 5) 0) e in
    let low = leb-true 10 n (and_left (leb 10 n) (leb n 50) bounds) in
    let high = leb-true n 50 (and_right (leb 10 n) (leb n 50) bounds) in
    let whole = eqb-true (n % 5) 0 (and_right (leb 10 n && leb n 50) (eqb (n % 5) 0) e) in
    record { count = (n - 10) / 5; most = omega arith; bytes = omega arith }

pub carries_sized : (n : ℕ) → Carries n → sized n ≡ true
carries_sized n c =
    let e = c.bytes in
    let k = c.most in
    and_both (and_both (le-leb 10 n (omega arith)) (le-leb n 50 (omega arith))) (eq-eqb (n % 5) 0 (omega arith))

-- any other length is 29, whatever the bytes are
pub other_length : (s : List ℕ) → sized (length s) ≡ false → report_of s ≡ line_of (ascii "refused") 29
unfolding report_of answered_of text_of
other_length s t = rw t

-- document 01's text of a profile alone
abbrev before : Answer ClockRecord → List ℕ
before (gives x) = lines_of x.clocks x.adc
before (refuses n) = line_of (ascii "refused") n

no_port : (m : Answer ClockRecord) → text_of m [] ≡ before m
unfolding text_of port_lines
no_port (gives x) = append-nil (lines_of x.clocks x.adc)
no_port (refuses n) = refl

-- with no port every byte is as before
pub as_before : (s : List ℕ) → length s ≡ 10 → report_of s ≡ before (check_profile s)
unfolding report_of answered_of
as_before s e =
    let none : drop 10 s ≡ [] = rw (← e) (drop-length s) in
    rw (e, take_all 10 s (omega arith), none) (no_port (check_profile s))
