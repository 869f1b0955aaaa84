-- Worked boards and trays, of the definitions. Boards: row A11 of document 01; row A2, which is refused by 4; and one whose seven frequencies all
-- differ: HSI's 20 MHz, AHB by 2, APB1 by 4, APB2 by 16, the ADC by 8. Trays: how they are answered by their lengths, where 32 and 29 compete too.
-- Assumes nothing.
use Rattle.std.specs.Prelude.{ℕ, ◌≡◌, refl, List, [], ◌∷◌, ◌++◌, map, replicate}
use Rattle.std.proofs.Common.{ap, append-nil}
use Rattle.answer.specs.Answer.{Answer, gives, refuses}
use Rattle.answer.specs.Order.{bare}
use Rattle.v4x7.specs.declared.ClockRecord.{ClockRecord}
use Rattle.profile.specs.Profile.{check_profile}
use Rattle.profile.specs.Rows as rows
use Rattle.profile.specs.Rows.{a11_profile, a2_profile, divided_profile}
use Rattle.layout.specs.Numbers.{in_fours}
use Rattle.boards.specs.Tray.{numbers_of, board_of, records_of, tray_of, tray_into}

-- a board's record, of what its check says
shown : (p : List ℕ) {m : Answer ClockRecord} → check_profile p ≡ m → board_of p ≡ in_fours (numbers_of m)
unfolding board_of
shown p e = ap (λ (m : Answer ClockRecord). in_fours (numbers_of m)) e

pub a11_board : board_of a11_profile ≡
    0x00 ∷ 0x00 ∷ 0x00 ∷ 0x00  -- accepted
    ∷ 0x01 ∷ 0x31 ∷ 0x2D ∷ 0x00  -- SYSCLK 20,000,000
    ∷ 0x01 ∷ 0x31 ∷ 0x2D ∷ 0x00
    ∷ 0x01 ∷ 0x31 ∷ 0x2D ∷ 0x00
    ∷ 0x01 ∷ 0x31 ∷ 0x2D ∷ 0x00
    ∷ 0x01 ∷ 0x31 ∷ 0x2D ∷ 0x00
    ∷ 0x01 ∷ 0x31 ∷ 0x2D ∷ 0x00
    ∷ 0x00 ∷ 0x26 ∷ 0x25 ∷ 0xA0  -- ADC 2,500,000
    ∷ []
a11_board = shown a11_profile rows.a11

pub a2_board : board_of a2_profile ≡ 0x00 ∷ 0x00 ∷ 0x00 ∷ 0x04 ∷ replicate 28 0
a2_board = shown a2_profile rows.a2

pub divided_board : board_of divided_profile ≡
    0x00 ∷ 0x00 ∷ 0x00 ∷ 0x00  -- accepted
    ∷ 0x01 ∷ 0x31 ∷ 0x2D ∷ 0x00  -- SYSCLK 20,000,000
    ∷ 0x00 ∷ 0x98 ∷ 0x96 ∷ 0x80  -- HCLK 10,000,000
    ∷ 0x00 ∷ 0x26 ∷ 0x25 ∷ 0xA0  -- PCLK1 2,500,000
    ∷ 0x00 ∷ 0x09 ∷ 0x89 ∷ 0x68  -- PCLK2 625,000
    ∷ 0x00 ∷ 0x4C ∷ 0x4B ∷ 0x40  -- PCLK1's timers 5,000,000
    ∷ 0x00 ∷ 0x13 ∷ 0x12 ∷ 0xD0  -- PCLK2's timers 1,250,000
    ∷ 0x00 ∷ 0x01 ∷ 0x31 ∷ 0x2D  -- ADC 78,125
    ∷ []
divided_board = shown divided_profile rows.divided

-- a refused board between two accepted ones
pub three : tray_of (divided_profile ++ a2_profile ++ a11_profile) ≡ gives (board_of divided_profile ++ (board_of a2_profile ++ board_of a11_profile))
unfolding tray_of records_of
three = ap (λ (l : List ℕ). gives (board_of divided_profile ++ (board_of a2_profile ++ l))) (append-nil (board_of a11_profile))

-- bytes beyond stay
pub beyond : tray_into a11_profile (replicate 34 0xEE) ≡ gives (board_of a11_profile ++ (0xEE ∷ 0xEE ∷ []))
unfolding tray_of records_of
beyond = rw append-nil

-- So many bytes of profiles, so many lent: how the tray is answered.
abbrev Row : Type 0
Row = ℕ × ℕ × Answer (Unit {0})

pub lengths : List Row
lengths =
    (0, 0, gives tt)
    ∷ (0, 5, gives tt)
    ∷ (9, 0, refuses 29)
    ∷ (10, 31, refuses 32)
    ∷ (10, 32, gives tt)
    ∷ (19, 31, refuses 32)  -- 29 holds as well
    ∷ (19, 32, refuses 29)
    ∷ (20, 63, refuses 32)
    ∷ (4000, 12799, refuses 32)
    ∷ (4010, 12831, refuses 32)  -- 401 boards
    ∷ (4010, 12832, gives tt)
    ∷ (4011, 12832, refuses 29)
    ∷ []

pub answered : Row → Row
answered (n, m, r) = let s : List ℕ = replicate n 0 in (n, m, bare (tray_into s (replicate m 0)))

pub lengths_hold : map answered lengths ≡ lengths
unfolding answered lengths tray_of
lengths_hold = refl
