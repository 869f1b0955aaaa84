-- The texts that document 01 gives, "Rows", the last paragraph, and those of document 02, K1, of the definition.
-- Assumes nothing.
use Rattle.std.specs.Prelude.{◌≡◌, refl, List, [], ◌∷◌, ◌++◌, ℕ}
use Rattle.std.proofs.Common.{ap, ◌∙◌, lit≤}
use Rattle.answer.specs.Answer.{Answer}
use Rattle.tree.specs.declared.Clocks.{Clocks}
use Rattle.v4x7.specs.declared.ClockRecord.{ClockRecord}
use Rattle.profile.specs.Rows as rows
use Rattle.profile.specs.Rows.{a11_profile, a2_profile}
use Rattle.serial.specs.Serial.{nearest_of, divisor_of, port_of}
use Rattle.text.specs.Decimal.{digits, decimal, signed}
use Rattle.text.specs.DecimalLaws.{in_ten_digits}
use Rattle.text.specs.Text.{ascii, line_of}
use Rattle.report.specs.Report.{lines_of, port_line, port_lines, text_of, answered_of, report_of}

twenty : decimal 20000000 ≡ ascii "20000000"
unfolding digits
twenty = in_ten_digits 20000000 (lit≤ tt)

two_and_a_half : decimal 2500000 ≡ ascii "2500000"
unfolding digits
two_and_a_half = in_ten_digits 2500000 (lit≤ tt)

-- row A11, the default
pub a11 : report_of a11_profile
    ≡ ascii "sysclk 20000000\nhclk 20000000\npclk1 20000000\npclk2 20000000\npclk1_tim 20000000\npclk2_tim 20000000\nadc 2500000\n"
unfolding report_of answered_of text_of lines_of line_of port_lines
a11 = ap (λ (m : Answer ClockRecord). text_of m []) rows.a11 ∙ simp (twenty, two_and_a_half)

-- row A2: HSE 4,999,999
pub a2 : report_of a2_profile ≡ ascii "refused 4\n"
unfolding report_of answered_of text_of line_of decimal digits
a2 = ap (λ (m : Answer ClockRecord). text_of m []) rows.a2

-- no byte at all
pub none : report_of [] ≡ ascii "refused 29\n"
unfolding report_of answered_of text_of line_of decimal digits
none = refl

-- Document 02, K1. Four ports: PCLK1 of 20,000,000 at 115,200, the request's own; another bus, with rate 0; rate 0; and 16,892,416, which is 115,200
-- but for its first byte.
abbrev ports : List ℕ
ports =
    0x01 ∷ 0x00 ∷ 0x01 ∷ 0xC2 ∷ 0x00
    ∷ 0x03 ∷ 0x00 ∷ 0x00 ∷ 0x00 ∷ 0x00
    ∷ 0x02 ∷ 0x00 ∷ 0x00 ∷ 0x00 ∷ 0x00
    ∷ 0x02 ∷ 0x01 ∷ 0x01 ∷ 0xC2 ∷ 0x00 ∷ []

-- the clocks of the default
abbrev default : Clocks
default = record { sysclk = 20000000; hclk = 20000000; pclk1 = 20000000; pclk2 = 20000000; pclk1_tim = 20000000; pclk2_tim = 20000000 }

their_lines : (k : Clocks) → k.pclk1 ≡ 20000000 → k.pclk2 ≡ 20000000 → port_lines k ports ≡ ascii "brr 174 error -44800\nrefused 28\nrefused 33\nrefused 34\n"
unfolding port_lines port_line port_of divisor_of nearest_of signed line_of decimal digits
their_lines k e f = rw (e, f)

-- a refused profile prints its one line only
pub refused_with_ports : report_of (a2_profile ++ ports) ≡ ascii "refused 4\n"
unfolding report_of answered_of text_of line_of decimal digits
refused_with_ports = ap (λ (m : Answer ClockRecord). text_of m ports) rows.a2

-- the default's lines, and then those of its ports
pub a11_with_ports : report_of (a11_profile ++ ports)
    ≡ ascii "sysclk 20000000\nhclk 20000000\npclk1 20000000\npclk2 20000000\npclk1_tim 20000000\npclk2_tim 20000000\nadc 2500000\n"
    ++ ascii "brr 174 error -44800\nrefused 28\nrefused 33\nrefused 34\n"
unfolding report_of answered_of text_of lines_of line_of
a11_with_ports = ap (λ (m : Answer ClockRecord). text_of m ports) rows.a11 ∙ simp (twenty, two_and_a_half, their_lines default refl refl)
