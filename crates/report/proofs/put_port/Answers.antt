use mathlib.Core.List.{◌++◌}
use Prim.Native.Nat.{ℕ, ◌^◌, ◌<◌, ◌≤◌}
use native.Mathlib.Omega.{arith}
use borrow.Author.Rules.{rules}
use lib.IntN.{ℤ}
use lib.ListN.{length, length-append}
use lib.Signed.{mag}
use mir.Syntax.{w32}
use mir.Val.{SFits}
use mir.ValLaws.{to_z-of_z}
use Rattle.text.specs.Decimal.{decimal, signed}
use Rattle.text.specs.DecimalLaws.{ten_digits}
use Rattle.text.specs.Text.{ascii}
use Rattle.text.specs.Pieces.{one_piece, then, signed_short}
use Rattle.report.specs.Report.{port_line}
use Rattle.report.proofs.put_port.Goals as goal

set_short : (b : ℕ) (e : ℤ) → b < 2 ^ 32 → mag e < 2 ^ 31 → length (ascii "brr " ++ decimal b ++ ascii " error " ++ signed e ++ ascii "\n") ≤ 33
set_short b e h k = simp length-append (omega (arith, ten_digits b h, signed_short e k))

pub returns-in-Ok : goal.returns-in-Ok
unfolding port_line
returns-in-Ok c =
    let error = c.in-Ok.error in
    let decimal = rw c.from-in-Ok.ensures at c.put_decimal-b.ensures in
    let fits : SFits w32 error = record { sfits = search rules } in
    let signed = rw (to_z-of_z w32 error fits) at c.put_signed-d.ensures in
    rw c.in-Ok.is (record {
      joined = then (then (then (then (one_piece c.put_bytes-a.ensures) decimal) c.put_bytes-c.ensures) signed) c.put_bytes.ensures;
      port_len_bound = set_short c.in-Ok.brr error (search rules) fits.sfits;
    })
