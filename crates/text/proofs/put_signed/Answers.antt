use mathlib.Core.Path.{sym, ◌∙◌}
use mathlib.Core.List.{◌∷◌}
use borrow.Author.Rules.{rules}
use borrow.Author.Tests.{ltb-false}
use Rattle.text.specs.Decimal.{decimal}
use Rattle.text.specs.Pieces.{placed, one_piece, then}
use Rattle.text.proofs.Numbers.{number_part, minus_length}
use Rattle.text.proofs.Signed.{minus_text}
use Rattle.text.proofs.put_signed.Goals as goal

pub returns : goal.returns
returns c =
    let args = c.args in
    let n = c.unsigned_abs-n.result in
    let spelt = c.spell-first in
    let is_at = c.in_ok-at.was in
    let fits = rw (minus_length spelt.result n spelt.ensures.n_value) at (sym c.no_room.ensures ∙ c.if-no_room.false) in
    let number = rw (number_part spelt.new.ten spelt.result n spelt.ensures.ten_after spelt.ensures.n_value) at c.put_bytes.ensures in
    rw (minus_text args.z (search rules) c.unsigned_abs-n.ensures.value c.if-z-ge0.false)
    (placed is_at (45 ∷ decimal n) args.out.now fits
    ((then (one_piece c.put_bytes-digits.ensures) number).stands _ is_at (ltb-false _ _ fits)))
