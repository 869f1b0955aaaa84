use mathlib.Core.Path.{sym, ◌∙◌}
use borrow.Author.Tests.{ltb-false}
use Rattle.text.specs.Text.{line_of}
use Rattle.text.specs.Pieces.{placed, one_piece, then}
use Rattle.text.proofs.Numbers.{number_part, line_length}
use Rattle.text.proofs.put_line.Goals as goal

pub returns : goal.returns
unfolding line_of
returns c =
    let args = c.args in
    let spelt = c.spell-first in
    let is_at = c.in_ok-at.was in
    let fits = rw (line_length args.name.now spelt.result args.n spelt.ensures.n_value) at (sym c.no_room.ensures ∙ c.if-no_room.false) in
    let number = rw (number_part spelt.new.ten spelt.result args.n spelt.ensures.ten_after spelt.ensures.n_value) at c.put_bytes-newline.ensures in
    let text = then (then (then (one_piece c.put_bytes-space.ensures) c.put_bytes-number.ensures) number) c.put_bytes.ensures in
    placed is_at (line_of args.name.now args.n) args.out.now fits (text.stands _ is_at (ltb-false _ _ fits))
