use mathlib.Core.Path.{◌≡◌, sym, ◌∙◌}
use mathlib.Core.Bool.{false}
use Rattle.answer.specs.declared.Refusal.TheVariants.{CodeNotAllowed}
use Rattle.layout.proofs.Writing as writing
use Rattle.image.specs.Image.{in_width, image_bytes}
use Rattle.image.specs.Width.{wide}
use Rattle.image.proofs.Words.{written}
use Rattle.image.proofs.write_image.Goals as goal

pub returns-then-out-lt8 : goal.returns-then-out-lt8
returns-then-out-lt8 c = let args = c.args in writing.short 8 (image_bytes args.f) args.out.now c.if-out-lt8.true

pub returns-then-not-in_width : goal.returns-then-not-in_width
unfolding image_bytes
returns-then-not-in_width c =
    let args = c.args in
    let wide : in_width args.f ≡ false = sym c.in_width.ensures ∙ c.if-not-in_width.true in
    writing.refused 8 (image_bytes args.f) args.out.now CodeNotAllowed c.if-out-lt8.false (rw wide)

-- past both tests there is room, and each code is in width
pub early-requires : goal.early-requires
early-requires c = wide _ (sym c.in_width.ensures ∙ c.if-not-in_width.false)

pub late-requires : goal.late-requires
late-requires c = wide _ (sym c.in_width.ensures ∙ c.if-not-in_width.false)

pub returns : goal.returns
returns c =
    let args = c.args in
    written args.f args.out.now _ _ _ c.if-out-lt8.false (sym c.in_width.ensures ∙ c.if-not-in_width.false)
    c.early.ensures c.late.ensures c.put_numbers.ensures
