-- The test of the codes is the layout's own. Assumes nothing.
use mathlib.Core.Path.{◌≡◌, sym, ◌∙◌}
use Rattle.layout.specs.Layout.{fitting}
use Rattle.layout.proofs.Reading.{bit_fits}
use Rattle.answer.specs.Tests.{every_chain}
use Rattle.image.specs.declared.Fields.{Fields}
use Rattle.image.specs.Image.{widths, list_of, in_widths, in_width}

pub in_width_lem : (f : Fields) → in_width f ≡ fitting widths (list_of f)
unfolding in_widths list_of
in_width_lem f = every_chain (in_widths f) ∙ sym (simp bit_fits)
