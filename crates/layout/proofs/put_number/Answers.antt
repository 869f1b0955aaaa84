use mathlib.Core.Path.{refl, ◌∙◌}
use Rattle.layout.specs.Layout.{unpack, bytes}
use Rattle.layout.proofs.Filling.{part_put}
use Rattle.layout.proofs.put_number.Goals as goal

pub returns : goal.returns
returns c = part_put c.args.out.now _ (unpack (bytes 4) c.args.x) c.args.at 4 c.requires refl (c.copy_from_slice.ensures.after ∙ c.four_bytes.ensures)
