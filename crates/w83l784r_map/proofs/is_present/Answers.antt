use mathlib.Core.Path.{◌∙◌}
use Rattle.bits.specs.Bits.{bit}
use Rattle.w83l784r_map.specs.Map.{rows, content_at, present_at}
use Rattle.w83l784r_map.proofs.Cells.{present_set}
use Rattle.w83l784r_map.proofs.is_present.Goals as goal

pub returns : goal.returns
unfolding present_at content_at rows bit
returns c = c.contains.ensures ∙ present_set _ _ tt c.args.cell
