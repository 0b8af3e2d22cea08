use mathlib.Core.Path.{◌∙◌}
use Rattle.bits.specs.Bits.{bit}
use Rattle.w83l784r_map.specs.Map.{kept_by_reset, content_at, kept_at}
use Rattle.w83l784r_map.proofs.Cells.{kept_set}
use Rattle.w83l784r_map.proofs.is_kept_by_reset.Goals as goal

pub returns : goal.returns
unfolding kept_at content_at kept_by_reset bit
returns c = c.contains.ensures ∙ kept_set _ _ tt c.args.cell
