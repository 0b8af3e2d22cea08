use mathlib.Core.Path.{◌∙◌}
use Rattle.bits.specs.Bits.{bit}
use Rattle.w83l784r_map.specs.Map.{content_at, identity_at}
use Rattle.w83l784r_map.proofs.Cells.{identity_set}
use Rattle.w83l784r_map.proofs.is_identity.Goals as goal

pub returns : goal.returns
unfolding identity_at content_at bit
returns c = c.contains.ensures ∙ identity_set _ _ tt c.args.cell
