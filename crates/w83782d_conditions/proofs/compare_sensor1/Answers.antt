use Rattle.std.proofs.Common.{arith}
use Rattle.std.proofs.lemmas.Grind.{common_steps}
use Rattle.w83782d_conditions.specs.Conditions.{comparison_of, status_mode, is_above, is_below}
use Rattle.w83782d_conditions.proofs.compare_sensor1.Goals as goal

pub returns : goal.returns
unfolding comparison_of status_mode is_above is_below
returns c = grind (arith, common_steps)
