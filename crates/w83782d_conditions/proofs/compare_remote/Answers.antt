use Rattle.std.proofs.Common.{arith}
use Rattle.w83782d_conditions.proofs.Rules.{not_one}
use Rattle.w83782d_conditions.specs.Conditions.{remote_comparison_of, comparison_of, status_mode, output_mode}
use Rattle.w83782d_conditions.specs.Conditions.{is_above, is_below}
use Rattle.w83782d_conditions.proofs.compare_remote.Goals as goal

pub returns : goal.returns
unfolding remote_comparison_of comparison_of status_mode output_mode is_above is_below
returns c = grind (arith, not_one)
