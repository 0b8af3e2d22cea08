use Rattle.figures_kept.proofs.Kept.{kept_figure}
use Rattle.std.proofs.Common.{rules}
use Rattle.figures_kept.proofs.value_in.Goals as goal

pub returns : goal.returns
returns c = search (rules, kept_figure)
