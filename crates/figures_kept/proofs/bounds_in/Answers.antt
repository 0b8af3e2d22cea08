use Rattle.std.proofs.Common.{arith, length-set, rules}
use Rattle.figures_kept.proofs.Kept.{bounds_first, bounds_more}
use Rattle.figures_kept.proofs.bounds_in.Goals as goal

pub returns-then-samples-gt0 : goal.returns-then-samples-gt0
returns-then-samples-gt0 c = search (rules, bounds_more)

pub bounds-figures-at-2 : goal.bounds-figures-at-2
bounds-figures-at-2 c = simp length-set (omega arith)

pub returns : goal.returns
returns c = search (rules, bounds_first)
