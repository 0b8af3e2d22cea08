use Rattle.std.proofs.Common.{arith, length-take, rules}
use Rattle.figures.proofs.FigureLaws.{running_figures}
use Rattle.figures.proofs.RowLaws.{row_figures}
use Rattle.figures_kept.proofs.Places.{row_cut}
use Rattle.figures_kept.proofs.figures_in.Goals as goal

pub slice_bounds-row_in-end : goal.slice_bounds-row_in-end
slice_bounds-row_in-end c = simp length-take (omega arith)

pub row_in-requires : goal.row_in-requires
row_in-requires c = simp length-take (omega arith)

pub returns-then-kept-values : goal.returns-then-kept-values
returns-then-kept-values c = record { row = search (rules, row_cut); claims = (running_figures, row_figures) }

pub returns : goal.returns
returns c = search (rules, running_figures, row_figures)
