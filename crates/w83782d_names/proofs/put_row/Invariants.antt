-- What is left of the row has the same characters before its spaces. The measure is how long it is.
use mathlib.Core.Path.{◌≡◌}
use lib.ListN.{length}
use Rattle.w83782d_names.specs.Rows.{row_of, trimmed}
use Rattle.w83782d_names.proofs.put_row.Given as goal

abbrev pub invariant-loop-rest : goal.invariant-loop-rest
invariant-loop-rest l = trimmed l.name ≡ trimmed (row_of l.table l.width l.row)

abbrev pub decreases-loop-rest : goal.decreases-loop-rest
decreases-loop-rest l = length l.name
