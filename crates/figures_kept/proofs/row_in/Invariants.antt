-- The invariant: the figures of the readings before i are done, those from i on are still to come.
-- Assumes nothing.
use Rattle.figures_kept.proofs.Places.{AtValue}
use Rattle.figures_kept.proofs.row_in.Given as goal

abbrev pub invariant-loop-i : goal.invariant-loop-i
invariant-loop-i l = AtValue l.initial.figures l.samples l.values l.figures l.i
