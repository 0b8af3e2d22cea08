-- Step 0 stays; else the bits are compared, which differ exactly where the signed bytes do.
-- Assumes nothing.
use borrow.Author.Rules.{rules}
use Rattle.thermal.proofs.Moves.{stays, moves, moved_exactly}
use Rattle.thermal.proofs.has_moved.Goals as goal

pub returns-then-step-ne0 : goal.returns-then-step-ne0
returns-then-step-ne0 c = record { equation = search (rules, moves); claims = moved_exactly }

pub returns-else-step-ne0 : goal.returns-else-step-ne0
returns-else-step-ne0 c = record { equation = search (rules, stays); claims = moved_exactly }
