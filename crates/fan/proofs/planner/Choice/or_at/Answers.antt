-- The test compares the two products, as the definition does.
-- Assumes nothing.
use Rattle.std.proofs.Common.{rules, tests}
use Rattle.fan.specs.Search.{better}
use Rattle.fan.proofs.planner.Choice.or_at.Goals as goal

pub returns-then-product : goal.returns-then-product
unfolding better
returns-then-product c = search (rules, tests)

pub returns : goal.returns
unfolding better
returns c = search (rules, tests)
