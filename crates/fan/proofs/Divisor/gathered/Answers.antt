-- The parts' promises, put together.
-- Assumes nothing.
use borrow.Author.Rules.{rules}
use Rattle.fan.proofs.DivisorFields.{gathered_at}
use Rattle.fan.proofs.Divisor.gathered.Goals as goal

pub returns : goal.returns
returns c = search (rules, gathered_at)
