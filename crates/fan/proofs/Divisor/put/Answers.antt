-- The parts' promises, put together.
-- Assumes nothing.
use borrow.Author.Rules.{rules}
use Rattle.fan.proofs.DivisorFields.{put_at, fields}
use Rattle.fan.proofs.Divisor.put.Goals as goal

pub returns : goal.returns
returns c = record { equation = search (rules, put_at); laws = fields }
