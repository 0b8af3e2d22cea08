use borrow.Author.Rules.{rules}
use Rattle.thermal.proofs.Offsets.{held_sum_holds, sum_held}
use Rattle.thermal.proofs.held_sum.Goals as goal

pub returns : goal.returns
returns c = record { equation = search (rules, sum_held); claims = held_sum_holds }
