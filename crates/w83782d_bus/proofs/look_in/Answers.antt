use borrow.Author.Rules.{rules}
use Rattle.w83782d_bus.proofs.Cases.{look_accepted, look_refused}
use Rattle.w83782d_bus.proofs.look_in.Goals as goal

pub returns-in_err-cell : goal.returns-in_err-cell
returns-in_err-cell c = search (rules, look_refused)

pub returns : goal.returns
returns c = search (rules, look_accepted)
