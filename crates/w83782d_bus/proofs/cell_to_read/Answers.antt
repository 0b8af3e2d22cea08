use borrow.Author.Rules.{rules}
use Rattle.w83782d_bus.proofs.Cases.{unread}
use Rattle.w83782d_bus.proofs.cell_to_read.Goals as goal

pub returns-in_err-cell : goal.returns-in_err-cell
returns-in_err-cell c = search (rules, unread)
