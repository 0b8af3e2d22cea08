use borrow.Author.Rules.{rules}
use Rattle.w83782d_bus.proofs.Cases.{unwritten}
use Rattle.w83782d_bus.proofs.cell_to_write.Goals as goal

pub returns-in_err-cell-clause-answer : goal.returns-in_err-cell-clause-answer
returns-in_err-cell-clause-answer c = search (rules, unwritten)
