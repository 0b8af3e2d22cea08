use borrow.Author.Rules.{rules}
use Rattle.w83782d_bus.proofs.Cases.{write_accepted, write_refused}
use Rattle.w83782d_bus.proofs.write_in.Goals as goal

pub returns-in-Ok : goal.returns-in-Ok
returns-in-Ok c = search (rules, write_accepted)

pub returns-in-Err : goal.returns-in-Err
returns-in-Err c = search (rules, write_refused)
