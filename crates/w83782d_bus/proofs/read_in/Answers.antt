use borrow.Author.Rules.{rules}
use Rattle.w83782d_bus.specs.Bus.{read_of}
use Rattle.w83782d_bus.proofs.Cases.{read_accepted, read_refused}
use Rattle.w83782d_bus.proofs.read_in.Goals as goal

pub returns-in-Ok : goal.returns-in-Ok
unfolding read_of
returns-in-Ok c = search (rules, read_accepted)

pub returns-in-Err : goal.returns-in-Err
returns-in-Err c = search (rules, read_refused)
