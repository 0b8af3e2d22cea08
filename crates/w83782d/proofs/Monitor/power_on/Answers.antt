use borrow.Author.Rules.{rules}
use Rattle.w83782d.proofs.Wrappers.{power_on_wrapped}
use Rattle.w83782d.proofs.Monitor.power_on.Goals as goal

pub returns : goal.returns
returns c = search (rules, power_on_wrapped)
