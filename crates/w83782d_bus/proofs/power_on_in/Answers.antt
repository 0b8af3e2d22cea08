use borrow.Author.Rules.{rules}
use Rattle.w83782d_bus.proofs.Cases.{power_on_law}
use Rattle.w83782d_bus.proofs.power_on_in.Goals as goal

pub returns : goal.returns
returns c = search (rules, power_on_law)
