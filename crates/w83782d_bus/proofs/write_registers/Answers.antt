use borrow.Author.Rules.{rules}
use Rattle.w83782d_bus.proofs.Cases.{write_reset, write_store}
use Rattle.w83782d_bus.proofs.write_registers.Goals as goal

pub returns-then-is_command : goal.returns-then-is_command
returns-then-is_command c = search (rules, write_reset)

pub returns-else-is_command : goal.returns-else-is_command
returns-else-is_command c = search (rules, write_store)
