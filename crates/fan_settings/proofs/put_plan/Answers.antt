-- The limit's cell, then the divisor's field: the changes of the definition, in its order.
-- Assumes nothing.
use Rattle.std.proofs.Common.{rules}
use Rattle.bits.specs.Bits.{changes}
use Rattle.fan.specs.Divisors.{with_divisor}
use Rattle.fan_settings.proofs.put_plan.Goals as goal

pub returns-clause-registers : goal.returns-clause-registers
unfolding with_divisor changes
returns-clause-registers c = search rules
