-- The two counts that are no number, and the quotient. A count times a divisor fits.
-- Assumes nothing.
use Rattle.std.proofs.Common.{rules, tests}
use Rattle.fan.specs.Speed.{count_speed}
use Rattle.fan.proofs.Speeds.{speed_claims}
use Rattle.fan.proofs.Divided.speed.Goals as goal

pub returns-in-0 : goal.returns-in-0
unfolding count_speed
returns-in-0 c = record { equation = search (rules, tests); claims = speed_claims }

pub returns-in-255 : goal.returns-in-255
unfolding count_speed
returns-in-255 c = record { equation = search (rules, tests); claims = speed_claims }

pub returns-in_default : goal.returns-in_default
unfolding count_speed
returns-in_default c = record { equation = search (rules, tests); claims = speed_claims }
