-- Each way through is a case of the definition.
-- Assumes nothing.
use Rattle.std.proofs.Common.{rules, tests}
use Rattle.w83782d_plan.specs.Plan.{set_plan_of}
use Rattle.w83782d_plan.proofs.put_alarm.Goals.{then-fan-lt1-via-then-fan-lt1, then-fan-lt1-via-else-fan-lt1+then-fan-gt3}
use Rattle.w83782d_plan.proofs.put_alarm.Goals as goal

pub returns-then-fan-lt1 : goal.returns-then-fan-lt1
unfolding set_plan_of
returns-then-fan-lt1 c =
    elim c.then-fan-lt1.branch [
      | then-fan-lt1-via-then-fan-lt1 w ↦ search (rules, tests)
      | then-fan-lt1-via-else-fan-lt1+then-fan-gt3 w ↦ search (rules, tests)
    ]

pub returns : goal.returns
unfolding set_plan_of
returns c = search (rules, tests)
