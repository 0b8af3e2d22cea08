-- Each branch is a case of the definition, by the mode; one-time latches where the mark is not hot and it is above.
-- Assumes nothing.
use borrow.Author.Rules.{rules}
use Rattle.thermal.proofs.Steps.{one_time_status, plain_status, one_time_case}
use Rattle.thermal.proofs.status_by.Goals as goal
use Rattle.thermal.proofs.status_by.Goals.{then-not-is_hot, else-not-is_hot}

pub returns-in-Plain : goal.returns-in-Plain
returns-in-Plain c = record { equation = search (rules, plain_status); claims = one_time_status }

pub returns-after-not-is_hot : goal.returns-after-not-is_hot
returns-after-not-is_hot c =
    record {
      equation =
          one_time_case c.args.mode c.args.mark c.args.above c.args.below c.status_step-in-OneTime.result
          c.if-not-is_hot.result c.in-OneTime.is c.status_step-in-OneTime.ensures
          (elim c.if-not-is_hot.branch [
            | then-not-is_hot w ↦ rw (← c.is_hot.ensures, w.if-not-is_hot.true) w.result-is
            | else-not-is_hot w ↦ rw (← c.is_hot.ensures, w.if-not-is_hot.false) (rw w.if-not-is_hot.false at w.result-is)
          ]);
      claims = one_time_status;
    }
