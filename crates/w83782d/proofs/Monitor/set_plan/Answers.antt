use borrow.Author.Rules.{rules}
use Rattle.w83782d.specs.Monitor.{state_of}
use Rattle.w83782d_plan.proofs.settings.Proved.{plan_claims}
use Rattle.w83782d_claims.proofs.alarm.Alarm.{alarm_rings, sets_alarm}
use Rattle.w83782d.proofs.Calls.{monitor_calls}
use Rattle.w83782d.proofs.Wrappers.{wrote}
use Rattle.w83782d.proofs.Monitor.set_plan.Goals as goal

pub returns : goal.returns
returns c =
    let a = c.args in
    let m = a.self in
    let claims = plan_claims (state_of m) a.fan a.rpm (search rules) in
    let own = sets_alarm (state_of m) a.fan a.rpm (search rules) in
    record {
      equation = search (rules, wrote);
      claims = claims;
      own = own;
      alarm = alarm_rings;
      calls = monitor_calls;
    }
