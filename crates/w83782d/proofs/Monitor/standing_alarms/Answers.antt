use Rattle.w83782d_readings.proofs.outputs.Cases.{alarms_counted_all}
use Rattle.w83782d.proofs.Monitor.standing_alarms.Goals as goal

pub returns-in-Ok-clause-claims : goal.returns-in-Ok-clause-claims
returns-in-Ok-clause-claims c = alarms_counted_all

pub returns-in-Err-clause-claims : goal.returns-in-Err-clause-claims
returns-in-Err-clause-claims c = alarms_counted_all
