use Rattle.std.proofs.Common.{rules}
use Rattle.w83782d_sample.proofs.Rules.{evaluation}
use Rattle.w83782d_sample.proofs.evaluate.Goals as goal

pub returns : goal.returns
returns c =
    evaluation _ _ _ _ _ _ _ _ _ _ _ _ _ (search rules) c.compare-found.ensures c.status_step-one.ensures
    c.remote_step-two.ensures c.remote_step-three.ensures c.sensors.ensures c.sensors-2.ensures
    c.crossed.ensures.equation c.crossed-2.ensures.equation c.sensors-3.ensures c.sensors-4.ensures
