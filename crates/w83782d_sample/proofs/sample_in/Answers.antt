use Rattle.std.proofs.Common.{rules}
use Rattle.w83782d_sample.proofs.Rules.{sample_refused, sample_accepted}
use Rattle.w83782d_sample.proofs.sample_in.Goals as goal

pub returns-in-Err : goal.returns-in-Err
returns-in-Err c =
    let r =
    sample_refused c.args.s.now c.in-Some.cells.now c.args.l c.args.x (search rules) (search rules) _ _ c.in-Err.ensures
    c.refused-in-Err.ensures in
    record { outcome = r.0; latched = r.1 }

pub returns : goal.returns
returns c =
    let r =
    sample_accepted c.args.s.now c.in-Some.cells.now c.args.l c.args.x (search rules) (search rules) _ _ _
    c.in_default-answer_to.ensures c.store.ensures c.evaluate-after.ensures c.set_status.ensures in
    record { outcome = r.0; latched = r.1 }
