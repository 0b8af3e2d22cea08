use Rattle.w83l784r_map.proofs.Cells.{stored_refused, stored_shown}
use Rattle.w83l784r_map.proofs.stored_bits.Goals as goal

pub returns-in-Ok : goal.returns-in-Ok
returns-in-Ok c = stored_shown _ _ c.in-Ok.ensures c.shown_bits.ensures

pub returns-in-Err : goal.returns-in-Err
returns-in-Err c = stored_refused _ _ c.in-Err.ensures
