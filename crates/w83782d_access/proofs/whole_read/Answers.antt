use borrow.Author.Rules.{rules}
use native.Mathlib.Omega.{arith}
use lib.ListN.{length-take}
use Rattle.w83782d_image.proofs.latches.Flags.{held}
use Rattle.w83782d_access.proofs.Accesses.{read_refused, read_accepted}
use Rattle.w83782d_access.proofs.whole_read.Goals as goal

pub slice_bounds-read_in-end-2 : goal.slice_bounds-read_in-end-2
slice_bounds-read_in-end-2 c = simp length-take (omega arith)

pub returns-in-Ok : goal.returns-in-Ok
returns-in-Ok c =
    read_accepted _ _ _ (search rules) (held _ _ (search rules) c.latches_in-l.ensures) _ _ c.read_in-done.ensures _ _
    c.in-Ok.is (search rules) c.put_latches.ensures

pub returns-in-Err : goal.returns-in-Err
returns-in-Err c =
    read_refused _ _ _ (search rules) (held _ _ (search rules) c.latches_in-l.ensures) _ _ c.read_in-done.ensures _
    c.in-Err.is
