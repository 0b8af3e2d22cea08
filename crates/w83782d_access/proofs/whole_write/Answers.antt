use borrow.Author.Rules.{rules}
use native.Mathlib.Omega.{arith}
use lib.ListN.{length-take}
use Rattle.w83782d_image.proofs.latches.Flags.{held}
use Rattle.w83782d_access.proofs.Plain.{whole_written_law}
use Rattle.w83782d_access.proofs.whole_write.Goals as goal

pub slice_bounds-write_registers-end-2 : goal.slice_bounds-write_registers-end-2
slice_bounds-write_registers-end-2 c = simp length-take (omega arith)

pub returns : goal.returns
returns c =
    whole_written_law _ _ _ _ _ _ _ (search rules) c.write_registers.ensures (search rules)
    (held _ _ (search rules) c.latches_in-l.ensures) c.write_latches.ensures c.put_latches.ensures
