use borrow.Author.Rules.{rules}
use native.Mathlib.Omega.{arith}
use lib.ListN.{length-take}
use Rattle.w83782d_registers.proofs.Cases.{cell_is}
use Rattle.w83782d_access.proofs.Accesses.{read_short}
use Rattle.w83782d_access.proofs.Plain.{read_none, read_absent, read_shown}
use Rattle.w83782d_access.proofs.read.Goals as goal

pub returns-then-image-ne-IMAGE : goal.returns-then-image-ne-IMAGE
returns-then-image-ne-IMAGE c = read_short _ _ c.if-image-ne-IMAGE.true

pub slice_bounds-reach-end-2 : goal.slice_bounds-reach-end-2
slice_bounds-reach-end-2 c = simp length-take (omega arith)

pub returns-in_default : goal.returns-in_default
returns-in_default c = read_none _ (search rules) _ c.in_default.ensures

pub returns-then-not-is_present : goal.returns-then-not-is_present
returns-then-not-is_present c = read_absent _ (search rules) _ _ (cell_is _ _ c.in-Some.ensures) _ c.is_present.ensures c.if-not-is_present.true

pub slice_bounds-shown-end-in_default-cell : goal.slice_bounds-shown-end-in_default-cell
slice_bounds-shown-end-in_default-cell c = simp length-take (omega arith)

pub slice_bounds-read_registers-end-in_default-cell : goal.slice_bounds-read_registers-end-in_default-cell
slice_bounds-read_registers-end-in_default-cell c = simp length-take (omega arith)

pub returns-in_default-cell : goal.returns-in_default-cell
returns-in_default-cell c =
    read_shown _ (search rules) _ _ (cell_is _ _ c.in-Some.ensures) _ c.is_present.ensures _ _ _ _
    c.if-not-is_present.false (search rules) c.normalise_flags.ensures c.chassis_in-chassis.ensures
    c.shown-byte.ensures c.read_registers.ensures
