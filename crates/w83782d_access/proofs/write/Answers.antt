use borrow.Author.Rules.{rules}
use native.Mathlib.Omega.{arith}
use borrow.Author.Tests.{eq-eqb}
use lib.ListN.{length-take}
use mathlib.Core.Bool.{true≢false}
use mathlib.Core.Path.{sym, ◌∙◌}
use Rattle.w83782d_registers.proofs.Cases.{cell_is}
use Rattle.w83782d_access.proofs.Accesses.{write_short}
use Rattle.w83782d_access.proofs.Plain.{write_none, write_refused, write_whole, write_stored}
use Rattle.w83782d_access.proofs.write.Goals.{then-bits-eq0, else-bits-eq0}
use Rattle.w83782d_access.proofs.write.Goals as goal

pub returns-then-image-ne-IMAGE : goal.returns-then-image-ne-IMAGE
returns-then-image-ne-IMAGE c = write_short _ _ c.if-image-ne-IMAGE.true _

pub slice_bounds-reach-end-2 : goal.slice_bounds-reach-end-2
slice_bounds-reach-end-2 c = simp length-take (omega arith)

pub returns-in_default : goal.returns-in_default
returns-in_default c = write_none _ (search rules) _ c.in_default.ensures _

pub returns-in_err-answer_to_write : goal.returns-in_err-answer_to_write
returns-in_err-answer_to_write c = search (rules, write_refused, cell_is)

pub returns-in_ok-answer_to_write : goal.returns-in_ok-answer_to_write
returns-in_ok-answer_to_write c = search (rules, write_whole, cell_is)

pub slice_bounds-store-end-else-is_command : goal.slice_bounds-store-end-else-is_command
slice_bounds-store-end-else-is_command c = simp length-take (omega arith)

pub returns-else-is_command : goal.returns-else-is_command
returns-else-is_command c =
    let cell = cell_is _ _ c.in-Some.ensures in
    elim c.if-bits-eq0.branch [
      | then-bits-eq0 w ↦ absurd (true≢false (sym (eq-eqb _ 0 w.if-bits-eq0.true) ∙ sym w.value-is ∙ c.if-is_command.false))
      | else-bits-eq0 w ↦
          write_stored _ (search rules) _ _ cell _ _ _ _ _ c.stored_bits-bits.ensures w.if-bits-eq0.false
          (w.value-is ∙ w.is_command.ensures) c.if-is_command.false c.store.ensures c.normalise_flags.ensures
    ]
