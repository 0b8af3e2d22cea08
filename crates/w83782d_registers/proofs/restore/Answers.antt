use borrow.Author.Rules.{rules}
use mathlib.Core.Path.{◌≡◌, sym, ap, ◌∙◌}
use native.Mathlib.Omega.{arith}
use native.Mathlib.Numerals.{add-one}
use lib.ListN.{length-set}
use Rattle.bits.proofs.Tables.{over, over_none, over_all}
use Rattle.w83782d_map.specs.Map.{cells}
use Rattle.w83782d_registers.proofs.Cases.{restore_next, restored_count, restored_short, restored_in_law}
use Rattle.w83782d_registers.proofs.restore.Goals as goal

pub returns-then-s-ne-CELLS : goal.returns-then-s-ne-CELLS
returns-then-s-ne-CELLS c = search (rules, restored_short)

pub loop-cell-init : goal.loop-cell-init
loop-cell-init c = (search rules, search rules, sym (over_none _ _))

pub loop-cell-preserved : goal.loop-cell-preserved
loop-cell-preserved c =
    let l = c.loop-cell in (
      omega arith,
      simp length-set l.invariant.1,
      rw add-one (restore_next _ _ _ l.cell _ (search rules) (omega arith) l.invariant.2 c.restored.ensures),
    )

pub returns : goal.returns
returns c =
    let l = c.loop-cell in
    let e : l.cell ≡ cells = omega arith in
    l.invariant.2 ∙ ap (over _ _) e ∙ over_all _ _ cells (restored_count _ _) (search rules)
    ∙ restored_in_law _ _ (search rules)
