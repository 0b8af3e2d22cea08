use Rattle.std.proofs.Common.{refl, arith, rules}
use Rattle.figures_kept.proofs.Places.{figures_next, figures_done}
use Rattle.figures_kept.proofs.row_in.Goals as goal

pub loop-i-init : goal.loop-i-init
loop-i-init c = (search rules, refl, refl)

pub loop-i-preserved : goal.loop-i-preserved
loop-i-preserved c =
    let done = c.value_in.ensures in
    let held = c.loop-i.invariant.2 in (
      search rules,
      search rules,
      figures_next _ _ _ _ _ held _ _ (omega arith) (search rules) (search rules) done (omega arith),
    )

pub returns : goal.returns
returns c = search (rules, figures_done)
