-- The three ways through the code are the cases of the computed plan; that this is the
-- plan is proved in proofs/Planning. Assumes nothing.
use Rattle.std.proofs.Common.{rules, tests}
use native.Mathlib.Omega.{arith}
use Rattle.fan.specs.Search.{plan_of}
use Rattle.fan.proofs.planner.Planning.{counts_of, promised}
use Rattle.fan.proofs.planner.plan.Goals as goal

pub returns-then-w-eq0 : goal.returns-then-w-eq0
unfolding plan_of
returns-then-w-eq0 c = promised _ (search (rules, tests))

pub returns-then-w-gt-PER_MINUTE : goal.returns-then-w-gt-PER_MINUTE
unfolding plan_of
returns-then-w-gt-PER_MINUTE c = promised _ (search (rules, tests))

pub overflow_sub-result : goal.overflow_sub-result
overflow_sub-result c =
    omega (
      arith,
      counts_of c.args.w c.best_choice-best.result c.if-w-eq0.false c.if-w-gt-PER_MINUTE.false
          c.best_choice-best.ensures,
    )

pub returns : goal.returns
unfolding plan_of
returns c = promised _ (search (rules, tests))
