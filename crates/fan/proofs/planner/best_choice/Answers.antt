-- The fold over the seven larger divisors, in rising order, is the best choice up to the eighth.
-- Assumes nothing.
use mathlib.Core.Path.{refl, ◌∙◌}
use Rattle.std.proofs.Common.{rules}
use Rattle.std.proofs.lemmas.Iterator.{YieldsList-from_range}
use Rattle.std.proofs.lemmas.Iterator.Consumers.{fold_from_yields_List}
use Rattle.fan.specs.Search.{better}
use Rattle.fan.specs.Count.{from_bits}
use Rattle.fan.proofs.planner.Best.{over_eight}
use Rattle.fan.proofs.planner.best_choice.Goals as goal

pub returns : goal.returns
returns c =
    fold_from_yields_List {v = λ e. e} _ (λ b e. better c.args.k b (from_bits e)) _ _ c.fold.ensures.ran
    (YieldsList-from_range 1 8 7 refl refl)
    (λ a x b q k. search rules)
    ∙ over_eight c.args.k _ c.at-first.ensures
