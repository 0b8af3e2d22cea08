use Rattle.std.proofs.Common.{rules}
use Rattle.w83782d_store.proofs.Rules.{readings_stored}
use Rattle.w83782d_store.proofs.store.Goals as goal

pub returns : goal.returns
returns c =
    readings_stored c.args.s.now c.in-Some.cells.now _ _ _ _ c.args.x _ _ (search rules) (search rules)
    c.store_counts.ensures c.store_codes.ensures c.store_halves.ensures c.store_halves-2.ensures (search rules)
    (search rules)
