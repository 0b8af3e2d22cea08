use Rattle.std.proofs.Common.{refl, ◌∙◌, arith, rules}
use lib.Seq.{set-get_or}
use Rattle.figures.proofs.CountLaws.{bit_counts}
use Rattle.figures_kept.proofs.Counts.{counts_next, rest_next, counts_stop, counts_done}
use Rattle.figures_kept.proofs.count_bits.Goals as goal

pub loop-count-init : goal.loop-count-init
loop-count-init c = (omega arith, refl)

pub returns-then-rest-eq0 : goal.returns-then-rest-eq0
returns-then-rest-eq0 c = (set-get_or _ _ 0 ∙ search (rules, counts_stop), bit_counts)

pub loop-count-preserved : goal.loop-count-preserved
loop-count-preserved c = (search (rules, rest_next), search (rules, counts_next))

pub returns : goal.returns
returns c =
    let held = c.loop-count.invariant in (counts_done _ _ _ _ _ held.0 held.1 (omega arith), bit_counts)
