use Prim.Native.Nat.{◌≤◌}
use lib.ListN.{length, length-map}
use lib.Seq.{take_all}
use Rattle.text.proofs.Puts.{◌then◌}
use Rattle.w83782d_sample_words.proofs.Joined.{counted, put_nothing, no_number, put_count_more}
use borrow.Author.Rules.{rules}
use Rattle.w83782d_sample_words.proofs.put_counts.Goals as goal

pub loop-count-init : goal.loop-count-init
loop-count-init c = rw no_number (put_nothing _ _ _ c.put_bytes.ensures)

pub loop-count-preserved : goal.loop-count-preserved
loop-count-preserved c =
    put_count_more _ _ _ _ _ _ (search rules) c.loop-count.invariant (rw c.from.ensures at c.put_spaced.ensures)

pub returns : goal.returns
returns c =
    let all : length (counted c.args.counts.now) ≤ c.loop-count.count-index = rw length-map (search rules) in
    c.put_bytes.ensures then (rw (take_all _ _ all) at c.loop-count.invariant)
