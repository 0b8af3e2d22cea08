-- The invariant: counters before the next are done, those from it on are still to come, and rest is what is left.
-- Assumes nothing.
use Rattle.std.proofs.Common.{◌≡◌, ◌/◌, ◌^◌, ◌++◌, take, drop}
use Rattle.figures.specs.BitCounts.{bit_counts_from, bit_counts_after}
use Rattle.figures_kept.proofs.count_bits.Given as goal

abbrev pub invariant-loop-count : goal.invariant-loop-count
invariant-loop-count l =
    (l.rest ≡ l.byte / 2 ^ l.count-index)
    × (bit_counts_after l.initial.counts l.byte
    ≡ take l.count-index l.counts ++ bit_counts_from l.byte l.count-index (drop l.count-index l.counts))
