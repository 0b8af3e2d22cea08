-- The loop's invariant: the lines of the counts so far are put, and go no farther than so many such lines can.
use Prim.Native.Nat.{◌+◌, ◌*◌, ◌≤◌}
use lib.ListN.{length, take}
use Rattle.text.specs.Pages.{Puts}
use Rattle.report_text.specs.Lines.{count_lines}
use Rattle.report_text.proofs.put_counts.Given as goal

abbrev pub invariant-loop-bit : goal.invariant-loop-bit
invariant-loop-bit l =
    Puts l.initial.page (count_lines l.register (take l.bit l.counts)) l.page
    × (l.page.at ≤ l.initial.page.at + l.bit * (length l.register + 43))
