-- The loop's invariant: the lines of the first readings are put, of 87 characters at most each.
use Prim.Native.Nat.{◌+◌, ◌*◌, ◌≤◌}
use Rattle.text.specs.Pages.{Puts}
use Rattle.w83782d_report_text.specs.ReportText.{reading_lines}
use Rattle.w83782d_report_text.proofs.put_registers.Given as goal

abbrev pub invariant-loop-i : goal.invariant-loop-i
invariant-loop-i l =
    Puts l.initial.page (reading_lines l.i l.samples l.figures) l.page × (l.page.at ≤ l.initial.page.at + l.i * 87)
