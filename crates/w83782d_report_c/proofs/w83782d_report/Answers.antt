-- A report fed with the whole log shows the report of the log (`Reports`).
-- Assumes nothing.
use Prim.Native.Nat.{ℕ}
use mathlib.Core.Path.{◌≡◌}
use mathlib.Core.List.{List, []}
use Rattle.text.specs.Text.{Put}
use Rattle.parts.specs.Feed.{Fed, fed}
use Rattle.w83782d_bus.specs.Bus.{power_on}
use Rattle.w83782d_day.specs.Day.{Day, new_day, feed, DayCuts}
use Rattle.w83782d_day.specs.Report.{summary_of, report_of, Reports}
use Rattle.w83782d_report_text.specs.ReportText.{report_text}
use borrow.Author.Rules.{rules}
use Rattle.w83782d_report_c.proofs.w83782d_report.Goals as goal

of_log : (o p log : List ℕ) (n : ℕ) (v w : Fed Day) → v ≡ fed [] (new_day power_on) → w ≡ feed v log
    → DayCuts × Reports → Put o 0 (report_text (summary_of w)) p n → Put o 0 (report_text (report_of power_on log)) p n
of_log o p log n v w start fed-on claims put = rw (fed-on, start, claims.1.report power_on log) at put

pub returns : goal.returns
returns c = record { text = search (rules, of_log); short = search rules }
