use native.Mathlib.Omega.{arith}
use Rattle.w83782d_report_text.proofs.Lines.{no_line, one_line, eleven_lines}
use borrow.Author.Rules.{rules}
use Rattle.w83782d_report_text.proofs.put_registers.Goals as goal

pub loop-i-init : goal.loop-i-init
loop-i-init c = (no_line _ _ _ (omega arith) (omega arith), omega arith)

pub loop-i-preserved : goal.loop-i-preserved
loop-i-preserved c =
    let line = rw c.figure_from.ensures at c.put_figure.ensures.line in
    (one_line _ _ _ _ _ _ _ (search rules) c.loop-i.invariant.0 c.index_name-name.ensures line, search rules)

pub returns : goal.returns
returns c = record { lines = search (rules, eleven_lines); short = search rules }
