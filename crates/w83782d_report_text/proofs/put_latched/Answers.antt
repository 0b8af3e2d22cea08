use Rattle.w83782d_report_text.proofs.Lines.{both_bytes, both_short}
use borrow.Author.Rules.{rules}
use Rattle.w83782d_report_text.proofs.put_latched.Goals as goal

pub returns : goal.returns
returns c = record { lines = search (rules, both_bytes); short = search (rules, both_short) }
