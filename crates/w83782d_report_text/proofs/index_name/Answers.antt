use mathlib.Core.Path.{refl}
use Rattle.w83782d_report_text.proofs.Lines.{name_is}
use borrow.Author.Rules.{rules}
use Rattle.w83782d_report_text.proofs.index_name.Goals as goal

pub returns : goal.returns
returns c = name_is _ c.args.index _ _ c.put_hex.ensures refl refl (search rules)
