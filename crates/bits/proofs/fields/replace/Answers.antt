use borrow.Author.Rules.{rules}
use Rattle.bits.proofs.fields.FieldLaws.{replace_in}
use Rattle.bits.proofs.fields.replace.Goals as goal

pub returns : goal.returns
returns c = search (rules, replace_in)
