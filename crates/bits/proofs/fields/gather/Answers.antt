use borrow.Author.Rules.{rules}
use Rattle.bits.proofs.fields.FieldLaws.{gather_in}
use Rattle.bits.proofs.fields.gather.Goals as goal

pub returns : goal.returns
returns c = search (rules, gather_in)
