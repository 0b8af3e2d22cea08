use Rattle.text.proofs.Decimal.{put_behind_space}
use borrow.Author.Rules.{rules}
use Rattle.text.proofs.Page.put_spaced.Goals as goal

pub returns : goal.returns
returns c = search (rules, put_behind_space)
