use Rattle.w83782d_sample_words.proofs.Wide.{five_is}
use borrow.Author.Rules.{rules}
use Rattle.w83782d_sample_words.proofs.tenths.Goals as goal

pub returns : goal.returns
returns c = search (rules, five_is)
