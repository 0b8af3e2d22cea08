use borrow.Author.Rules.{rules}
use Rattle.flags.proofs.Joined.{normalised_flags}
use Rattle.flags.proofs.normalised.Goals as goal

pub returns : goal.returns
returns c = normalised_flags _ (search rules)
