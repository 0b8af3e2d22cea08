use borrow.Author.Rules.{rules}
use Rattle.w83782d_image.proofs.latches.Flags.{held_not, latches_are}
use Rattle.w83782d_image.proofs.latches.latches_in.Goals as goal

pub returns-then-image-ne-IMAGE : goal.returns-then-image-ne-IMAGE
returns-then-image-ne-IMAGE c = search (rules, held_not)

pub returns : goal.returns
returns c = search (rules, latches_are)
