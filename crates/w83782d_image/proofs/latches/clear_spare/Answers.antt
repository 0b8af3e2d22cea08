use borrow.Author.Rules.{rules}
use Rattle.w83782d_image.proofs.Images.{put_none}
use Rattle.w83782d_image.proofs.latches.Flags.{spare_filled}
use Rattle.w83782d_image.proofs.latches.clear_spare.Goals as goal

pub returns-then-image-ne-IMAGE : goal.returns-then-image-ne-IMAGE
returns-then-image-ne-IMAGE c = search (rules, put_none)

pub returns : goal.returns
returns c = spare_filled _ _ c.if-image-ne-IMAGE.false (search rules)
