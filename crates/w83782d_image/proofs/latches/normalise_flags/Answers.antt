use mathlib.Core.Path.{refl}
use native.Mathlib.Omega.{arith}
use borrow.Author.Rules.{rules}
use Rattle.w83782d_image.proofs.Images.{put_none}
use Rattle.w83782d_image.proofs.latches.Flags.{normalises_next, normalised_all}
use Rattle.w83782d_image.proofs.latches.normalise_flags.Goals as goal

pub returns-then-image-ne-IMAGE : goal.returns-then-image-ne-IMAGE
returns-then-image-ne-IMAGE c = search (rules, put_none)

pub loop-at-init : goal.loop-at-init
loop-at-init c = refl

pub loop-at-preserved : goal.loop-at-preserved
loop-at-preserved c =
    normalises_next c.args.image.now _ _ _ _ _ c.loop-at.auto.at c.loop-at.invariant c.cell-byte.ensures c.flag.ensures
    c.put.ensures

pub returns : goal.returns
returns c =
    normalised_all c.args.image.now c.loop-at.image c.loop-at.at c.if-image-ne-IMAGE.false (omega arith)
    c.loop-at-test.false c.loop-at.invariant
