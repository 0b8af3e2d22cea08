use borrow.Author.Rules.{rules}
use native.Mathlib.Omega.{arith}
use lib.ListN.{length-take}
use Rattle.w83782d_access.proofs.Accesses.{look_short}
use Rattle.w83782d_access.proofs.Plain.{look_given}
use Rattle.w83782d_access.proofs.look.Goals as goal

pub returns-then-image-ne-IMAGE : goal.returns-then-image-ne-IMAGE
returns-then-image-ne-IMAGE c = look_short _ _ c.if-image-ne-IMAGE.true

pub slice_bounds-look_in-end : goal.slice_bounds-look_in-end
slice_bounds-look_in-end c = simp length-take (omega arith)

pub returns : goal.returns
returns c = search (rules, look_given)
