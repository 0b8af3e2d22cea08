-- The code is the definition at twice the width, and the quotient is no more than n.
-- Assumes nothing.
use Rattle.std.proofs.Common.{refl}
use Rattle.numbers.specs.Rounding.{nearest}
use Rattle.numbers.proofs.rounding.Quotients.{nearest_holds, by_zero}
use Rattle.numbers.proofs.rounding.rounded.Goals as goal

pub returns-then-d-eq0 : goal.returns-then-d-eq0
returns-then-d-eq0 c = (by_zero _ _ c.if-d-eq0.true, nearest_holds)

pub returns : goal.returns
unfolding nearest
returns c = (refl, nearest_holds)
