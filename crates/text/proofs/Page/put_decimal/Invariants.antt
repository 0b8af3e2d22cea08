-- The digits are put into a buffer of their own from its end on. The measure is the number that they leave.
use Rattle.text.proofs.Decimal.{SoFar}
use Rattle.text.proofs.Page.put_decimal.Given as goal

abbrev pub invariant-loop-rest : goal.invariant-loop-rest
invariant-loop-rest l = SoFar l.n l.rest l.first l.digits

abbrev pub decreases-loop-rest : goal.decreases-loop-rest
decreases-loop-rest l = l.rest
