-- The measure is the number of digits.
use Rattle.text.proofs.Page.+put_pointed.Given as goal

abbrev pub decreases-put_pointed : goal.decreases-put_pointed
decreases-put_pointed l = l.digits
