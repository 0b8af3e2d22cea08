use Rattle.numbers.proofs.wrapping.Sums.{add_wraps}
use Rattle.numbers.proofs.wrapping.wrapping_add.Goals as goal

pub returns : goal.returns
returns c = add_wraps c.args.a c.args.b c.ranges.a c.ranges.b
