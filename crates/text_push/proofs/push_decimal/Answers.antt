use Rattle.text.specs.Numbers.{decimal}
use Rattle.text.proofs.Decimal.{decimals}
use borrow.Author.Rules.{rules}
use Rattle.text_push.proofs.push_decimal.Goals as goal

pub returns : goal.returns
returns c = (c.push.ensures (decimal c.args.n) (λ o n e. search rules), decimals)
