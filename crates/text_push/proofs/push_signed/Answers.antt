use Rattle.text.specs.Numbers.{signed}
use Rattle.text.proofs.Sign.{signs}
use borrow.Author.Rules.{rules}
use Rattle.text_push.proofs.push_signed.Goals as goal

pub returns : goal.returns
returns c = (c.push.ensures (signed c.args.z) (λ o n e. search rules), signs)
