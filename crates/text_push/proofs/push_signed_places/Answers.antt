use Rattle.text.specs.Numbers.{signed_places}
use borrow.Author.Rules.{rules}
use Rattle.text_push.proofs.push_signed_places.Goals as goal

pub returns : goal.returns
returns c = c.push.ensures (signed_places c.args.digits c.args.z) (λ o n e. search rules)
