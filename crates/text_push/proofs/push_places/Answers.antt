use Rattle.text.specs.Numbers.{places}
use Rattle.text.proofs.Point.{all_places}
use borrow.Author.Rules.{rules}
use Rattle.text_push.proofs.push_places.Goals as goal

pub returns : goal.returns
returns c = (c.push.ensures (places c.args.digits c.args.n) (λ o n e. search rules), all_places)
