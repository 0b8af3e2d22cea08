use Rattle.text_push.proofs.Pushes.{pushes}
use borrow.Author.Rules.{rules}
use Rattle.text_push.proofs.push_bytes.Goals as goal

pub returns : goal.returns
returns c = (c.push.ensures c.args.word.now (λ o n e. search rules), pushes)
