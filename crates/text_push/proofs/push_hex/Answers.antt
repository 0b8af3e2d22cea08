use Rattle.text_hex.specs.Hex.{hex}
use Rattle.text_hex.proofs.Hex.{capital_hexes}
use borrow.Author.Rules.{rules}
use Rattle.text_push.proofs.push_hex.Goals as goal

pub returns : goal.returns
returns c = (c.push.ensures (hex c.args.byte) (λ o n e. search rules), capital_hexes)
