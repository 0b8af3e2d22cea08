use Rattle.text_hex.specs.Hex.{small_hex}
use Rattle.text_hex.proofs.Hex.{small_hexes}
use borrow.Author.Rules.{rules}
use Rattle.text_push.proofs.push_small_hex.Goals as goal

pub returns : goal.returns
returns c = (c.push.ensures (small_hex c.args.byte) (λ o n e. search rules), small_hexes)
