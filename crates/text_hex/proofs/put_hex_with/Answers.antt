use Rattle.text_hex.proofs.Hex.{put_hexes}
use borrow.Author.Rules.{rules}
use Rattle.text_hex.proofs.put_hex_with.Goals as goal

pub returns : goal.returns
returns c = search (rules, put_hexes)
