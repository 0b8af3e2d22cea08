use Rattle.text.proofs.Point.{put_no_point, put_some_places}
use borrow.Author.Rules.{rules}
use Rattle.text.proofs.Page.put_places.Goals as goal

pub returns-then-digits-eq0 : goal.returns-then-digits-eq0
returns-then-digits-eq0 c = search (rules, put_no_point)

pub returns : goal.returns
returns c = search (rules, put_some_places)
