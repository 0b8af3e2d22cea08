use borrow.Author.Rules.{rules}
use Rattle.bits.proofs.PutAll.{sets_out, put_next, put_every}
use Rattle.bits.proofs.put_all.Goals as goal

pub returns-then-s-at : goal.returns-then-s-at
returns-then-s-at c = search (rules, sets_out)

pub loop-i-preserved : goal.loop-i-preserved
loop-i-preserved c = search (rules, put_next)

pub returns : goal.returns
returns c = search (rules, put_every)
