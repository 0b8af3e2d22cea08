use borrow.Author.Rules.{rules}
use Rattle.status.proofs.StatusLaws.{count_few, counts_set_bits}
use Rattle.status.proofs.alarm_count.Goals as goal

pub returns : goal.returns
returns c = search (rules, count_few, counts_set_bits)
