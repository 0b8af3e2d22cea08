use Rattle.w83782d_names.proofs.Cases.{put_0, put_1, put_2, put_4, put_no_bank}
use borrow.Author.Rules.{rules}
use Rattle.w83782d_names.proofs.put_banked.Goals as goal

pub returns-in-0 : goal.returns-in-0
returns-in-0 c = search (rules, put_0)

pub returns-in-1 : goal.returns-in-1
returns-in-1 c = search (rules, put_1)

pub returns-in-2 : goal.returns-in-2
returns-in-2 c = search (rules, put_2)

pub returns-in-4 : goal.returns-in-4
returns-in-4 c = search (rules, put_4)

pub returns-in_default : goal.returns-in_default
returns-in_default c = search (rules, put_no_bank)
