use native.Mathlib.Omega.{arith}
use Rattle.report_text.proofs.Joined.{put_no_count, put_one_count, put_every_count}
use Rattle.report_text.proofs.Short.{one_farther, all_so_far}
use borrow.Author.Rules.{rules}
use Rattle.report_text.proofs.put_counts.Goals as goal

pub loop-bit-init : goal.loop-bit-init
loop-bit-init c = (put_no_count _ _ (omega arith) (omega arith), omega arith)

pub loop-bit-preserved : goal.loop-bit-preserved
loop-bit-preserved c = (search (rules, put_one_count), search (rules, one_farther))

pub returns : goal.returns
returns c = record { lines = search (rules, put_every_count); short = search (rules, all_so_far) }
