use Rattle.report_text.proofs.Joined.{put_spaced_signed}
use borrow.Author.Rules.{rules}
use Rattle.report_text.proofs.put_signed_number.Goals as goal

pub returns : goal.returns
returns c = search (rules, put_spaced_signed)
