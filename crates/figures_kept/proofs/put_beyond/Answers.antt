use Rattle.figures_kept.proofs.Kept.{put_where, put_nowhere}
use Rattle.std.proofs.Common.{rules}
use Rattle.figures_kept.proofs.put_beyond.Goals as goal

pub returns-then-beyond : goal.returns-then-beyond
returns-then-beyond c = search (rules, put_where)

pub returns-else-beyond : goal.returns-else-beyond
returns-else-beyond c = search (rules, put_nowhere)
