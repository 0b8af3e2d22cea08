use Rattle.w83782d_sample_words.proofs.Joined.{put_halves_words}
use borrow.Author.Rules.{rules}
use Rattle.w83782d_sample_words.proofs.put_halves.Goals as goal

pub returns : goal.returns
returns c = search (rules, put_halves_words)
