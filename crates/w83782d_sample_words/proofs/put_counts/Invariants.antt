use lib.ListN.{take}
use Rattle.text.specs.Pages.{Puts}
use Rattle.w83782d_sample_words.specs.Words.{all_spaced}
use Rattle.w83782d_sample_words.proofs.Joined.{counted}
use Rattle.w83782d_sample_words.proofs.put_counts.Given as goal

abbrev pub invariant-loop-count : goal.invariant-loop-count
invariant-loop-count l = Puts l.initial.page (all_spaced (take l.count-index (counted l.counts))) l.page
