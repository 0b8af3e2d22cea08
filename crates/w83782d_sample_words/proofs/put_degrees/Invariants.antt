use lib.ListN.{take}
use Rattle.text.specs.Pages.{Puts}
use Rattle.w83782d_sample_words.specs.Words.{all_halves}
use Rattle.w83782d_sample_words.proofs.put_degrees.Given as goal

abbrev pub invariant-loop-halves : goal.invariant-loop-halves
invariant-loop-halves l = Puts l.initial.page (all_halves (take l.halves-index l.remote)) l.page
