use lib.ListN.{take}
use Rattle.text.specs.Pages.{Puts}
use Rattle.w83782d_sample_words.specs.Words.{all_spaced}
use Rattle.w83782d_sample_words.proofs.put_codes.Given as goal

abbrev pub invariant-loop-code : goal.invariant-loop-code
invariant-loop-code l = Puts l.initial.page (all_spaced (take l.code-index l.codes)) l.page
