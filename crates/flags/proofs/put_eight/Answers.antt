use native.Mathlib.Omega.{arith}
use mathlib.Core.Path.{◌∙◌}
use Rattle.flags.proofs.Slices.{put_eight_none, put_eight_all}
use Rattle.flags.proofs.put_eight.Goals as goal
use Rattle.flags.proofs.put_eight.Goals.{then-s-lt8-via-then-s-lt8, then-s-lt8-via-else-s-lt8+then-s-at}

pub returns-then-s-lt8 : goal.returns-then-s-lt8
returns-then-s-lt8 c =
    elim c.then-s-lt8.branch [
      | then-s-lt8-via-then-s-lt8 w ↦ put_eight_none _ _ _ (omega arith)
      | then-s-lt8-via-else-s-lt8+then-s-at w ↦ put_eight_none _ _ _ (omega arith)
    ]

pub returns : goal.returns
returns c = put_eight_all _ _ _ _ (omega arith) (c.copy_from_slice.ensures.after ∙ c.to_le_bytes-eight.ensures)
