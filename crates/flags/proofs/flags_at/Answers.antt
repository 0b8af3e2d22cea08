use native.Mathlib.Omega.{arith}
use Rattle.flags.proofs.Slices.{flags_none, flags_are}
use Rattle.flags.proofs.flags_at.Goals as goal
use Rattle.flags.proofs.flags_at.Goals.{then-s-lt8-via-then-s-lt8, then-s-lt8-via-else-s-lt8+then-s-at}

pub returns-then-s-lt8 : goal.returns-then-s-lt8
returns-then-s-lt8 c =
    elim c.then-s-lt8.branch [
      | then-s-lt8-via-then-s-lt8 w ↦ flags_none _ _ (omega arith)
      | then-s-lt8-via-else-s-lt8+then-s-at w ↦ flags_none _ _ (omega arith)
    ]

pub returns : goal.returns
returns c =
    flags_are _ _ _ _ _ (omega arith) c.type_inv.s c.in-Ok.ensures.1.same c.from_le_bytes.ensures c.normalised.ensures
