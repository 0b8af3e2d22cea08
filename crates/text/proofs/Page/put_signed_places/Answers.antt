use native.Mathlib.Omega.{arith}
use mir.Syntax.{w64}
use mir.ValLaws.{to_z-of_z}
use Rattle.text.proofs.Sign.{put_below, put_above}
use Rattle.text.proofs.Page.put_signed_places.Goals.{then-z-lt0, else-z-lt0}
use Rattle.text.proofs.Page.put_signed_places.Goals as goal

pub returns : goal.returns
returns c =
    let read = to_z-of_z w64 c.args.z c.ranges.z in
    let number = rw read at c.unsigned_abs.ensures.value in
    elim c.if-z-lt0.branch [
      | then-z-lt0 w ↦
          put_below _ _ _ _ _ _ (rw read at w.if-z-lt0.true) w.put_byte.ensures (rw w.self-is at c.put_places.ensures)
          (omega (arith, number))
      | else-z-lt0 w ↦
          put_above _ _ _ _ _ (rw read at w.if-z-lt0.false) (rw w.self-is at c.put_places.ensures) (omega (arith, number))
    ]
