use mir.Syntax.{w64}
use mir.ValLaws.{to_z-of_z}
use Rattle.text.proofs.Sign.{no_places}
use Rattle.text.proofs.Page.put_signed.Goals as goal

pub returns : goal.returns
returns c = rw (no_places c.args.z) (rw (to_z-of_z w64 c.args.z c.ranges.z) at c.put_signed_places.ensures)
