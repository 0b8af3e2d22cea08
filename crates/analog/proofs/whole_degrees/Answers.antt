-- The machine reads a byte as the definition does.
-- Assumes nothing.
use mathlib.Core.Path.{◌∙◌}
use mir.Syntax.{w8}
use mir.ValLaws.{to_z-of_z}
use borrow.Author.Rules.{rules}
use Rattle.numbers.proofs.twos_complement.Complement.{twos_complement_holds}
use Rattle.analog.proofs.Halves.{signed_byte}
use Rattle.analog.proofs.whole_degrees.Goals as goal

pub returns : goal.returns
returns c = (
  to_z-of_z w8 c.cast_signed.result (record { sfits = c.cast_signed.type_inv }) ∙ c.cast_signed.ensures
      ∙ signed_byte c.args.code (search rules),
  twos_complement_holds,
)
