-- Each flag's bit, and the 256 values of eight flags.
-- Assumes nothing.
use Rattle.bits.proofs.Flags.{pack_law}
use Rattle.bits.proofs.pack.Goals as goal

pub returns : goal.returns
returns c =
    simp (
      c.flag.ensures,
      c.flag-2.ensures,
      c.flag-3.ensures,
      c.flag-4.ensures,
      c.flag-5.ensures,
      c.flag-6.ensures,
      c.flag-7.ensures,
      c.flag-8.ensures,
    ) (pack_law _ _ _ _ _ _ _ _)
