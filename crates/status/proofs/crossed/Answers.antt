-- The code is `crossed_of`'s own line; the claim is `crosses`.
-- Assumes nothing.
use mathlib.Core.Path.{refl}
use Rattle.status.specs.Status.{crossed_of}
use Rattle.status.proofs.Crossings.{crosses}
use Rattle.status.proofs.crossed.Goals as goal

pub returns : goal.returns
unfolding crossed_of
returns c = record { equation = refl; claims = crosses }
