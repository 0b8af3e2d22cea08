-- The flags from 112 up to this one are 0 or 1, every other byte is as it was. Assumes nothing.
use mathlib.Core.Path.{◌≡◌}
use Prim.Native.Nat.{◌-◌}
use lib.Seq.{sets}
use Rattle.bits.specs.Map.{tabulate}
use Rattle.w83782d_image.proofs.latches.Flags.{normalised}
use Rattle.w83782d_image.proofs.latches.normalise_flags.Given as goal

abbrev pub invariant-loop-at : goal.invariant-loop-at
invariant-loop-at l = l.image ≡ sets l.initial.image 112 (tabulate (l.at - 112) 112 (normalised l.initial.image))
