use mathlib.Core.Path.{◌≡◌}
use Prim.Native.Nat.{◌≤◌}
use lib.ListN.{length}
use Rattle.bits.proofs.Tables.{over}
use Rattle.w83782d_map.specs.Map.{cells}
use Rattle.w83782d_registers.specs.Parts.{restored_registers}
use Rattle.w83782d_registers.proofs.restore.Given as goal

abbrev pub invariant-loop-cell : goal.invariant-loop-cell
invariant-loop-cell l = (l.cell ≤ cells) × (length l.s ≡ cells) × (l.s ≡ over (restored_registers l.keep l.initial.s) l.initial.s l.cell)
