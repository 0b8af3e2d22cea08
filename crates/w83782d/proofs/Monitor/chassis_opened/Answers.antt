use mathlib.Core.Path.{refl}
use Rattle.w83782d.specs.Monitor.{state_of}
use Rattle.w83782d_claims.proofs.bus.Frames.{opened}
use Rattle.w83782d.proofs.Monitor.chassis_opened.Goals as goal

pub returns : goal.returns
returns c =
    let m = c.args.self in
    rw (c.of.ensures, c.opened.ensures) record { equation = refl; claims = opened (state_of m) }
