-- The claims of one write and of one read, put together.
-- Assumes nothing.
use Prim.Native.Nat.{ℕ, ◌<◌}
use Rattle.w83782d_bus.specs.Bus.{State}
use Rattle.w83782d_claims.specs.BusClaims.{Whole, WriteClaims, ReadClaims}
use Rattle.w83782d_claims.proofs.bus.Reached.{answers, refused, alias, unbanked, selected, absent}
use Rattle.w83782d_claims.proofs.bus.Frames.{stored, cleared, reset, leaves, shown}

pub write_claims : (s : State) (i v : ℕ) → Whole s → i < 256 → WriteClaims s i v
write_claims s i v w h =
    record {
      answers = answers s i v h;
      refused = refused s i v;
      alias = alias s i v;
      unbanked = unbanked i;
      selected = selected s v w.count;
      absent = absent s i v;
      stored = stored s i v w.count;
      cleared = cleared s v w;
      reset = reset s v;
    }

pub read_claims : (s : State) (i : ℕ) → Whole s → i < 256 → ReadClaims s i
read_claims s i w h =
    record {
      answers = λ v. answers s i v h;
      refused = refused s i;
      alias = alias s i;
      leaves = leaves s i w.count;
      shown = shown s;
    }
