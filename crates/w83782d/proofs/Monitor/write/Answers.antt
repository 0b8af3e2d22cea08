use borrow.Author.Rules.{rules}
use Prim.Native.Nat.{ℕ}
use mir.Val.{Fits}
use mir.Syntax.{w8}
use lib.ListN.{get_or}
use Rattle.w83782d.specs.Monitor.{state_of}
use Rattle.w83782d.proofs.Wrappers.{wrote}
use Rattle.w83782d_claims.proofs.bus.Proved.{write_claims}
use Rattle.w83782d.proofs.Monitor.write.Goals as goal

pub returns : goal.returns
returns c =
    let m = c.args.self in
    let fits : (k : ℕ) → Fits w8 (get_or m.registers k 0) = λ k. search rules in record { equation = search (rules, wrote); claims = write_claims (state_of m) _ _ (record { count = search rules; bytes = λ k. (fits k).fits }) (search rules) }
