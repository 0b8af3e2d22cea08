use borrow.Author.Rules.{rules}
use Prim.Native.Nat.{ℕ}
use mir.Val.{Fits, SFits}
use mir.Syntax.{w8}
use lib.ListN.{get_or}
use Rattle.w83782d.specs.Monitor.{state_of}
use Rattle.w83782d_claims.proofs.sample.Proved.{sample_claims}
use Rattle.w83782d_claims.proofs.alarm.Alarm.{sample_rings}
use Rattle.w83782d.proofs.Wrappers.{wrote_only}
use Rattle.w83782d.proofs.Monitor.sample.Goals as goal

pub returns : goal.returns
returns c =
    let m = c.args.self in
    let x = c.args.x in
    let fits : (k : ℕ) → Fits w8 (get_or m.registers k 0) = λ k. search rules in
    let byte : SFits w8 x.sensor1 = search rules in
    let done = c.sample_in-done.ensures.outcome in
    let claims = sample_claims (state_of m) x (record { count = search rules; bytes = λ k. (fits k).fits }) byte in
    let equation = wrote_only m.registers m.latches (search rules) _ _ _ _ _ c.and.ensures done c.of.ensures in
    record { equation = equation; claims = claims; rings = sample_rings (state_of m) x }
