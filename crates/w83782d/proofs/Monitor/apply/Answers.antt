use borrow.Author.Rules.{rules}
use Prim.Native.Nat.{ℕ}
use mir.Val.{Fits, SFits}
use mir.Syntax.{w8}
use lib.ListN.{get_or}
use Rattle.w83782d.specs.Monitor.{state_of}
use Rattle.w83782d_events.proofs.Events.{event_calls}
use Rattle.w83782d_events.proofs.Latched.{status_claims}
use Rattle.w83782d.proofs.Wrappers.{saw}
use Rattle.w83782d.proofs.Monitor.apply.Goals as goal

pub returns : goal.returns
returns c =
    let m = c.args.self in
    let e = c.args.event in
    let fits : (k : ℕ) → Fits w8 (get_or m.registers k 0) = λ k. search rules in
    let byte : SFits w8 e.sample.sensor1 =
    search (rules, c.well_formed.1) in
    let done = c.take_in-done.ensures in
    let equation = saw m.registers m.latches (search rules) _ _ _ _ done c.of.ensures in
    let status =
    status_claims (state_of m) e.sample (record { count = search rules; bytes = λ k. (fits k).fits }) byte
    e.kind in
    record { equation = equation; calls = event_calls; status = status }
