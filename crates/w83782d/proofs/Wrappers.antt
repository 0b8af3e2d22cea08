-- The methods by value from what the functions in place ensure.
-- Assumes nothing.
use mathlib.Core.Path.{◌≡◌, refl, ap, ◌∙◌}
use mathlib.Core.List.{List}
use Prim.Native.Nat.{ℕ}
use borrow.Author.Tests.{eq-eqb}
use lib.ListN.{length}
use Rattle.std.specs.Prelude.{Result, Ok, Err}
use Rattle.std.specs.Result.{result_and}
use Rattle.answers.specs.declared.Refusal.{Refusal}
use Rattle.answers.specs.Refusals.{answer_of}
use Rattle.w83782d_map.specs.Map.{cells}
use Rattle.w83782d_latches.specs.Effects.{power_on_latches}
use Rattle.w83782d_bus.specs.Bus.{state, power_on, written, Written, Read, Looked, looked_of, looked_in, looked_as, leaving, sized}
use Rattle.w83782d_bus.specs.Bus.{sized_read, outcome_in, read_outcome_in}
use Rattle.w83782d_latches.specs.declared.Latches.{Latches}
use Rattle.w83782d_bus.specs.declared.Outcome.{Outcome}
use Rattle.w83782d.specs.declared.Monitor.{Monitor}
use Rattle.w83782d.specs.declared.Answered.{Answered}
use Rattle.w83782d.specs.Monitor.{state_of, monitor_of, of_outcome, answer_as, shown_as, answered, shown, look_of, power_on_of}

abbrev pub monitor : List ℕ → Latches → Monitor
monitor rs l = record { registers = rs; latches = l }

pub power_on_wrapped : (rs ts : List ℕ) (o : Outcome (Unit {0})) → length rs ≡ cells
    → outcome_in ts o ≡ sized rs power_on_latches (written power_on 0) → monitor ts o.latches ≡ power_on_of
power_on_wrapped rs ts o h e =
    let f : outcome_in ts o ≡ written power_on 0 = rw (eq-eqb (length rs) cells h) at e in
    ap (λ (x : Written). monitor_of x.state) f

abbrev done : Result (Unit {0}) Refusal
done = Ok tt

only : {A : Type 0} (r : Result A Refusal) → answer_of (result_and r done) ≡ answer_of r
only (Ok _) = refl
only (Err _) = refl

-- whatever the call gives where the registers fit, the method hands back
module _ (rs : List ℕ) (l : Latches) (h : length rs ≡ cells) (ts : List ℕ) where
  pub wrote : (o : Outcome (Unit {0})) (z : Written) (a : Answered (Unit {0})) → outcome_in ts o ≡ sized rs l z
      → a ≡ of_outcome ts o → answer_as a ≡ answered z
  wrote o z a e f =
      let g : outcome_in ts o ≡ z = rw (eq-eqb (length rs) cells h) at e in
      ap answer_as f ∙ ap answered g

  -- where the answer's value is let go
  pub wrote_only : {A : Type 0} (o : Outcome A) (z : Written) (r : Result (Unit {0}) Refusal) (a : Answered (Unit {0}))
      → r ≡ result_and o.answer done → outcome_in ts o ≡ sized rs l z
      → a ≡ of_outcome ts (record { latches = o.latches; answer = r }) → answer_as a ≡ answered z
  wrote_only o z r a q e f =
      wrote (record { latches = o.latches; answer = r }) z a
      (ap (λ (n : ℕ). written (state ts o.latches) n) (ap answer_of q ∙ only o.answer) ∙ e) f

  pub saw : (o : Outcome ℕ) (z : Read) (a : Answered ℕ) → read_outcome_in ts o ≡ sized_read rs l z
      → a ≡ of_outcome ts o → shown_as a ≡ shown z
  saw o z a e f =
      let g : read_outcome_in ts o ≡ z = rw (eq-eqb (length rs) cells h) at e in
      ap shown_as f ∙ ap shown g

-- a look hands back the monitor that it was given
pub looks : (m : Monitor) (i : ℕ) (r : Result ℕ Refusal) → length m.registers ≡ cells
    → looked_as r ≡ looked_in m.registers m.latches.chassis i
    → shown (leaving (state_of m) (looked_as r)) ≡ look_of m i
looks m i r h e =
    let g : looked_as r ≡ looked_of m.registers m.latches.chassis i = rw (eq-eqb (length m.registers) cells h) at e in
    ap (λ (y : Looked). shown (leaving (state_of m) y)) g
