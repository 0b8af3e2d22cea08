-- The monitor by value: the definitions of the crates below, on its registers and latches.
use Rattle.std.specs.Prelude.{List, ℕ}
use Rattle.answers.specs.Refusals.{answer_of}
use Rattle.w83782d_record.specs.declared.Event.{Event}
use Rattle.w83782d_layout.specs.declared.samples.Sample.{Sample}
use Rattle.w83782d_sample.specs.Sample as Rule
use Rattle.w83782d_replay.specs.Replay as Replay
use Rattle.w83782d_plan.specs.Plan as Plan
use Rattle.w83782d_bus.specs.Bus as Bus
use Rattle.w83782d_latches.specs.Effects.{opened_latches}
use Rattle.w83782d_bus.specs.Bus.{State, Written, Read, power_on, byte_of}
use Rattle.w83782d_bus.specs.declared.Outcome.{Outcome}
use Rattle.w83782d.specs.declared.Monitor.{Monitor}
use Rattle.w83782d.specs.declared.Answered.{Answered}

abbrev pub state_of : Monitor → State
state_of m = record { registers = m.registers; latches = m.latches }

abbrev pub monitor_of : State → Monitor
monitor_of s = record { registers = s.registers; latches = s.latches }

-- the monitor after an event, and the number of its answer
pub record Answer : Type 0 where
  pub monitor : Monitor
  pub answer : ℕ

-- the same after a read or a look, with the byte shown
pub record Shown : Type 0 where
  pub monitor : Monitor
  pub answer : ℕ
  pub byte : ℕ

-- what a method returned; a refused read shows 0
abbrev pub answer_as : {A : Type 0} → Answered A → Answer
answer_as r = record { monitor = r.monitor; answer = answer_of r.answer }

abbrev pub shown_as : Answered ℕ → Shown
shown_as r = record { monitor = r.monitor; answer = answer_of r.answer; byte = byte_of r.answer }

-- the registers that a call in place left, with its outcome
abbrev pub of_outcome : {A : Type 0} → List ℕ → Outcome A → Answered A
of_outcome rs o = record { monitor = record { registers = rs; latches = o.latches }; answer = o.answer }

abbrev pub answered : Written → Answer
answered w = record { monitor = monitor_of w.state; answer = w.answer }

abbrev pub shown : Read → Shown
shown r = record { monitor = monitor_of r.state; answer = r.answer; byte = r.byte }

abbrev pub power_on_of : Monitor
power_on_of = monitor_of power_on

abbrev pub write_of : Monitor → ℕ → ℕ → Answer
write_of m i v = answered (Bus.write_of (state_of m) i v)

-- I-7: what a read shows, the monitor handed back as it was
abbrev pub look_of : Monitor → ℕ → Shown
look_of m i = shown (Bus.look_of (state_of m) i)

abbrev pub read_of : Monitor → ℕ → Shown
read_of m i = shown (Bus.read_of (state_of m) i)

-- I-3: the chassis was opened, always answered 0
abbrev pub opened_of : Monitor → Answer
opened_of m = record { monitor = record { registers = m.registers; latches = opened_latches m.latches }; answer = 0 }

abbrev pub sample_of : Monitor → Sample → Answer
sample_of m x = answered (Rule.sample_of (state_of m) x)

-- P-5
abbrev pub set_plan_of : Monitor → ℕ → ℕ → Answer
set_plan_of m f w = answered (Plan.set_plan_of (state_of m) f w)

-- any of the four events: bus write, bus read, sample, chassis opened
abbrev pub apply_of : Monitor → Event → Shown
apply_of m e = shown (Replay.apply_of (state_of m) e.kind e.sample)
