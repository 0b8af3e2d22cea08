-- Demand 3 by value. The claim itself, `AlarmRings`, is in w83782d_claims and about registers and latches; here is that
-- the methods' definitions are its calls, so that it is about them and every list of them.
use Rattle.std.specs.Prelude.{◌≡◌, ℕ, length}
use Rattle.w83782d_record.specs.declared.Event.{Event}
use Rattle.in_force.specs.Carried.{Carrier, RingsIn}
use Rattle.w83782d_map.specs.Map.{cells}
use Rattle.w83782d_bus.specs.Bus as Bus
use Rattle.w83782d_bus.specs.Bus.{State, written}
use Rattle.w83782d_claims.specs.Alarm.{Call, write, read, look, sample, chassis, set_plan, answer_to, monitor}
use Rattle.w83782d_events.specs.Events.{call_for}
use Rattle.w83782d.specs.declared.Monitor.{Monitor}
use Rattle.w83782d.specs.Monitor.{Answer, Shown, state_of, write_of, look_of, read_of, sample_of, opened_of, set_plan_of, apply_of}

-- what a read, a look or an event answers beside its byte
abbrev pub without_byte : Shown → Answer
without_byte r = record { monitor = r.monitor; answer = r.answer }

-- each call is answered by the definition that its method's contract cites
abbrev pub answer_of : Monitor → Call → Answer
answer_of m (write i v) = write_of m i v
answer_of m (read i) = without_byte (read_of m i)
answer_of m (look i) = without_byte (look_of m i)
answer_of m (sample x) = sample_of m x
answer_of m chassis = opened_of m
answer_of m (set_plan f w) = set_plan_of m f w

-- the monitor carries the claim's state, and hands itself on from call to call
abbrev pub by_value : Carrier Monitor State Call
by_value =
    record {
      Is = λ m. length m.registers ≡ cells;
      state = state_of;
      Takes = λ c. Unit {0};
      step = λ m c. (answer_of m c).monitor;
    }

pub record MonitorCalls : Type 0 where
  -- a call on the monitor is that call on its registers and latches
  pub calls : (m : Monitor) (c : Call)
      → written (state_of (answer_of m c).monitor) (answer_of m c).answer ≡ answer_to (state_of m) c
  -- so is applying an event
  pub events : (m : Monitor) (e : Event) → without_byte (apply_of m e) ≡ answer_of m (call_for e.kind e.sample)
  -- and the byte that a read shows is the one that the claim looks at
  pub byte : (m : Monitor) (i : ℕ) → (read_of m i).byte ≡ (Bus.read_of (state_of m) i).byte
  -- so a list of calls is that list, and the claim is true at each of them
  pub rings : RingsIn monitor by_value
