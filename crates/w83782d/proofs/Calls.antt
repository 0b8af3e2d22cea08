-- The methods' definitions are the calls of the alarm claim, each by its own definition; so are lists of them.
-- Assumes nothing.
use mathlib.Core.Path.{◌≡◌, refl, ap, ◌∙◌}
use lib.ListN.{length}
use Rattle.w83782d_layout.specs.declared.samples.Sample.{Sample}
use Rattle.w83782d_record.specs.declared.Kind.{Kind}
use Rattle.w83782d_record.specs.declared.Kind.TheVariants as kind
use Rattle.in_force.specs.Carried.{Carries}
use Rattle.in_force.proofs.Carriers.{every_carrier}
use Rattle.w83782d_bus.specs.Bus.{State, Written, written}
use Rattle.w83782d_claims.specs.Alarm.{Call, write, read, look, sample, chassis, set_plan, answer_to, monitor}
use Rattle.w83782d_events.specs.Events.{call_for}
use Rattle.w83782d_claims.proofs.alarm.Alarm.{fit, alarm_rings}
use Rattle.w83782d.specs.declared.Monitor.{Monitor}
use Rattle.w83782d.specs.Monitor.{state_of, apply_of}
use Rattle.w83782d.specs.Alarm.{without_byte, answer_of, by_value, MonitorCalls}

same : (m : Monitor) (c : Call)
    → written (state_of (answer_of m c).monitor) (answer_of m c).answer ≡ answer_to (state_of m) c
same m (write i v) = refl
same m (read i) = refl
same m (look i) = refl
same m (sample x) = refl
same m chassis = refl
same m (set_plan f w) = refl

-- by the kind
applied : (m : Monitor) (k : Kind) (x : Sample)
    → without_byte (apply_of m (record { kind = k; sample = x })) ≡ answer_of m (call_for k x)
applied m (kind.Write i v) x = refl
applied m (kind.Read i) x = refl
applied m kind.Sample x = refl
applied m kind.Chassis x = refl

by_value_law : Carries monitor by_value
by_value_law =
    record {
      whole = λ m h. h;
      is = λ m c h u. ap (λ (w : Written). length w.state.registers) (same m c) ∙ fit (state_of m) c h;
      step = λ m c h u. ap (λ (w : Written). w.state) (same m c);
    }

pub monitor_calls : MonitorCalls
monitor_calls =
    record {
      calls = same;
      events = λ m e. applied m e.kind e.sample;
      byte = λ m i. refl;
      rings = every_carrier Monitor State Call monitor by_value alarm_rings by_value_law;
    }
