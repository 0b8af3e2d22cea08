-- Demand 3 for the W83782D: its calls, what each is to a plan in force, and where its fans' bits are. Crate
-- `in_force` has the claim itself, once for every chip (Chip.antt), and how long a plan is in force (InForce.antt).
use Rattle.std.specs.Prelude.{◌≡◌, Bool, ◌&&◌, ℕ, ◌-◌, ◌≤◌, eqb, leb, get_or}
use mathlib.Core.List.{List, [], ◌∷◌, map, foldl}
use Rattle.bits.specs.Bits.{choose, bit, is_on, change}
use Rattle.in_force.specs.InForce.{none, plan, found, after_all}
use Rattle.in_force.specs.Chip as chip
use Rattle.in_force.specs.Chip.{Kind, reset, writing, planning, sampling, other, Chip, Alarm, Whole, watched, Rings}
use Rattle.fan.specs.Count.{per_minute}
use Rattle.w83782d_layout.specs.declared.samples.Sample.{Sample}
use Rattle.w83782d_map.specs.Map.{cells, at}
use Rattle.w83782d_map.specs.Cells.{fan_count, real_time_status1, real_time_status2}
use Rattle.w83782d_registers.specs.Registers.{reset_registers}
use Rattle.w83782d_latches.specs.Effects.{opened_latches}
use Rattle.w83782d_bus.specs.Bus.{State, state, Written, written, write_of, look_of, read_of}
use Rattle.w83782d_store.specs.Stored as Stored
use Rattle.w83782d_sample.specs.Sample.{fan_bit, sample_of}
use Rattle.w83782d_plan.specs.Plan.{fans, fan_of, set_plan_of}

-- ---- P-9: the calls
pub data Call : Type 0 where
  write : (index value : ℕ) → Call
  read : (index : ℕ) → Call
  look : (index : ℕ) → Call
  sample : Sample → Call
  chassis : Call
  set_plan : (fan speed : ℕ) → Call

-- each is answered by the definition that the contracts cite, in place, by value (w83782d) and on an image (w83782d_c)
abbrev pub answer_to : State → Call → Written
answer_to s (write i v) = write_of s i v
answer_to s (read i) = written (read_of s i).state (read_of s i).answer
answer_to s (look i) = written (look_of s i).state (look_of s i).answer
answer_to s (sample x) = sample_of s x
answer_to s chassis = written (state s.registers (opened_latches s.latches)) 0
answer_to s (set_plan f w) = set_plan_of s f w

-- ---- what each is to a plan in force

-- M-8: a reset by 40h bit 7
abbrev pub is_reset : ℕ → ℕ → Bool
is_reset i v = eqb i 0x40 && is_on v 7

-- the cell that an accepted write to an index reaches, where that is one of a plan's: 60h
-- to 7Fh are 20h to 3Fh (M-2), and 5Dh exists in bank 0 alone
abbrev pub reached : ℕ → ℕ
reached i = choose (leb 0x60 i) (at (i - 0x40)) (at i)

-- S-1: the undivided count of each fan
abbrev pub undivided_of : Sample → ℕ → ℕ
undivided_of x f = (get_or x.counts (f - 1) Stored.none).0

abbrev pub kind_of : Call → Kind
kind_of (write i v) = choose (is_reset i v) reset (writing (change (reached i) 0xFF v ∷ []))
kind_of (read i) = other
kind_of (look i) = other
kind_of (sample x) = sampling (undivided_of x)
kind_of chassis = other
kind_of (set_plan f w) = planning f w

-- ---- the monitor

-- stored counts and real-time bits: the cells of the three fans' counts, 59h and 5Ah
abbrev pub readings_of : State → List ℕ
readings_of s =
    map (λ c. get_or s.registers c 0) (fan_count 1 ∷ fan_count 2 ∷ fan_count 3 ∷ real_time_status1 ∷ real_time_status2 ∷ [])

-- the fan's real-time bit as a bus read of bank 4 shows it: fans 1 and 2 in 59h, fan 3 in 5Ah. decision D-28
abbrev pub real_time_bit : State → ℕ → ℕ
real_time_bit s f = bit (read_of (write_of s 0x4E 4).state (choose (eqb f 3) 0x5A 0x59)).byte (fan_bit f)

abbrev pub monitor : Chip State Call
monitor =
    record {
      cells = cells;
      fans = fans;
      fan = fan_of;
      registers = λ s. s.registers;
      instead = λ s rs. state rs s.latches;
      restored = reset_registers;
      readings = readings_of;
      real_time_bit = real_time_bit;
      step = λ s c. (answer_to s c).state;
      answer = λ s c. (answer_to s c).answer;
      kind = kind_of;
    }

-- the state after a list of calls
abbrev pub state_after : State → List Call → State
state_after s cs = foldl monitor.step s cs

-- of every fan, every state to start from and every list of calls, at each of its calls
abbrev pub AlarmRings : Type 0
AlarmRings = chip.AlarmRings monitor

-- ---- what it says of one call's own arguments

-- asking: of this fan, this speed and this state
abbrev pub SetsAlarm : State → ℕ → ℕ → Type 0
SetsAlarm s f w = 1 ≤ f → f ≤ fans → 1 ≤ w → w ≤ per_minute → chip.SetsPlan monitor f s (set_plan f w) w

-- a sample: of this sample and this state, whatever calls led to it and left a plan in force
abbrev pub SampleRings : State → Sample → Type 0
SampleRings s x =
    (f : ℕ) → 1 ≤ f → f ≤ fans → (start : State) → Whole monitor start → (before : List Call) (p : Alarm)
    → after_all (watched monitor f) (found start none) before ≡ found s (plan p)
    → (sample_of s x).answer ≡ 0 → Rings monitor f s p (sample x) (undivided_of x f)
