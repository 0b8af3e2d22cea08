-- What a sample does with what it stores (rules S-8 to S-10, T-1 to T-6, O-2 to O-4).
-- Rails are numbered 0 to 6, sensors and fans 1 to 3.
use Rattle.std.specs.Prelude.{Bool, false, List, [], ◌∷◌, map, ℕ, ◌+◌, eqb, get_or}
use Rattle.std.specs.Bool.{xor}
use Rattle.std.specs.Int.Bits.{bit_or}
use Rattle.bits.specs.Bits.{choose, is_on, word}
use Rattle.bits.specs.Stores.{Store, ◌≔◌, puts}
use Rattle.sensor.specs.Sensor.{remote, status_of, output_of}
use Rattle.sensor.specs.declared.Mark.{Mark}
use Rattle.sensor.specs.declared.Status.{Status}
use Rattle.sensor.specs.declared.Output.{Output}
use Rattle.sensor.specs.declared.Remote.{Remote}
use Rattle.status.specs.Status.{status_bits, no_bits}
use Rattle.status.specs.declared.StatusBits.{StatusBits}
use Rattle.w83782d_layout.specs.declared.samples.Sample.{Sample}
use Rattle.w83782d_latches.specs.declared.Latches.{Latches}
use Rattle.w83782d_latches.specs.Effects.{latches, remote_of}
use Rattle.w83782d_map.specs.Cells.{interrupt_status1, interrupt_status2, real_time_status1, real_time_status2}
use Rattle.w83782d_bus.specs.Bus.{State, state, Written, written}
use Rattle.w83782d_store.specs.Stored.{stored_readings, sample_answer}
use Rattle.w83782d_conditions.specs.Conditions.{is_outside, is_above, is_below, is_slow, status_mode, output_mode}

-- ---- one step of each sensor
abbrev pub mark_of : Latches → ℕ → Mark
mark_of l n = choose (eqb n 1) l.sensor1 (remote_of l n).status

unfoldable pub status_at : List ℕ → Latches → ℕ → Status
status_at rs l n = status_of (status_mode rs n) (mark_of l n) (is_above rs n) (is_below rs n)

unfoldable pub output_at : List ℕ → Latches → ℕ → Output
output_at rs l n = output_of (output_mode rs n) (remote_of l n).output (is_above rs n) (is_below rs n)

-- ---- the bits of 41h and real-time 59h, and of 42h and 5Ah
pub data Source : Type 0 where
  rail : ℕ → Source
  sensor : ℕ → Source
  fan : ℕ → Source
  chassis : Source

-- S-8: 41h and real-time 59h, from bit 0
abbrev pub first_byte : List Source
first_byte = rail 0 ∷ rail 1 ∷ rail 2 ∷ rail 3 ∷ sensor 1 ∷ sensor 2 ∷ fan 1 ∷ fan 2 ∷ []

-- S-8: 42h and real-time 5Ah
abbrev pub second_byte : List Source
second_byte = rail 4 ∷ rail 5 ∷ rail 6 ∷ fan 3 ∷ chassis ∷ sensor 3 ∷ []

-- the condition that a real-time bit shows; the chassis bit is the latch itself and not stored
abbrev pub condition : List ℕ → Source → Bool
condition rs (rail i) = is_outside rs i
condition rs (sensor n) = is_above rs n
condition rs (fan f) = is_slow rs f
condition rs chassis = false

-- where a fan's real-time bit is: fans 1 and 2 in 59h, fan 3 in 5Ah
abbrev pub fan_cell : ℕ → ℕ
fan_cell f = choose (eqb f 3) real_time_status2 real_time_status1

abbrev pub fan_bit : ℕ → ℕ
fan_bit f = choose (eqb f 3) 3 (5 + f)

-- the real-time bit that the sample before left, in registers whose real-time bits are not yet set
unfoldable pub was_slow : List ℕ → ℕ → Bool
was_slow rs f = is_on (get_or rs (fan_cell f) 0) (fan_bit f)

-- S-9, what a sample latches: voltages where their condition is true; fans where it differs from the real-time bit that
-- the sample before left, so on crossings both ways (02, C-14; decision D-55); temperatures by their step
abbrev pub latched_by : List ℕ → Latches → Source → Bool
latched_by rs l (rail i) = is_outside rs i
latched_by rs l (sensor n) = (status_at rs l n).latched
latched_by rs l (fan f) = xor (is_slow rs f) (was_slow rs f)
latched_by rs l chassis = false

abbrev pub real_time_byte : List ℕ → List Source → ℕ
real_time_byte rs b = word (map (condition rs) b)

abbrev pub latched_byte : List ℕ → Latches → List Source → ℕ
latched_byte rs l b = word (map (latched_by rs l) b)

-- ---- 59h and 5Ah become the conditions, 41h and 42h status or latched
abbrev pub status_stores : List ℕ → Latches → List Store
status_stores rs l =
    (interrupt_status1 ≔ bit_or (get_or rs interrupt_status1 0) (latched_byte rs l first_byte))
    ∷ (interrupt_status2 ≔ bit_or (get_or rs interrupt_status2 0) (latched_byte rs l second_byte))
    ∷ (real_time_status1 ≔ real_time_byte rs first_byte)
    ∷ (real_time_status2 ≔ real_time_byte rs second_byte)
    ∷ []

unfoldable pub status_registers : List ℕ → Latches → List ℕ
status_registers rs l = puts rs (status_stores rs l)

abbrev pub remote_after : List ℕ → Latches → ℕ → Remote
remote_after rs l n = remote (status_at rs l n).mark (output_at rs l n)

unfoldable pub stepped_latches : List ℕ → Latches → Latches
stepped_latches rs l = latches l.chassis (status_at rs l 1).mark (remote_after rs l 2 ∷ remote_after rs l 3 ∷ [])

-- ---- the sample, with its refusals in order

abbrev pub sampled_state : State → Sample → State
sampled_state s x =
    state (status_registers (stored_readings s.registers x) s.latches)
    (stepped_latches (stored_readings s.registers x) s.latches)

unfoldable pub sample_of : State → Sample → Written
sample_of s x =
    choose (eqb (sample_answer s.registers x) 0) (written (sampled_state s x) 0)
    (written s (sample_answer s.registers x))

-- S-9: the bits of 41h and 42h that a sample latches, set already or not; none where it is refused
unfoldable pub latched_of : State → Sample → StatusBits
latched_of s x =
    choose (eqb (sample_answer s.registers x) 0)
    (status_bits (latched_byte (stored_readings s.registers x) s.latches first_byte)
    (latched_byte (stored_readings s.registers x) s.latches second_byte))
    no_bits
