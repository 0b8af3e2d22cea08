-- What is claimed of a sample, from every state of the monitor and for every sample, refused or not
-- (rules S-1 to S-10, T, I, O). The definitions are those that the contracts cite (w83782d_conditions:
-- Conditions.antt; w83782d_store: Stored.antt; w83782d_sample: Sample.antt; w83782d_readings: Outputs.antt).
use Rattle.std.specs.Prelude.{◌≡◌, Bool, true, false, not, ◌&&◌, ◌||◌, List, [], ◌∷◌, ◌≢◌, ◌↔◌, ℕ, ◌<◌, ◌≤◌, max, eqb, ltb, length}
use Rattle.std.specs.Bool.{xor}
use Rattle.std.specs.Int.Bits.{bit_and}
use Rattle.bits.specs.Bits.{bit, is_on, choose, flag_of}
use Rattle.bits.specs.Map.{any, bank, Span, span, among}
use Rattle.numbers.specs.TwosComplement.{half8, signed_of}
use Rattle.analog.specs.Temperature.{outside}
use Rattle.sensor.specs.Sensor.{status_of, output_of}
use Rattle.sensor.specs.declared.Status.{Status}
use Rattle.sensor.specs.declared.Output.{Output}
use Rattle.status.specs.Claims.{UnmaskedBit}
use Rattle.w83782d_layout.specs.declared.samples.Sample.{Sample}
use Rattle.w83782d_map.specs.Map.{cells, bank_at, index_at}
use Rattle.w83782d_map.specs.Cells.{bank_cell, beep_control1, beep_control2, bus_address, configuration, diode_selection}
use Rattle.w83782d_map.specs.Cells.{fan_count, fan_limit, gpo_control, interrupt_status1, interrupt_status2, ovt_property}
use Rattle.w83782d_map.specs.Cells.{pin_control, pwm_clock, real_time_status1, real_time_status2, remote_address, sensor1_value}
use Rattle.w83782d_map.specs.Cells.{sensor_configuration, smi_mask1, smi_mask2, vbat_fan_divisor, voltage}
use Rattle.w83782d_registers.specs.Registers.{reach_of}
use Rattle.w83782d_latches.specs.Effects.{remote_of}
use Rattle.w83782d_bus.specs.Bus.{State, Written, power_on, write_of, read_of}
use Rattle.w83782d_claims.specs.BusClaims.{Whole, cell_in, shown_in}
use Rattle.w83782d_claims.specs.Sampled.{halves_at, is_hotter, is_colder, is_slower, is_beside, holds_for, flag_at}
use Rattle.w83782d_store.specs.Stored.{sampled_code, sampled_halves, stored_count, is_stopped}
use Rattle.w83782d_conditions.specs.Conditions.{status_mode, output_mode}
use Rattle.w83782d_sample.specs.Sample.{Source, first_byte, second_byte, fan_cell, fan_bit, was_slow, mark_of, sample_of}
use Rattle.w83782d_sample.specs.Sample.Source.{rail, sensor, fan, chassis}
use Rattle.w83782d_readings.specs.Outputs.{smi_of}
use Rattle.w83782d_claims.specs.Alarm.{Call, state_after}
use Rattle.w83782d_claims.specs.Quiet.{are_quiet, QuietCalls}

abbrev pub after : State → Sample → State
after s x = (sample_of s x).state

-- ---- answers

-- A-3
abbrev pub is_bad : Sample → Bool
is_bad x = outside (sampled_halves x 2) || outside (sampled_halves x 3)

-- A-4
abbrev pub is_standby : State → Bool
is_standby s = is_stopped (cell_in s configuration)

-- the whole answer, 3 before 4; a refused sample leaves everything
pub record RefusedSample (s : State) (x : Sample) : Type 0 where
  pub three : eqb (sample_of s x).answer 3 ≡ is_bad x
  pub four : eqb (sample_of s x).answer 4 ≡ (not (is_bad x) && is_standby s)
  pub accepted : eqb (sample_of s x).answer 0 ≡ (not (is_bad x) && not (is_standby s))
  pub unchanged : (sample_of s x).answer ≢ 0 → after s x ≡ s

-- ---- what stays

-- the registers that a sample may change: the readings, interrupt status, sensors 2 and 3, real-time status
unfoldable pub touched : List Span
touched =
    span any 0x20 0x2A
    ∷ span any 0x41 0x42
    ∷ span (bank 1) 0x50 0x51
    ∷ span (bank 2) 0x50 0x51
    ∷ span (bank 4) 0x59 0x5A
    ∷ []

-- no sample changes any other: no limit, mask, divisor, mode, address or bank; nor the chassis latch
pub record Frame (s t : State) : Type 0 where
  pub count : length t.registers ≡ length s.registers
  pub others : (c : ℕ) → c < cells → among touched (bank_at c) (index_at c) ≡ false → cell_in t c ≡ cell_in s c
  pub chassis : t.latches.chassis ≡ s.latches.chassis

-- ---- what is stored, and the real-time bits

-- S-1: it stores the sample's own codes, temperatures and counts, the counts divided
pub record Stores (s : State) (x : Sample) : Type 0 where
  pub codes : (i : ℕ) → i < 7 → cell_in (after s x) (voltage i) ≡ sampled_code x i
  pub sensor1 : signed_of half8 (cell_in (after s x) sensor1_value) ≡ x.sensor1
  pub remote : (n : ℕ) → 2 ≤ n → n ≤ 3 → halves_at (after s x).registers (bank_cell n) ≡ sampled_halves x n
  pub counts : (f : ℕ) → 1 ≤ f → f ≤ 3 → cell_in (after s x) (fan_count f) ≡ stored_count s.registers x f

-- S-9: after an accepted sample each real-time bit is its condition (bit 4 of 5Ah is
-- stored as 0, and read as the latch)
pub record RealTime (s : State) (x : Sample) : Type 0 where
  pub first : (j : ℕ) → bit (cell_in (after s x) real_time_status1) j ≡ flag_at (holds_for s.registers x) first_byte j
  pub second : (j : ℕ) → bit (cell_in (after s x) real_time_status2) j ≡ flag_at (holds_for s.registers x) second_byte j

-- an accepted sample rings fan f exactly when its count after division is above its limit
abbrev pub FanRings : State → Sample → Type 0
FanRings s x =
    (f : ℕ) → 1 ≤ f → f ≤ 3 → bit (cell_in (after s x) (fan_cell f)) (fan_bit f)
    ≡ flag_of (ltb (cell_in s (fan_limit f)) (stored_count s.registers x f))

-- ---- status

-- one step of a sensor's status mark and of its OVT output, each from the mark that it has
unfoldable pub status_for : State → Sample → ℕ → Status
status_for s x n =
    status_of (status_mode s.registers n) (mark_of s.latches n) (is_hotter s.registers x n)
    (is_colder s.registers x n)

unfoldable pub output_for : State → Sample → ℕ → Output
output_for s x n =
    output_of (output_mode s.registers n) (remote_of s.latches n).output
    (is_hotter s.registers x n) (is_colder s.registers x n)

-- S-9: voltages latch where their condition is true, fans where it differs from the real-time bit that the sample
-- before left (02, C-14), temperatures by their step, and no sample the chassis
abbrev pub latches_for : State → Sample → Source → Bool
latches_for s x (rail i) = is_beside s.registers x i
latches_for s x (sensor n) = (status_for s x n).latched
latches_for s x (fan f) = xor (is_slower s.registers x f) (was_slow s.registers f)
latches_for s x chassis = false

-- an accepted sample clears no status bit, and sets exactly those that it latches
pub record StatusOr (s : State) (x : Sample) : Type 0 where
  pub first : (j : ℕ) → bit (cell_in (after s x) interrupt_status1) j
      ≡ max (bit (cell_in s interrupt_status1) j) (flag_at (latches_for s x) first_byte j)
  pub second : (j : ℕ) → bit (cell_in (after s x) interrupt_status2) j
      ≡ max (bit (cell_in s interrupt_status2) j) (flag_at (latches_for s x) second_byte j)

-- ---- C-14: fans latch on crossings, in the words of their bits, and of `latches_for` where other calls come between

-- a fan's bit of 41h or 42h, at the place that its real-time bit has in 59h or 5Ah
abbrev pub fan_status_bit : State → ℕ → ℕ
fan_status_bit s f = bit (cell_in s (choose (eqb f 3) interrupt_status2 interrupt_status1)) (fan_bit f)

-- its bit of 59h or 5Ah, in the cell: `real_time_bit` (Alarm.antt) is that bit as the bus shows it
abbrev pub fan_real_time_bit : State → ℕ → ℕ
fan_real_time_bit s f = bit (cell_in s (fan_cell f)) (fan_bit f)

-- whether a fan's real-time bit differs in two states
abbrev pub has_changed : State → State → ℕ → Bool
has_changed s t f = not (eqb (fan_real_time_bit t f) (fan_real_time_bit s f))

-- the first accepted sample after a state, with no reset in between, latches exactly the fans that are slow at it
abbrev pub FirstSample : State → Type 0
FirstSample s =
    (since : List Call) → are_quiet s since ≡ true → (y : Sample) (f : ℕ) → 1 ≤ f → f ≤ 3
    → latches_for (state_after s since) y (fan f) ≡ is_slower (state_after s since).registers y f

pub record Crossings (s : State) (x : Sample) : Type 0 where
  -- the status bits: 6 and 7 of 41h, 3 of 42h
  pub fan1 : fan_status_bit s 1 ≡ bit (cell_in s interrupt_status1) 6
  pub fan2 : fan_status_bit s 2 ≡ bit (cell_in s interrupt_status1) 7
  pub fan3 : fan_status_bit s 3 ≡ bit (cell_in s interrupt_status2) 3
  -- an accepted sample sets a fan's status bit where its real-time bit changes, and leaves it where it doesn't
  pub changed : (sample_of s x).answer ≡ 0 → (f : ℕ) → 1 ≤ f → f ≤ 3
      → fan_status_bit (after s x) f ≡ choose (has_changed s (after s x) f) 1 (fan_status_bit s f)
  -- of two in a row: a status bit that was clear is set exactly where one of them changed the real-time bit
  pub twice : (sample_of s x).answer ≡ 0 → (y : Sample) → (sample_of (after s x) y).answer ≡ 0 → (f : ℕ) → 1 ≤ f → f ≤ 3
      → fan_status_bit s f ≡ 0 → fan_status_bit (after (after s x) y) f
      ≡ flag_of (has_changed s (after s x) f || has_changed (after s x) (after (after s x) y) f)
  -- quiet calls, all but an accepted sample and a reset, leave a fan's real-time bit
  pub quiet : QuietCalls s
  pub leaves : (since : List Call) → are_quiet s since ≡ true → (f : ℕ)
      → fan_real_time_bit (state_after s since) f ≡ fan_real_time_bit s f
  -- so after an accepted sample and any such calls, an accepted sample that finds the fan slow, or not slow, as that one
  -- did latches nothing of it
  pub same_side : (sample_of s x).answer ≡ 0 → (since : List Call) → are_quiet (after s x) since ≡ true
      → (y : Sample) (f : ℕ) → 1 ≤ f → f ≤ 3
      → is_slower (state_after (after s x) since).registers y f ≡ is_slower s.registers x f
      → latches_for (state_after (after s x) since) y (fan f) ≡ false
  -- and after a reset or power-on and any such calls, an accepted sample latches exactly the slow fans
  pub after_reset : (v : ℕ) → is_on v 7 ≡ true → FirstSample (write_of s 0x40 v).state
  pub after_power_on : FirstSample power_on

-- each latch and mark after an accepted sample
pub record LatchesAfter (s : State) (x : Sample) : Type 0 where
  pub chassis : (after s x).latches.chassis ≡ s.latches.chassis
  pub sensor1 : (after s x).latches.sensor1 ≡ (status_for s x 1).mark
  pub status : (n : ℕ) → 2 ≤ n → n ≤ 3 → (remote_of (after s x).latches n).status ≡ (status_for s x n).mark
  pub output : (n : ℕ) → 2 ≤ n → n ≤ 3 → (remote_of (after s x).latches n).output.mark ≡ (output_for s x n).mark
  pub asserted : (n : ℕ) → 2 ≤ n → n ≤ 3 → (remote_of (after s x).latches n).output.asserted ≡ (output_for s x n).asserted

-- ---- SMI
abbrev pub smi_in : State → Bool
smi_in s = smi_of s.registers s.latches.chassis

-- a bit of 41h or 42h, as a read shows them, that is set and not masked
abbrev pub UnmaskedIn : State → Type 0
UnmaskedIn s =
    UnmaskedBit (shown_in s interrupt_status1) (cell_in s smi_mask1) (shown_in s interrupt_status2) (cell_in s smi_mask2)

-- I-4
pub record Asserts (s : State) : Type 0 where
  pub enabled : bit (cell_in s configuration) 1 ≡ 1
  pub running : bit (cell_in s configuration) 3 ≡ 0
  pub alarm : UnmaskedIn s

abbrev pub SmiExactly : State → Type 0
SmiExactly s = (smi_in s ≡ true) ↔ Asserts s

-- I-5: the byte that a read of 40h shows is written back with bit 0 cleared
abbrev pub standby_of : State → Written
standby_of s = write_of s 0x40 (bit_and (shown_in s configuration) 0b1111_1110)

-- that bit changes and nothing else, and SMI is as it was
pub record Standby (s : State) : Type 0 where
  pub accepted : (standby_of s).answer ≡ 0
  pub bits : (c j : ℕ) → j < 8
      → bit (cell_in (standby_of s).state c) j ≡ choose (eqb c configuration && eqb j 0) 0 (bit (cell_in s c) j)
  pub latches : (standby_of s).state.latches ≡ s.latches
  pub stops : is_standby (standby_of s).state ≡ true
  pub smi : smi_in (standby_of s).state ≡ smi_in s

-- ---- M-9: bits without a rule are stored only

-- the bits of a register that no rule names
unfoldable pub ruleless : ℕ → ℕ
ruleless c =
    choose (eqb c configuration) 0b0100_0000  -- 40h bit 6
    (choose (eqb c bus_address) 0b1111_1111  -- the bus address: no event goes by it
    (choose (eqb c remote_address) 0b1111_1111
    (choose (eqb c pin_control) 0b0011_1100  -- bits 5-2: 7-6 are fan 3's divisor
    (choose (eqb c ovt_property) 0b0001_1100  -- 4Ch bits 4-2: bit 6 is a mode
    (choose (eqb c gpo_control) 0b1111_1111
    (choose (eqb c beep_control1) 0b1111_1111
    (choose (eqb c beep_control2) 0b1111_1111
    (choose (eqb c diode_selection) 0b1111_1111
    (choose (eqb c pwm_clock) 0b1111_1111
    (choose (eqb c vbat_fan_divisor) 0b0000_1111  -- bits 3-0: 7-5 are divisor bits
    (choose (eqb c (sensor_configuration (bank_cell 2))) 0b0001_1001  -- 52h of bank 1 bits 4, 3, 0: bit 1 is a mode
    (choose (eqb c (sensor_configuration (bank_cell 3))) 0b0001_1001  -- and of bank 2
    0))))))))))))

-- two states that differ in those bits alone
pub record Alike (s t : State) : Type 0 where
  pub bits : (c j : ℕ) → c < cells → j < 8 → is_on (ruleless c) j ≡ false → bit (cell_in s c) j ≡ bit (cell_in t c) j
  pub latches : s.latches ≡ t.latches

-- a read is answered alike, leaves them alike, OVT released in both or in neither, and
-- shows the same in every other bit
pub record ReadAlike (s t : State) (i : ℕ) : Type 0 where
  pub answer : (read_of s i).answer ≡ (read_of t i).answer
  pub left : Alike (read_of s i).state (read_of t i).state
  pub shown : (j : ℕ) → j < 8 → is_on (ruleless (reach_of s.registers i)) j ≡ false
      → bit (read_of s i).byte j ≡ bit (read_of t i).byte j

-- a sample is answered alike, leaves them alike, and leaves those bits; SMI is the same
-- before and after; and so of reads
pub record StoredOnly (s t : State) (x : Sample) : Type 0 where
  pub answer : (sample_of s x).answer ≡ (sample_of t x).answer
  pub left : Alike (after s x) (after t x)
  pub stays : (c j : ℕ) → c < cells → j < 8 → is_on (ruleless c) j ≡ true
      → bit (cell_in (after s x) c) j ≡ bit (cell_in s c) j
  pub smi : smi_in s ≡ smi_in t
  pub smi_after : smi_in (after s x) ≡ smi_in (after t x)
  pub reads : (i : ℕ) → ReadAlike s t i

-- ---- all of it, of one sample as its type holds it: sensor 1 is a signed byte, so nothing is asked of it
pub record SampleClaims (s : State) (x : Sample) : Type 0 where
  pub refused : RefusedSample s x
  pub frame : Frame s (after s x)
  pub stores : (sample_of s x).answer ≡ 0 → Stores s x
  pub fan_rings : (sample_of s x).answer ≡ 0 → FanRings s x
  pub real_time : (sample_of s x).answer ≡ 0 → RealTime s x
  pub status_or : (sample_of s x).answer ≡ 0 → StatusOr s x
  pub crossings : Crossings s x
  pub latches_after : (sample_of s x).answer ≡ 0 → LatchesAfter s x
  -- of the state that it finds
  pub smi_exactly : SmiExactly s
  pub standby : Standby s
  -- and of every other state that differs in stored bits alone
  pub stored_only : (t : State) → Whole t → Alike s t → StoredOnly s t x
