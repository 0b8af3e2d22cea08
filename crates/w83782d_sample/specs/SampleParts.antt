-- What the parts of the code ensure, in the words of Sample.antt.
use Rattle.std.specs.Prelude.{◌≡◌, List, [], ◌∷◌, ℕ, Result, Ok, Err, get_or}
use Rattle.std.specs.Int.Bits.{bit_or}
use Rattle.answers.specs.declared.Refusal.{Refusal}
use Rattle.bits.specs.Bits.{choose}
use Rattle.bits.specs.Stores.{◌≔◌, puts}
use Rattle.sensor.specs.Sensor.{remote, status_of, output_of}
use Rattle.sensor.specs.declared.Remote.{Remote}
use Rattle.status.specs.Status.{status_bits, no_bits}
use Rattle.status.specs.declared.StatusBits.{StatusBits}
use Rattle.w83782d_layout.specs.declared.samples.Sample.{Sample}
use Rattle.w83782d_map.specs.Map.{fits}
use Rattle.w83782d_map.specs.Cells.{interrupt_status1, interrupt_status2, real_time_status1, real_time_status2}
use Rattle.w83782d_latches.specs.declared.Latches.{Latches}
use Rattle.w83782d_bus.specs.declared.Outcome.{Outcome}
use Rattle.w83782d_bus.specs.Bus.{state}
use Rattle.w83782d_conditions.specs.declared.RemoteComparison.{RemoteComparison}
use Rattle.w83782d_sample.specs.declared.Step.{Step}
use Rattle.w83782d_sample.specs.declared.Evaluation.{Evaluation}
use Rattle.w83782d_sample.specs.Sample.{real_time_byte, latched_byte, first_byte, second_byte}
use Rattle.w83782d_sample.specs.Sample.{stepped_latches, latched_of}

-- the step of sensors 2 and 3, from what is found for it
unfoldable pub remote_step : RemoteComparison → Remote → Step
remote_step s r =
    record {
      remote =
          remote (status_of s.status.mode r.status s.status.above s.status.below).mark
          (output_of s.output r.output s.status.above s.status.below);
      latched = (status_of s.status.mode r.status s.status.above s.status.below).latched;
    }

-- what the readings stored, the marks and the real-time bits before say
pub record Evaluates (rs : List ℕ) (l : Latches) (j : Evaluation) : Type 0 where
  pub real : j.real ≡ status_bits (real_time_byte rs first_byte) (real_time_byte rs second_byte)
  pub latched : j.latched ≡ status_bits (latched_byte rs l first_byte) (latched_byte rs l second_byte)
  pub latches : j.latches ≡ stepped_latches rs l

-- the real-time bits in their cells, and the bits that are latched joined to status
unfoldable pub with_status : List ℕ → StatusBits → StatusBits → List ℕ
with_status rs real latched =
    puts rs
    ((interrupt_status1 ≔ bit_or (get_or rs interrupt_status1 0) latched.first)
    ∷ (interrupt_status2 ≔ bit_or (get_or rs interrupt_status2 0) latched.second)
    ∷ (real_time_status1 ≔ real.first)
    ∷ (real_time_status2 ≔ real.second)
    ∷ [])

abbrev pub refused_of : Latches → Refusal → Outcome StatusBits
refused_of l r = record { latches = l; answer = Err r }

-- the bits of an answer: a refused sample latches nothing
abbrev pub bits_of : Result StatusBits Refusal → StatusBits
bits_of (Ok b) = b
bits_of (Err _) = no_bits

-- in place: nothing is latched in a slice of another length
abbrev pub latched_in : List ℕ → Latches → Sample → StatusBits
latched_in rs l x = choose (fits rs) (latched_of (state rs l) x) no_bits
