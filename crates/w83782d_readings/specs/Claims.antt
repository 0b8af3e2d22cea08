-- What is claimed of the readings, of every slice and every stored byte (rules A-7, A-8; decisions D-01, D-24).
-- The definitions are those that the contracts cite (Readings.antt).
use Rattle.std.specs.Prelude.{◌≡◌, List, ◌≢◌, ℕ, pos}
use Rattle.std.specs.Result.{result_unwrap_or}
use Rattle.answers.specs.Answers as answers
use Rattle.answers.specs.Refusals.{answer_of}
use Rattle.bits.specs.Bits.{choose, is_beyond}
use Rattle.fan.specs.Speed.{speed_answer, speed_value}
use Rattle.analog.specs.Readings.{answer_for}
use Rattle.w83782d_map.specs.Map.{fits}
use Rattle.w83782d_readings.specs.Readings.{voltage_of, speed_of, temperature_of, duty_of}

-- 8 exactly for a slice that is not the registers' 112 cells, and of the registers this answer
abbrev pub sized_answer : List ℕ → ℕ → ℕ
sized_answer rs a = choose (fits rs) a answers.wrong_length

-- 7 exactly for a number that is not 1 to the last
abbrev pub answer_to : ℕ → ℕ → ℕ
answer_to last n = choose (is_beyond last n) answers.no_channel 0

-- the whole answer, 8 before 7; what is refused reads 0
pub record ReadingClaims : Type 0 where
  pub voltage : (rs : List ℕ) (n r5 r6 : ℕ) → answer_of (voltage_of rs n r5 r6) ≡ sized_answer rs (answer_for n r5 r6)
  pub no_voltage : (rs : List ℕ) (n r5 r6 : ℕ)
      → answer_of (voltage_of rs n r5 r6) ≢ 0 → result_unwrap_or (voltage_of rs n r5 r6) (pos 0) ≡ pos 0
  pub speed : (rs : List ℕ) (f : ℕ) → speed_answer (speed_of rs f) ≡ sized_answer rs (answer_to 3 f)
  pub no_speed : (rs : List ℕ) (f : ℕ) → speed_answer (speed_of rs f) ≢ 0 → speed_value (speed_of rs f) ≡ 0
  pub temperature : (rs : List ℕ) (n : ℕ) → answer_of (temperature_of rs n) ≡ sized_answer rs (answer_to 3 n)
  pub no_temperature : (rs : List ℕ) (n : ℕ)
      → answer_of (temperature_of rs n) ≢ 0 → result_unwrap_or (temperature_of rs n) (pos 0) ≡ pos 0
  pub duty : (rs : List ℕ) (n : ℕ) → answer_of (duty_of rs n) ≡ sized_answer rs (answer_to 4 n)
  pub no_duty : (rs : List ℕ) (n : ℕ) → answer_of (duty_of rs n) ≢ 0 → result_unwrap_or (duty_of rs n) 0 ≡ 0
