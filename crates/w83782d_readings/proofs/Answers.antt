-- The answers of the readings: of the registers a speed by its test, temperatures and
-- duties number by number; of any slice by its length. Assumes nothing.
use mathlib.Core.Path.{◌≡◌, refl, ◌∙◌}
use mathlib.Core.Bool.{Bool, true, false}
use mathlib.Core.List.{List}
use mathlib.Core.Logic.{◌≢◌}
use Prim.Native.Nat.{ℕ, zero, suc, ◌*◌}
use native.Mathlib.Omega.{arith}
use borrow.Author.Tests.{ne_eqb, lt-ltb, le-ltb}
use lib.Dec.{eqb}
use lib.IntN.{ℤ, pos}
use lib.ListN.{get_or}
use Rattle.bits.specs.Bits.{choose, is_beyond}
use Rattle.numbers.specs.Rounding.{nearest}
use Rattle.fan.specs.Count.{value_of}
use Rattle.fan.specs.Speed as fan
use Rattle.fan.specs.declared.Speed.{Speed}
use Rattle.fan.specs.declared.Speed.TheVariants as speed
use Rattle.std.specs.Prelude.{Option, Some, None, Result, Ok, Err, ok_or}
use Rattle.std.specs.Result.{result_unwrap_or}
use Rattle.answers.specs.declared.Refusal.{Refusal}
use Rattle.answers.specs.declared.Refusal.TheVariants.{NoChannel, WrongLength}
use Rattle.answers.specs.Refusals.{answer_of}
use Rattle.analog.specs.Readings.{reading_answer, millivolts_of, answer_for}
use Rattle.analog.proofs.voltages.Voltages.{answers_hold}
use Rattle.w83782d_map.specs.Map.{fits}
use Rattle.w83782d_store.specs.Stored.{divisor_of}
use Rattle.w83782d_map.specs.Cells.{fan_count, voltage}
use Rattle.w83782d_readings.specs.Readings.{voltage_at, speed_at, temperature_at, duty_at}
use Rattle.w83782d_readings.specs.Readings.{voltage_of, speed_of, temperature_of, duty_of}
use Rattle.w83782d_readings.specs.Claims.{sized_answer, answer_to, ReadingClaims}

-- ---- speeds: a count's own reading is never refused
never : (count d : ℕ) → fan.speed_answer (fan.count_speed count d) ≡ 0
unfolding fan.count_speed
never count d = go (eqb count 0) (eqb count 255) (nearest fan.per_tenth (count * d))
  where
    go : (s t : Bool) (n : ℕ) → fan.speed_answer (choose s speed.TooFast (choose t speed.TooSlow (speed.Tenths n))) ≡ 0
    go true t n = refl
    go false true n = refl
    go false false n = refl

speed_at_law : (rs : List ℕ) (f : ℕ) → fan.speed_answer (speed_at rs f) ≡ answer_to 3 f
unfolding speed_at
speed_at_law rs f = go (is_beyond 3 f)
  where
    go : (t : Bool)
        → fan.speed_answer (choose t (speed.Refused NoChannel) (fan.count_speed (get_or rs (fan_count f) 0) (value_of (divisor_of rs f))))
        ≡ choose t 7 0
    go true = refl
    go false = never (get_or rs (fan_count f) 0) (value_of (divisor_of rs f))

-- ---- temperatures and duties
temperature_at_law : (rs : List ℕ) (n : ℕ) → answer_of (temperature_at rs n) ≡ answer_to 3 n
unfolding temperature_at
temperature_at_law rs zero = refl
temperature_at_law rs (suc zero) = refl
temperature_at_law rs (suc (suc zero)) = refl
temperature_at_law rs (suc (suc (suc zero))) = refl
temperature_at_law rs (suc (suc (suc (suc k)))) =
    let n = suc (suc (suc (suc k))) in
    simp (
      le-ltb n 1 (omega arith),
      lt-ltb 3 n (omega arith),
      ne_eqb n 1 (λ e. omega arith),
      ne_eqb n 2 (λ e. omega arith),
      ne_eqb n 3 (λ e. omega arith),
    )

duty_at_law : (rs : List ℕ) (n : ℕ) → answer_of (duty_at rs n) ≡ answer_to 4 n
unfolding duty_at
duty_at_law rs zero = refl
duty_at_law rs (suc zero) = refl
duty_at_law rs (suc (suc zero)) = refl
duty_at_law rs (suc (suc (suc zero))) = refl
duty_at_law rs (suc (suc (suc (suc zero)))) = refl
duty_at_law rs (suc (suc (suc (suc (suc k))))) =
    let n = suc (suc (suc (suc (suc k)))) in
    simp (
      le-ltb n 1 (omega arith),
      lt-ltb 4 n (omega arith),
      ne_eqb n 1 (λ e. omega arith),
      ne_eqb n 2 (λ e. omega arith),
      ne_eqb n 3 (λ e. omega arith),
      ne_eqb n 4 (λ e. omega arith),
    )

-- ---- any slice: 8 before these
sized_answer_law : {A : Type 0} (t : Bool) (x : Result A Refusal) (a : ℕ) → answer_of x ≡ a
    → answer_of (choose t x (Err WrongLength)) ≡ choose t a 8
sized_answer_law true x a e = e
sized_answer_law false x a e = refl

-- a voltage's answer is that of its millivolts
option_answer : (o : Option ℤ) → answer_of (ok_or o NoChannel) ≡ reading_answer o
option_answer (Some z) = refl
option_answer None = refl

module _ (rs : List ℕ) (n : ℕ) where
  voltage_answer : (r5 r6 : ℕ) → answer_of (voltage_of rs n r5 r6) ≡ sized_answer rs (answer_for n r5 r6)
  unfolding voltage_of
  voltage_answer r5 r6 =
      let o = millivolts_of n (get_or rs (voltage n) 0) r5 r6 in
      sized_answer_law (fits rs) (voltage_at rs n r5 r6) (answer_for n r5 r6)
      (option_answer o ∙ answers_hold.exactly n (get_or rs (voltage n) 0) r5 r6)

  speed_answer_law : fan.speed_answer (speed_of rs n) ≡ sized_answer rs (answer_to 3 n)
  unfolding speed_of
  speed_answer_law = go (fits rs)
    where
      go : (t : Bool)
          → fan.speed_answer (choose t (speed_at rs n) (speed.Refused WrongLength)) ≡ choose t (answer_to 3 n) 8
      go true = speed_at_law rs n
      go false = refl

  temperature_answer : answer_of (temperature_of rs n) ≡ sized_answer rs (answer_to 3 n)
  unfolding temperature_of
  temperature_answer = sized_answer_law (fits rs) (temperature_at rs n) (answer_to 3 n) (temperature_at_law rs n)

  duty_answer : answer_of (duty_of rs n) ≡ sized_answer rs (answer_to 4 n)
  unfolding duty_of
  duty_answer = sized_answer_law (fits rs) (duty_at rs n) (answer_to 4 n) (duty_at_law rs n)

-- ---- what is refused reads 0
refused : {A : Type 0} (none : A) (r : Result A Refusal) → answer_of r ≢ 0 → result_unwrap_or r none ≡ none
refused none (Ok a) e = absurd (e refl)
refused none (Err r) e = refl

refused_speed : (s : Speed) → fan.speed_answer s ≢ 0 → fan.speed_value s ≡ 0
refused_speed (speed.Tenths n) e = absurd (e refl)
refused_speed speed.TooFast e = refl
refused_speed speed.TooSlow e = refl
refused_speed (speed.Refused r) e = refl

pub reading_claims : ReadingClaims
reading_claims =
    record {
      voltage = λ rs n r5 r6. voltage_answer rs n r5 r6;
      no_voltage = λ rs n r5 r6 e. refused (pos 0) (voltage_of rs n r5 r6) e;
      speed = speed_answer_law;
      no_speed = λ rs f e. refused_speed (speed_of rs f) e;
      temperature = temperature_answer;
      no_temperature = λ rs n e. refused (pos 0) (temperature_of rs n) e;
      duty = duty_answer;
      no_duty = λ rs n e. refused 0 (duty_of rs n) e;
    }
