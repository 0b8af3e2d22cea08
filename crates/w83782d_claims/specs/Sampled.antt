-- The conditions of a sample's own values, under the limits and divisors in the registers before
-- it (rules S-5 to S-7). They ask for no state, so that what has none, such as the description
-- of a history, can say them too. Rails are numbered 0 to 6, sensors and fans 1 to 3.
use Rattle.std.specs.Prelude.{Bool, false, ◌||◌, List, map, ℕ, eqb, ltb, ℤ, get_or}
use Rattle.std.specs.Int.Signed.{lt_z}
use Rattle.bits.specs.Bits.{choose, flag_of}
use Rattle.numbers.specs.TwosComplement.{half8, half9, signed_of}
use Rattle.analog.specs.Temperature.{nine_bits}
use Rattle.limits.specs.Limits.{low_byte, sensor_hysteresis, sensor_over}
use Rattle.w83782d_layout.specs.declared.samples.Sample.{Sample}
use Rattle.w83782d_map.specs.Cells.{bank_cell, fan_limit, high_limit, low_limit, sensor1_hysteresis, sensor1_over}
use Rattle.w83782d_store.specs.Stored.{sampled_code, sampled_halves, stored_count}
use Rattle.w83782d_sample.specs.Sample.{Source}
use Rattle.w83782d_sample.specs.Sample.Source.{rail, sensor, fan, chassis}

-- a sensor's temperature, over limit and hysteresis, two's complement: sensor 1 whole degrees, 2 and 3 half degrees
abbrev pub sampled_temperature : Sample → ℕ → ℤ
sampled_temperature x n = choose (eqb n 1) x.sensor1 (sampled_halves x n)

abbrev pub halves_at : List ℕ → ℕ → ℤ
halves_at rs c = signed_of half9 (nine_bits (get_or rs c 0) (get_or rs (low_byte c) 0))

abbrev pub sensor_limit : List ℕ → ℕ → ℤ
sensor_limit rs n = choose (eqb n 1) (signed_of half8 (get_or rs sensor1_over 0)) (halves_at rs (sensor_over (bank_cell n)))

abbrev pub hysteresis : List ℕ → ℕ → ℤ
hysteresis rs n =
    choose (eqb n 1) (signed_of half8 (get_or rs sensor1_hysteresis 0)) (halves_at rs (sensor_hysteresis (bank_cell n)))

-- S-6: above its over limit, below its hysteresis
unfoldable pub is_hotter : List ℕ → Sample → ℕ → Bool
is_hotter rs x n = lt_z (sensor_limit rs n) (sampled_temperature x n)

unfoldable pub is_colder : List ℕ → Sample → ℕ → Bool
is_colder rs x n = lt_z (sampled_temperature x n) (hysteresis rs n)

-- S-7: the count after division is above its limit
unfoldable pub is_slower : List ℕ → Sample → ℕ → Bool
is_slower rs x f = ltb (get_or rs (fan_limit f) 0) (stored_count rs x f)

-- house, S-5: above its high or below its low limit; equal is fine
unfoldable pub is_beside : List ℕ → Sample → ℕ → Bool
is_beside rs x i = ltb (get_or rs (high_limit i) 0) (sampled_code x i) || ltb (sampled_code x i) (get_or rs (low_limit i) 0)

abbrev pub holds_for : List ℕ → Sample → Source → Bool
holds_for rs x (rail i) = is_beside rs x i
holds_for rs x (sensor n) = is_hotter rs x n
holds_for rs x (fan f) = is_slower rs x f
holds_for rs x chassis = false

-- the flag of bit j of a byte
abbrev pub flag_at : (Source → Bool) → List Source → ℕ → ℕ
flag_at f b j = flag_of (get_or (map f b) j false)
