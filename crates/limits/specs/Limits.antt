-- Readings against their limits, by the cells that hold them: a rail has three cells, a
-- fan two, a sensor of nine bits seven.
use Rattle.std.specs.Prelude.{Bool, ◌||◌, List, ℕ, ◌+◌, ltb, get_or}
use Rattle.fan.specs.Count.{over_limit}
use Rattle.numbers.specs.TwosComplement.{half8, half9, level_of}
use Rattle.analog.specs.Temperature.{nine_bits}

-- ---- a rail by its value and its two limits: above the high or below the low one; equal is fine
abbrev pub outside_at : List ℕ → ℕ → ℕ → ℕ → Bool
outside_at rs value high low = ltb (get_or rs high 0) (get_or rs value 0) || ltb (get_or rs value 0) (get_or rs low 0)

-- ---- a fan by its count and its limit
abbrev pub slow_at : List ℕ → ℕ → ℕ → Bool
slow_at rs count limit = over_limit (get_or rs count 0) (get_or rs limit 0)

-- ---- a sensor of nine bits, by the first of its seven cells: value, a byte of configuration, hysteresis, over limit
-- the low byte follows the high byte
abbrev pub low_byte : ℕ → ℕ
low_byte c = c + 1

abbrev pub sensor_hysteresis : ℕ → ℕ
sensor_hysteresis c = c + 3

abbrev pub sensor_over : ℕ → ℕ
sensor_over c = c + 5

-- temperatures as levels, which compare as the signed numbers do: a byte, and nine bits from a cell
abbrev pub whole_level_at : List ℕ → ℕ → ℕ
whole_level_at rs c = level_of half8 (get_or rs c 0)

abbrev pub half_level_at : List ℕ → ℕ → ℕ
half_level_at rs c = level_of half9 (nine_bits (get_or rs c 0) (get_or rs (low_byte c) 0))

abbrev pub above_at : List ℕ → ℕ → Bool
above_at rs c = ltb (half_level_at rs (sensor_over c)) (half_level_at rs c)

abbrev pub below_at : List ℕ → ℕ → Bool
below_at rs c = ltb (half_level_at rs c) (half_level_at rs (sensor_hysteresis c))
