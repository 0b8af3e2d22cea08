-- Readings of the stored values (rules R-1 to R-4).
use Rattle.std.specs.Prelude.{List, ℕ, eqb, ℤ, get_or, Result, Ok, Err, ok_or}
use Rattle.answers.specs.declared.Refusal.{Refusal}
use Rattle.answers.specs.declared.Refusal.TheVariants.{NoChannel, WrongLength}
use Rattle.bits.specs.Bits.{choose, is_beyond}
use Rattle.fan.specs.Count.{value_of}
use Rattle.fan.specs.Speed as fan
use Rattle.fan.specs.declared.Speed.{Speed}
use Rattle.fan.specs.declared.Speed.TheVariants as speed
use Rattle.analog.specs.Readings.{millivolts_of}
use Rattle.numbers.specs.TwosComplement.{half9, signed_of}
use Rattle.analog.specs.Temperature.{nine_bits}
use Rattle.limits.specs.Limits.{low_byte}
use Rattle.analog.specs.Pwm.{pwm_parts}
use Rattle.w83782d_map.specs.Map.{fits}
use Rattle.w83782d_store.specs.Stored.{divisor_of}
use Rattle.w83782d_map.specs.Cells.{bank_cell, fan_count, pwm_duty1, pwm_duty2, pwm_duty3, pwm_duty4, sensor1_value, voltage}

-- ---- the readings of the registers

-- the millivolts of the code stored for a channel
abbrev pub voltage_at : List ℕ → ℕ → ℕ → ℕ → Result ℤ Refusal
voltage_at rs channel r5 r6 = ok_or (millivolts_of channel (get_or rs (voltage channel) 0) r5 r6) NoChannel

-- R-2: by the stored count and the divisor now set; a fan other than 1 to 3 is answered 7
unfoldable pub speed_at : List ℕ → ℕ → Speed
speed_at rs f =
    choose (is_beyond 3 f) (speed.Refused NoChannel)
    (fan.count_speed (get_or rs (fan_count f) 0) (value_of (divisor_of rs f)))

-- half degrees of nine bits; sensor 1's whole degrees are eight bits, and no half below them
abbrev pub half_degrees : ℕ → ℕ → ℤ
half_degrees high low = signed_of half9 (nine_bits high low)

-- a sensor other than 1 to 3 is answered 7, as a fan is. decision D-48
unfoldable pub temperature_at : List ℕ → ℕ → Result ℤ Refusal
temperature_at rs n =
    choose (eqb n 1) (Ok (half_degrees (get_or rs sensor1_value 0) 0))
    (choose (eqb n 2)
    (Ok (half_degrees (get_or rs (bank_cell 2) 0) (get_or rs (low_byte (bank_cell 2)) 0)))
    (choose (eqb n 3)
    (Ok (half_degrees (get_or rs (bank_cell 3) 0) (get_or rs (low_byte (bank_cell 3)) 0)))
    (Err NoChannel)))

-- R-3: outputs 1 to 4 are 5Bh, 5Ah, 5Eh, 5Fh; any other is answered 7. decision D-24
unfoldable pub duty_at : List ℕ → ℕ → Result ℕ Refusal
duty_at rs n =
    choose (eqb n 1) (Ok (pwm_parts (get_or rs pwm_duty1 0)))
    (choose (eqb n 2) (Ok (pwm_parts (get_or rs pwm_duty2 0)))
    (choose (eqb n 3) (Ok (pwm_parts (get_or rs pwm_duty3 0)))
    (choose (eqb n 4) (Ok (pwm_parts (get_or rs pwm_duty4 0)))
    (Err NoChannel))))

-- ---- and of any slice: one that is not the registers' 112 cells is refused as 8, before 7. decision D-01
unfoldable pub voltage_of : List ℕ → ℕ → ℕ → ℕ → Result ℤ Refusal
voltage_of rs channel r5 r6 = choose (fits rs) (voltage_at rs channel r5 r6) (Err WrongLength)

unfoldable pub speed_of : List ℕ → ℕ → Speed
speed_of rs f = choose (fits rs) (speed_at rs f) (speed.Refused WrongLength)

unfoldable pub temperature_of : List ℕ → ℕ → Result ℤ Refusal
temperature_of rs n = choose (fits rs) (temperature_at rs n) (Err WrongLength)

unfoldable pub duty_of : List ℕ → ℕ → Result ℕ Refusal
duty_of rs n = choose (fits rs) (duty_at rs n) (Err WrongLength)
