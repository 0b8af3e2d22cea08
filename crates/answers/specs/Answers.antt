-- The answer numbers (rules A-0 to A-9, A-12): every call is answered by one of them, 0 where it is accepted.
use Rattle.std.specs.Prelude.{ℕ}

-- A-1: no register at the index, or its bank is absent
abbrev pub absent : ℕ
absent = 1

-- A-2: a register without a writable bit
abbrev pub read_only : ℕ
read_only = 2

-- A-3: sensor 2 or 3 out of range
abbrev pub bad_temperature : ℕ
bad_temperature = 3

-- A-4: samples are stopped
abbrev pub stopped : ℕ
stopped = 4

-- A-5: no record
abbrev pub bad_record : ℕ
bad_record = 5

-- A-6: no plan for the speed
abbrev pub bad_speed : ℕ
bad_speed = 6

-- A-7: no such fan, sensor, output or voltage, or a resistor out of range
abbrev pub no_channel : ℕ
no_channel = 7

-- A-8: a buffer, slice, image or list of codes of another length
abbrev pub wrong_length : ℕ
wrong_length = 8

-- A-9: a bus write to the offset of a temperature
abbrev pub offset_locked : ℕ
offset_locked = 9

-- A-12: a whole record after those of a day
abbrev pub day_full : ℕ
day_full = 12
