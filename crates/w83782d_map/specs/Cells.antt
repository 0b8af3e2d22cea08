-- The cell of each register by its name (rule M-1).
use Rattle.std.specs.Prelude.{ℕ, ◌+◌, ◌*◌, eqb}
use Rattle.bits.specs.Bits.{choose}
use Rattle.w83782d_map.specs.Map.{at, at_bank}

-- ---- readings and limits: rails 0 to 6, fans 1 to 3, sensor 1
abbrev pub voltage : ℕ → ℕ
voltage i = at 0x20 + i

abbrev pub sensor1_value : ℕ
sensor1_value = at 0x27

abbrev pub fan_count : ℕ → ℕ
fan_count f = at 0x27 + f

abbrev pub high_limit : ℕ → ℕ
high_limit i = at 0x2B + 2 * i

abbrev pub low_limit : ℕ → ℕ
low_limit i = at 0x2C + 2 * i

abbrev pub sensor1_over : ℕ
sensor1_over = at 0x39

abbrev pub sensor1_hysteresis : ℕ
sensor1_hysteresis = at 0x3A

abbrev pub fan_limit : ℕ → ℕ
fan_limit f = at 0x3A + f

-- ---- sensors 2 and 3: seven cells from 50h of the sensor's bank on. Its value (50h, 51h), hysteresis
-- (53h, 54h) and over limit (55h, 56h) are named from the first of them by Limits.antt (limits)
abbrev pub bank_cell : ℕ → ℕ
bank_cell n = choose (eqb n 2) (at_bank 1 0x50) (at_bank 2 0x50)

-- 52h
abbrev pub sensor_configuration : ℕ → ℕ
sensor_configuration c = c + 2

-- ---- the others
abbrev pub configuration : ℕ
configuration = at 0x40

abbrev pub interrupt_status1 : ℕ
interrupt_status1 = at 0x41

abbrev pub interrupt_status2 : ℕ
interrupt_status2 = at 0x42

abbrev pub smi_mask1 : ℕ
smi_mask1 = at 0x43

abbrev pub smi_mask2 : ℕ
smi_mask2 = at 0x44

abbrev pub chassis_clear : ℕ
chassis_clear = at 0x46

abbrev pub vid_fan_divisor : ℕ
vid_fan_divisor = at 0x47

abbrev pub bus_address : ℕ
bus_address = at 0x48

abbrev pub device_id : ℕ
device_id = at 0x49

abbrev pub remote_address : ℕ
remote_address = at 0x4A

abbrev pub pin_control : ℕ
pin_control = at 0x4B

abbrev pub ovt_property : ℕ
ovt_property = at 0x4C

abbrev pub gpo_control : ℕ
gpo_control = at 0x4D

abbrev pub bank_select : ℕ
bank_select = at 0x4E

abbrev pub vendor_id : ℕ
vendor_id = at 0x4F

abbrev pub beep_control1 : ℕ
beep_control1 = at 0x56

abbrev pub beep_control2 : ℕ
beep_control2 = at 0x57

abbrev pub chip_id : ℕ
chip_id = at 0x58

abbrev pub diode_selection : ℕ
diode_selection = at 0x59

abbrev pub pwm_duty2 : ℕ
pwm_duty2 = at 0x5A

abbrev pub pwm_duty1 : ℕ
pwm_duty1 = at 0x5B

abbrev pub pwm_clock : ℕ
pwm_clock = at 0x5C

abbrev pub vbat_fan_divisor : ℕ
vbat_fan_divisor = at 0x5D

abbrev pub pwm_duty3 : ℕ
pwm_duty3 = at 0x5E

abbrev pub pwm_duty4 : ℕ
pwm_duty4 = at 0x5F

abbrev pub real_time_status1 : ℕ
real_time_status1 = at_bank 4 0x59

abbrev pub real_time_status2 : ℕ
real_time_status2 = at_bank 4 0x5A
