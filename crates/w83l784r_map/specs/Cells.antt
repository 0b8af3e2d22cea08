-- The cell of each register by its name. Fans and sensors are numbered from 1, rails from 0.
use Rattle.std.specs.Prelude.{ℕ, ◌+◌, ◌*◌}
use Rattle.w83l784r_map.specs.Map.{at, at_upper}

-- ---- readings and limits: rails 0 to 3 (VIN1, VIN3, VIN2, VCC), fans 1 and 2, sensor 1
abbrev pub voltage : ℕ → ℕ
voltage i = at 0x20 + i

abbrev pub sensor1_value : ℕ
sensor1_value = at 0x27

abbrev pub fan_count : ℕ → ℕ
fan_count f = at 0x27 + f

abbrev pub high_limit : ℕ → ℕ
high_limit i = at 0x2B + 2 * i

abbrev pub low_limit : ℕ → ℕ
low_limit i = at 0x2C + 2 * i

abbrev pub sensor1_over : ℕ
sensor1_over = at 0x39

abbrev pub sensor1_hysteresis : ℕ
sensor1_hysteresis = at 0x3A

abbrev pub fan_limit : ℕ → ℕ
fan_limit f = at 0x3A + f

-- ---- sensors 2 and 3: seven cells from the first of the sensor's set on. Its value (00h), hysteresis (02h) and over
-- limit (03h) are named from the first of them by Limits.antt (limits)
abbrev pub set_cell : ℕ → ℕ
set_cell n = 80 + 8 * n

-- 01h
abbrev pub sensor_configuration : ℕ → ℕ
sensor_configuration c = c + 2

-- ---- offsets of sensors 1 to 3
abbrev pub offset_of : ℕ → ℕ
offset_of n = at_upper 0x8F + n

-- ---- control
abbrev pub configuration : ℕ
configuration = at 0x40

abbrev pub interrupt_status1 : ℕ
interrupt_status1 = at 0x41

abbrev pub interrupt_status2 : ℕ
interrupt_status2 = at 0x42

abbrev pub smi_mask1 : ℕ
smi_mask1 = at 0x43

abbrev pub smi_mask2 : ℕ
smi_mask2 = at 0x44

abbrev pub real_time_status1 : ℕ
real_time_status1 = at 0x45

abbrev pub real_time_status2 : ℕ
real_time_status2 = at 0x46

abbrev pub fan_divisor : ℕ
fan_divisor = at 0x49

abbrev pub bus_address : ℕ
bus_address = at 0x4A

abbrev pub sensor_addresses : ℕ
sensor_addresses = at 0x4B

abbrev pub vendor_id_low : ℕ
vendor_id_low = at 0x4C

abbrev pub vendor_id_high : ℕ
vendor_id_high = at 0x4D

abbrev pub chip_id : ℕ
chip_id = at 0x4E

abbrev pub acpi_step : ℕ
acpi_step = at 0x4F

abbrev pub ovt_control : ℕ
ovt_control = at 0x50

abbrev pub smi_control : ℕ
smi_control = at 0x51

-- ---- stored only
abbrev pub gpo_control : ℕ
gpo_control = at 0x52

abbrev pub sensor_types : ℕ
sensor_types = at 0x53

abbrev pub misc_control : ℕ
misc_control = at 0x54

abbrev pub fault_control : ℕ
fault_control = at 0x55

-- by fan, as s. 7.21 pairs them (K-27)
abbrev pub fan_fault_high : ℕ → ℕ
fan_fault_high f = at 0x54 + 2 * f

abbrev pub fan_fault_low : ℕ → ℕ
fan_fault_low f = at 0x55 + 2 * f

abbrev pub vbat_fault_high : ℕ
vbat_fault_high = at 0x5A

abbrev pub vbat_fault_low : ℕ
vbat_fault_low = at 0x5B

abbrev pub pre_scale : ℕ → ℕ
pre_scale f = at_upper 0x7E + 2 * f

abbrev pub fan_duty : ℕ → ℕ
fan_duty f = at_upper 0x7F + 2 * f

abbrev pub fan_configuration : ℕ
fan_configuration = at_upper 0x84

abbrev pub fan_target : ℕ → ℕ
fan_target f = at_upper 0x84 + f

abbrev pub tolerances : ℕ
tolerances = at_upper 0x87

abbrev pub stop_duty : ℕ → ℕ
stop_duty f = at_upper 0x87 + f

abbrev pub start_up_duty : ℕ → ℕ
start_up_duty f = at_upper 0x89 + f

abbrev pub stop_time : ℕ → ℕ
stop_time f = at_upper 0x8B + f

-- by their titles (K-28)
abbrev pub step_down_time : ℕ
step_down_time = at_upper 0x8E

abbrev pub step_up_time : ℕ
step_up_time = at_upper 0x8F
