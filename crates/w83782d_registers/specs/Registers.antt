-- Which register an access reaches, what power-on and reset give every cell, commands,
-- the OVT mode, and what a read shows (rules M-2, M-3, M-5 to M-8, O-1).
use Rattle.std.specs.Prelude.{Bool, ◌&&◌, ◌||◌, List, ℕ, ◌-◌, ltb, leb, eqb, get_or}
use Rattle.std.specs.Int.Bits.{bit_and, bit_or}
use Rattle.bits.specs.Bits.{choose, is_on}
use Rattle.bits.specs.Map.{power_on_cells, reset_cells}
use Rattle.w83782d_map.specs.Map.{cells, at, at_bank, power_on_at, kept_at}
use Rattle.w83782d_map.specs.Cells.{bank_cell, bank_select, chassis_clear, chip_id, configuration, device_id}
use Rattle.w83782d_map.specs.Cells.{interrupt_status2, real_time_status2, sensor_configuration, vendor_id, vid_fan_divisor}

-- ---- which register an access reaches

-- M-3: the bank is 4Eh bits 2-0
abbrev pub bank_of : List ℕ → ℕ
bank_of rs = bit_and (get_or rs bank_select 0) 0b0000_0111

-- M-2: 60h to 7Fh are 20h to 3Fh; M-3: only 50h to 5Fh look at the bank; A-1: below 20h and above 7Fh there is none
unfoldable pub cell_of : ℕ → ℕ → ℕ
cell_of b i =
    choose (ltb i 0x20) cells
    (choose (ltb 0x7F i) cells
    (choose (leb 0x60 i) (at (i - 0x40))
    (choose (ltb i 0x50) (at i)
    (at_bank b i))))

abbrev pub reach_of : List ℕ → ℕ → ℕ
reach_of rs i = cell_of (bank_of rs) i

-- ---- power-on and reset of the registers

unfoldable pub power_on_registers : List ℕ
power_on_registers = power_on_cells cells power_on_at

-- house, M-8: a reset restores all but 48h and the stored readings. decision D-08
unfoldable pub reset_registers : List ℕ → List ℕ
reset_registers rs = reset_cells cells power_on_at kept_at rs

-- ---- commands

-- bit 7 of 40h and of 46h is a command
abbrev pub is_command : ℕ → ℕ → Bool
is_command c v = (eqb c configuration || eqb c chassis_clear) && is_on v 7

-- ---- O-1: the OVT mode of sensors 2 and 3, each by its own 52h bit 1: 0 comparator, 1 interrupt
unfoldable pub is_interrupt : List ℕ → ℕ → Bool
is_interrupt rs n = is_on (get_or rs (sensor_configuration (bank_cell n)) 0) 1

-- ---- what a read shows

-- I-2: the chassis bit is the latch itself; bits 7 and 6 are reserved
abbrev pub with_chassis : ℕ → Bool → ℕ
with_chassis b chassis = bit_or (bit_and b 0b0010_1111) (choose chassis 0b0001_0000 0)

-- M-6: 4Fh by 4Eh bit 7
abbrev pub vendor_byte : ℕ → ℕ
vendor_byte b = choose (is_on b 7) 0x5C 0xA3

-- the byte that a read of a cell shows; what no rule names is the cell itself. decision D-07
unfoldable pub shown_of : List ℕ → Bool → ℕ → ℕ
shown_of rs chassis c =
    choose (eqb c configuration) (bit_and (get_or rs c 0) 0b0111_1111)  -- bit 7 is a command
    (choose (eqb c interrupt_status2) (with_chassis (get_or rs c 0) chassis)
    (choose (eqb c real_time_status2) (with_chassis (get_or rs c 0) chassis)
    (choose (eqb c chassis_clear) 0x00  -- a command register
    (choose (eqb c vid_fan_divisor) (bit_and (get_or rs c 0) 0b1111_0000)  -- VID bits read 0, here and in 49h
    (choose (eqb c device_id) 0x02
    (choose (eqb c vendor_id) (vendor_byte (get_or rs bank_select 0))
    (choose (eqb c chip_id) 0x30  -- chip identity
    (get_or rs c 0))))))))
