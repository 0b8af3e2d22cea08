-- The latches by power-on, reset, a write, a read and a chassis event (rules M-7, M-8, I-2, I-3, O-3, O-5).
use Rattle.std.specs.Prelude.{Bool, true, false, ◌&&◌, List, [], ◌∷◌, ℕ, ◌-◌, eqb, get_or, set}
use Rattle.bits.specs.Bits.{choose, is_on}
use Rattle.sensor.specs.Sensor.{armed, released_of}
use Rattle.sensor.specs.declared.Mark.{Mark}
use Rattle.sensor.specs.declared.Mark.TheVariants.{Armed}
use Rattle.sensor.specs.declared.Remote.{Remote}
use Rattle.w83782d_map.specs.Cells.{bank_cell, chassis_clear, configuration}
use Rattle.w83782d_registers.specs.Registers.{is_interrupt}
use Rattle.w83782d_latches.specs.declared.Latches.{Latches}

abbrev pub latches : Bool → Mark → List Remote → Latches
latches c m rs = record { chassis = c; sensor1 = m; remote = rs }

-- sensor 2 or 3
abbrev pub remote_of : Latches → ℕ → Remote
remote_of l n = get_or l.remote (n - 2) armed

-- ---- power-on and reset
abbrev pub power_on_latches : Latches
power_on_latches = latches false Armed (armed ∷ armed ∷ [])

abbrev pub reset_latches : Latches → Latches
reset_latches l = latches l.chassis Armed (armed ∷ armed ∷ [])

-- ---- a write

-- I-3: the chassis latch is cleared by 46h with bit 7
unfoldable pub written_latches : Latches → ℕ → ℕ → Latches
written_latches l c v =
    choose (eqb c configuration && is_on v 7) (reset_latches l)
    (choose (eqb c chassis_clear && is_on v 7) (latches false l.sensor1 l.remote)
    l)

-- ---- a read

abbrev pub with_released : Latches → ℕ → Latches
with_released l n = latches l.chassis l.sensor1 (set l.remote (n - 2) (released_of (remote_of l n)))

-- O-3: in interrupt mode a read of that sensor's 50h releases. decision D-11
abbrev pub releases : List ℕ → ℕ → ℕ → Bool
releases rs c n = eqb c (bank_cell n) && is_interrupt rs n

unfoldable pub read_latches : List ℕ → Latches → ℕ → Latches
read_latches rs l c = choose (releases rs c 2) (with_released l 2) (choose (releases rs c 3) (with_released l 3) l)

-- ---- I-3: a chassis event sets the latch, in standby too. decision D-10
abbrev pub opened_latches : Latches → Latches
opened_latches l = latches true l.sensor1 l.remote
