-- The standing alarms: a figure, and what is claimed of them, bit by bit.
-- Assumes nothing.
use mathlib.Core.Path.{◌≡◌, refl}
use mathlib.Core.Bool.{Bool, true, false}
use mathlib.Core.List.{List}
use Prim.Native.Nat.{ℕ, ◌<◌}
use native.Mathlib.Omega.{arith}
use lib.Bits.{bit_and, and_le_r, or_lt}
use lib.Count.{ones_in, ones, ones-le}
use lib.Dec.{eqb, lit<}
use lib.ListN.{get_or}
use Rattle.bits.specs.Bits.{choose}
use Rattle.bits.specs.Map.{tabulate}
use Rattle.status.proofs.StatusLaws.{counts_set_bits}
use Rattle.w83782d_map.specs.Map.{cells}
use Rattle.w83782d_map.specs.Cells.{interrupt_status1, interrupt_status2}
use Rattle.w83782d_registers.specs.Registers.{with_chassis, shown_of}
use Rattle.w83782d_readings.specs.Outputs.{standing_alarms, AlarmsCounted}

-- ---- standing alarms

-- a figure: 41h has two bits set; of 42h's cell a read shows bits 3 and 1, and not 7, 6 and 4, which is the latch
abbrev some_status : List ℕ
some_status =
    tabulate cells 0 (λ c. choose (eqb c interrupt_status1) 0b1000_0001 (choose (eqb c interrupt_status2) 0b1101_1010 0))

as_shown : (chassis : Bool) → standing_alarms some_status chassis ≡ choose chassis 5 4
unfolding standing_alarms ones ones_in
as_shown true = refl
as_shown false = refl

-- ---- the alarms, bit by bit

-- 42h as it is shown has six bits
shown_lt : (b : ℕ) (chassis : Bool) → with_chassis b chassis < 64
shown_lt b true = or_lt 6 (bit_and b 0b0010_1111) 0b0001_0000 (omega (arith, and_le_r b 0b0010_1111)) (lit< tt)
shown_lt b false = or_lt 6 (bit_and b 0b0010_1111) 0 (omega (arith, and_le_r b 0b0010_1111)) (lit< tt)

pub alarms_counted_all : AlarmsCounted
unfolding standing_alarms shown_of
alarms_counted_all rs chassis h =
    let z = with_chassis (get_or rs interrupt_status2 0) chassis in
    let six : z < 64 = shown_lt (get_or rs interrupt_status2 0) chassis in
    let x = get_or rs interrupt_status1 0 in
    record {
      each = counts_set_bits.each x z h (omega arith);
      most = omega (arith, ones-le 8 x h, ones-le 6 z six);
      none = counts_set_bits.none x z h (omega arith);
    }
