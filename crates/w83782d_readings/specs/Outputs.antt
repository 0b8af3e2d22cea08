-- SMI and standing alarms, from the bytes that reads show (rules I-2, I-4 to I-6).
use Rattle.std.specs.Prelude.{Bool, not, ◌&&◌, List, ◌↔◌, ◌≡◌, ℕ, ◌+◌, ◌≤◌, ◌<◌, get_or}
use Rattle.std.specs.Prelude.{Result, Ok, Err}
use Rattle.answers.specs.declared.Refusal.{Refusal}
use Rattle.answers.specs.declared.Refusal.TheVariants.{WrongLength}
use Rattle.bits.specs.Bits.{choose, is_on}
use Rattle.status.specs.Claims.{set_bits}
use Rattle.status.specs.Status.{any_unmasked, alarm_count}
use Rattle.w83782d_map.specs.Map.{fits}
use Rattle.w83782d_map.specs.Cells.{configuration, interrupt_status1, interrupt_status2, smi_mask1, smi_mask2}
use Rattle.w83782d_registers.specs.Registers.{with_chassis, shown_of}
use Rattle.w83782d_readings.specs.declared.outputs.Outputs.{Outputs}

-- 41h and 42h as a read shows them, the chassis bit being the latch
abbrev pub status1 : List ℕ → ℕ
status1 rs = get_or rs interrupt_status1 0

abbrev pub status2 : List ℕ → Bool → ℕ
status2 rs chassis = with_chassis (get_or rs interrupt_status2 0) chassis

-- I-4: 40h bit 1 is 1, bit 3 is 0, and an unmasked bit of 41h or 42h is set: a mask bit at 1 keeps its status bit from
-- SMI (7.6, 7.7). decision D-40
unfoldable pub smi_of : List ℕ → Bool → Bool
smi_of rs chassis =
    is_on (get_or rs configuration 0) 1
    && not (is_on (get_or rs configuration 0) 3)
    && any_unmasked (status1 rs) (get_or rs smi_mask1 0) (status2 rs chassis) (get_or rs smi_mask2 0)

-- I-6: the set bits of 41h and 42h
unfoldable pub standing_alarms : List ℕ → Bool → ℕ
standing_alarms rs chassis = alarm_count (status1 rs) (status2 rs chassis)

-- ---- of any slice: one that is not the registers' 112 cells is refused as 8. decision D-01
unfoldable pub outputs_of : List ℕ → Bool → Result Outputs Refusal
outputs_of rs chassis =
    choose (fits rs) (Ok (record { smi = smi_of rs chassis; alarms = standing_alarms rs chassis })) (Err WrongLength)

-- ---- what is claimed of the alarms that stand

-- I-6, of the registers with any latch: one for each bit of 41h and 42h that a read shows as 1; 42h has six
pub record AlarmClaims (rs : List ℕ) (chassis : Bool) : Type 0 where
  pub each : standing_alarms rs chassis
      ≡ set_bits (shown_of rs chassis interrupt_status1) + set_bits (shown_of rs chassis interrupt_status2)
  pub most : standing_alarms rs chassis ≤ 14
  pub none : (standing_alarms rs chassis ≡ 0)
      ↔ ((shown_of rs chassis interrupt_status1 ≡ 0) × (shown_of rs chassis interrupt_status2 ≡ 0))

-- a cell is a byte
abbrev pub AlarmsCounted : Type 0
AlarmsCounted = (rs : List ℕ) (chassis : Bool) → get_or rs interrupt_status1 0 < 256 → AlarmClaims rs chassis
