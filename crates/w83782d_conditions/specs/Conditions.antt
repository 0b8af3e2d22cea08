-- The conditions and the modes that a sample looks at, of the registers with the readings
-- stored (rules S-5 to S-7, T-4, T-5, O-1). Rails are numbered 0 to 6, sensors and fans 1 to 3.
use Rattle.std.specs.Prelude.{Bool, true, false, not, List, [], ◌∷◌, ℕ, ltb, eqb, get_or}
use Rattle.bits.specs.Bits.{choose, is_on, word}
use Rattle.limits.specs.Limits.{outside_at, slow_at, whole_level_at, above_at, below_at}
use Rattle.sensor.specs.declared.Mode.{Mode}
use Rattle.sensor.specs.declared.Mode.TheVariants.{Comparator, Interrupt}
use Rattle.w83782d_map.specs.Cells.{bank_cell, fan_count, fan_limit, high_limit, low_limit}
use Rattle.w83782d_map.specs.Cells.{ovt_property, sensor1_hysteresis, sensor1_over, sensor1_value, voltage}
use Rattle.w83782d_registers.specs.Registers.{is_interrupt}
use Rattle.w83782d_conditions.specs.declared.Comparison.{Comparison}
use Rattle.w83782d_conditions.specs.declared.RemoteComparison.{RemoteComparison}
use Rattle.w83782d_conditions.specs.declared.Compared.{Compared}

-- ---- conditions, of the registers with the readings stored

-- house, S-5: above its high or below its low limit; equal is fine
unfoldable pub is_outside : List ℕ → ℕ → Bool
is_outside rs i = outside_at rs (voltage i) (high_limit i) (low_limit i)

-- S-6: above its over limit; sensors 2 and 3 by the first cell of their bank
unfoldable pub is_above : List ℕ → ℕ → Bool
is_above rs n =
    choose (eqb n 1) (ltb (whole_level_at rs sensor1_over) (whole_level_at rs sensor1_value))
    (above_at rs (bank_cell n))

unfoldable pub is_below : List ℕ → ℕ → Bool
is_below rs n =
    choose (eqb n 1) (ltb (whole_level_at rs sensor1_value) (whole_level_at rs sensor1_hysteresis))
    (below_at rs (bank_cell n))

-- S-7
unfoldable pub is_slow : List ℕ → ℕ → Bool
is_slow rs f = slow_at rs (fan_count f) (fan_limit f)

-- ---- modes
abbrev pub mode_if : Bool → Mode
mode_if true = Comparator
mode_if false = Interrupt

-- T-4: sensor 1 is in comparator mode when 3Ah is 127; T-5: sensors 2 and 3 when 4Ch bit 6 is 1
unfoldable pub status_mode : List ℕ → ℕ → Mode
status_mode rs n =
    choose (eqb n 1) (mode_if (eqb (get_or rs sensor1_hysteresis 0) 127)) (mode_if (is_on (get_or rs ovt_property 0) 6))

-- OVT of sensors 2 and 3, by the mode that a read releases by
unfoldable pub output_mode : List ℕ → ℕ → Mode
output_mode rs n = mode_if (not (is_interrupt rs n))

-- ---- what a sample finds: how each sensor compares with its limits, with the OVT modes of sensors 2 and 3, and the
-- bits of rails and fans in both bytes (the sensors' off)
abbrev pub comparison : Mode → Bool → Bool → Comparison
comparison m above below = record { mode = m; above = above; below = below }

unfoldable pub comparison_of : List ℕ → ℕ → Comparison
comparison_of rs n = comparison (status_mode rs n) (is_above rs n) (is_below rs n)

unfoldable pub remote_comparison_of : List ℕ → ℕ → RemoteComparison
remote_comparison_of rs n = record { status = comparison_of rs n; output = output_mode rs n }

unfoldable pub compared_of : List ℕ → Compared
compared_of rs =
    record {
      first =
          word (is_outside rs 0 ∷ is_outside rs 1 ∷ is_outside rs 2 ∷ is_outside rs 3 ∷ false ∷ false ∷ is_slow rs 1
          ∷ is_slow rs 2 ∷ []);
      second =
          word (is_outside rs 4 ∷ is_outside rs 5 ∷ is_outside rs 6 ∷ is_slow rs 3 ∷ false ∷ false ∷ false ∷ false
          ∷ []);
      sensor1 = comparison_of rs 1;
      remote = remote_comparison_of rs 2 ∷ remote_comparison_of rs 3 ∷ [];
    }
