-- One-time status and ACPI output, over the steps of `sensor`.
use Rattle.std.specs.Prelude.{◌≡◌, Bool, true, not, ◌&&◌, ◌↔◌}
use Rattle.sensor.specs.declared.Mark.{Mark}
use Rattle.sensor.specs.declared.Mark.TheVariants.{Armed}
use Rattle.sensor.specs.declared.Mode.{Mode}
use Rattle.sensor.specs.declared.Mode.TheVariants.{Comparator, Interrupt}
use Rattle.sensor.specs.declared.Status.{Status}
use Rattle.sensor.specs.declared.Output.{Output}
use Rattle.sensor.specs.Sensor.{status, output, is_hot, mark_if, status_of, output_of}
use Rattle.thermal.specs.declared.StatusMode.{StatusMode}
use Rattle.thermal.specs.declared.StatusMode.TheVariants as status_mode
use Rattle.thermal.specs.declared.OutputMode.{OutputMode}
use Rattle.thermal.specs.declared.OutputMode.TheVariants as output_mode

-- one-time: the mark goes as in the two-times mode; only the rise latches, the fall re-arms and latches nothing
unfoldable pub status_by : StatusMode → Mark → Bool → Bool → Status
status_by (status_mode.Plain mode) m above below = status_of mode m above below
status_by status_mode.OneTime m above below = status (status_of Interrupt m above below).mark (not (is_hot m) && above)

-- house: ACPI, asserted exactly when the quotient moved; the mark goes as in comparator mode
unfoldable pub output_by : OutputMode → Output → Bool → Bool → Bool → Output
output_by (output_mode.Plain mode) o above below moved = output_of mode o above below
output_by output_mode.Acpi o above below moved = output (mark_if above) moved

-- what is claimed of the status
pub record OneTimeStatus : Type 0 where
  pub plain : (mode : Mode) (m : Mark) (above below : Bool)
      → status_by (status_mode.Plain mode) m above below ≡ status_of mode m above below
  -- one-time: the mark of the two-times mode, and latched exactly when it was armed and the temperature is above
  pub mark : (m : Mark) (above below : Bool)
      → (status_by status_mode.OneTime m above below).mark ≡ (status_of Interrupt m above below).mark
  pub latched : (m : Mark) (above below : Bool)
      → ((status_by status_mode.OneTime m above below).latched ≡ true) ↔ ((m ≡ Armed) × (above ≡ true))

-- and of the output
pub record AcpiOutput : Type 0 where
  pub plain : (mode : Mode) (o : Output) (above below moved : Bool)
      → output_by (output_mode.Plain mode) o above below moved ≡ output_of mode o above below
  -- ACPI: asserted exactly when moved, and the mark of comparator mode
  pub asserted : (o : Output) (above below moved : Bool)
      → (output_by output_mode.Acpi o above below moved).asserted ≡ moved
  pub mark : (o : Output) (above below moved : Bool)
      → (output_by output_mode.Acpi o above below moved).mark ≡ (output_of Comparator o above below).mark
