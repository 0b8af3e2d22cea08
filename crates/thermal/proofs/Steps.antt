-- One-time status and ACPI output: what is claimed of them, and the cases of the code, by the mode and the mark.
-- Assumes nothing.
use mathlib.Core.Path.{◌≡◌, refl}
use mathlib.Core.Bool.{Bool, true, false, not, ◌&&◌}
use mathlib.Core.Logic.{◌↔◌}
use Rattle.sensor.specs.declared.Mark.{Mark}
use Rattle.sensor.specs.declared.Mark.TheVariants.{Armed, Hot}
use Rattle.sensor.specs.declared.Mode.{Mode}
use Rattle.sensor.specs.declared.Mode.TheVariants.{Interrupt}
use Rattle.sensor.specs.declared.Status.{Status}
use Rattle.sensor.specs.declared.Output.{Output}
use Rattle.sensor.specs.Sensor.{status, output, is_hot, mark_if, status_of, output_of}
use Rattle.thermal.specs.declared.StatusMode.{StatusMode}
use Rattle.thermal.specs.declared.StatusMode.TheVariants as status_mode
use Rattle.thermal.specs.declared.OutputMode.{OutputMode}
use Rattle.thermal.specs.declared.OutputMode.TheVariants as output_mode
use Rattle.thermal.specs.Modes.{status_by, output_by, OneTimeStatus, AcpiOutput}

latched : (m : Mark) (above below : Bool)
    → ((status_by status_mode.OneTime m above below).latched ≡ true) ↔ ((m ≡ Armed) × (above ≡ true))
unfolding status_by
latched Armed above below = ((λ e. (refl, e)), (λ p. p.1))
latched Hot above below = ((λ e. let x : false ≡ true = e in (cc, cc)), (λ p. cc))

pub one_time_status : OneTimeStatus
unfolding status_by
one_time_status =
    record { plain = λ mode m above below. refl; mark = λ m above below. refl; latched = latched }

pub acpi_output : AcpiOutput
unfolding output_by output_of
acpi_output =
    record {
      plain = λ mode o above below moved. refl;
      asserted = λ o above below moved. refl;
      mark = λ o above below moved. refl;
    }

-- ---- the code's cases
module _ (mode : StatusMode) (m : Mark) (above below : Bool) (r : Status) where
  pub plain_status : (p : Mode) → mode ≡ status_mode.Plain p → r ≡ status_of p m above below
      → r ≡ status_by mode m above below
  unfolding status_by
  plain_status p e s = rw e s

  pub one_time_case : (latched : Bool) → mode ≡ status_mode.OneTime → r ≡ status_of Interrupt m above below
      → latched ≡ (not (is_hot m) && above) → status r.mark latched ≡ status_by mode m above below
  unfolding status_by
  one_time_case latched e s l = rw (e, s, l) refl

module _ (mode : OutputMode) (o : Output) (above below moved : Bool) where
  pub plain_output : (p : Mode) (r : Output) → mode ≡ output_mode.Plain p → r ≡ output_of p o above below
      → r ≡ output_by mode o above below moved
  unfolding output_by
  plain_output p r e s = rw e s

  pub acpi_case : (m : Mark) → mode ≡ output_mode.Acpi → m ≡ mark_if above
      → output m moved ≡ output_by mode o above below moved
  unfolding output_by
  acpi_case m e s = rw (e, s) refl
