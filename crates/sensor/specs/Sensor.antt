-- Marks and outputs of temperature sensors (rules T-1 to T-6, O-1 to O-5).
use Rattle.std.specs.Prelude.{Bool, true, false}
use Rattle.sensor.specs.declared.Mark.{Mark}
use Rattle.sensor.specs.declared.Mark.TheVariants.{Armed, Hot}
use Rattle.bits.specs.Bits.{choose}
use Rattle.sensor.specs.declared.Mode.{Mode}
use Rattle.sensor.specs.declared.Mode.TheVariants.{Comparator, Interrupt}
use Rattle.sensor.specs.declared.Status.{Status}
use Rattle.sensor.specs.declared.Output.{Output}
use Rattle.sensor.specs.declared.Remote.{Remote}

abbrev pub output : Mark → Bool → Output
output m a = record { mark = m; asserted = a }

abbrev pub remote : Mark → Output → Remote
remote m o = record { status = m; output = o }

-- T-6, O-5: armed and released
abbrev pub armed : Remote
armed = remote Armed (output Armed false)

-- O-3: released, and the marks stay
abbrev pub released_of : Remote → Remote
released_of r = remote r.status (output r.output.mark false)

-- ---- one step at a sample, given whether the temperature is above its over limit and below its hysteresis

abbrev pub status : Mark → Bool → Status
status m l = record { mark = m; latched = l }

-- a mark as a flag, and back; T-3: in comparator mode hot is above at the last sample
abbrev pub is_hot : Mark → Bool
is_hot Armed = false
is_hot Hot = true

abbrev pub mark_if : Bool → Mark
mark_if true = Hot
mark_if false = Armed

-- the crossing that a mark waits for: armed, above the over limit; hot, below hysteresis
abbrev pub crosses : Mark → Bool → Bool → Bool
crosses Armed above below = above
crosses Hot above below = below

abbrev pub turned : Mark → Mark
turned Armed = Hot
turned Hot = Armed

-- T-1: in comparator mode, latched at each sample above the over limit; T-2: in two-times
-- mode, at each crossing that the mark waits for, one step a sample. decisions D-42, D-43
unfoldable pub status_of : Mode → Mark → Bool → Bool → Status
status_of Comparator m above below = status (mark_if above) above
status_of Interrupt m above below = choose (crosses m above below) (status (turned m) true) (status m false)

-- O-2: comparator, above asserts, otherwise below releases, otherwise it stays; O-3:
-- interrupt, each crossing that its own mark waits for asserts. decisions D-42, D-44
unfoldable pub output_of : Mode → Output → Bool → Bool → Output
output_of Comparator o above below = output (mark_if above) (choose above true (choose below false o.asserted))
output_of Interrupt o above below = choose (crosses o.mark above below) (output (turned o.mark) true) o
