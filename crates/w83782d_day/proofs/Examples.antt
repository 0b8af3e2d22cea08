-- The definitions of specs/ at small logs, by computing: a wrong one fails here. Assumes nothing.
use mathlib.Core.Path.{◌≡◌, refl}
use mathlib.Core.Bool.{true, false}
use mathlib.Core.List.{List, [], ◌∷◌, ◌++◌}
use Prim.Native.Nat.{ℕ}
use lib.IntN.{pos, negsuc}
use lib.ListN.{replicate}
use Rattle.bits.specs.Bits.{bit}
use Rattle.status.specs.Status.{status_bits, no_bits}
use Rattle.numbers.specs.TwosComplement.{signed_of}
use Rattle.numbers.specs.Wrapping.{low_bits, wrapped}
use Rattle.figures.specs.Figure.{picked, sum_of}
use Rattle.figures.specs.Rows.{column, figures_of}
use Rattle.figures.specs.BitCounts.{bytes_with_bit, bits_of}
use Rattle.w83782d_layout.specs.declared.samples.Sample.{Sample as Readings}
use Rattle.w83782d_layout.specs.Samples.{undivided, zero_sample}
use Rattle.w83782d_layout.specs.Form.{well_formed}
use Rattle.w83782d_record.specs.declared.Kind.TheVariants.{Write, Read, Sample, Chassis}
use Rattle.w83782d_record.specs.Decoded.{Event, Refused}
use Rattle.w83782d_record.specs.Record.{decode_of, event_at, part_at}
use Rattle.w83782d_bus.specs.Bus.{State}
use Rattle.w83782d_replay.specs.Replay.{event_of, next, run_to}
use Rattle.w83782d_day.specs.Day.{raw_values, is_sample, record_latches}
use Rattle.w83782d_day.specs.Report.{summary, rows_of, latched_in, log_answer, report_of}

-- ---- a sample: the counts as counted, sensor 1 below zero, sensors 2 and 3 last
abbrev sample : Readings
sample =
    record {
      codes = 1 ∷ 2 ∷ 3 ∷ 4 ∷ 5 ∷ 6 ∷ 255 ∷ [];
      sensor1 = negsuc 4;
      remote = negsuc 255 ∷ pos 7 ∷ [];
      counts = undivided 4294967295 ∷ undivided 300 ∷ undivided 0 ∷ [];
    }

raw : raw_values sample
    ≡ pos 1 ∷ pos 2 ∷ pos 3 ∷ pos 4 ∷ pos 5 ∷ pos 6 ∷ pos 255 ∷ negsuc 4 ∷ pos 4294967295 ∷ pos 300 ∷ pos 0 ∷ negsuc 255
    ∷ pos 7 ∷ []
raw = refl

-- ---- logs, from any state
module _ (s : State) where
  -- no byte
  empty : report_of s [] ≡ summary 0 (replicate 39 (pos 0)) (replicate 8 0) (replicate 8 0) 0 0
  unfolding report_of log_answer run_to rows_of latched_in figures_of column picked wrapped low_bits sum_of signed_of bits_of
      bytes_with_bit
  empty = refl

  -- a part of a record is 5, and counts nothing
  part : report_of s (replicate 31 0) ≡ summary 0 (replicate 39 (pos 0)) (replicate 8 0) (replicate 8 0) 5 0
  unfolding report_of log_answer run_to rows_of latched_in figures_of column picked wrapped low_bits sum_of signed_of bits_of
      bytes_with_bit
  part = refl

  -- two chassis events: bit 4 of 42h twice, no sample
  chassis : List ℕ
  chassis = 4 ∷ replicate 31 0

  twice : report_of s (chassis ++ chassis)
      ≡ summary 0 (replicate 39 (pos 0)) (replicate 8 0) (0 ∷ 0 ∷ 0 ∷ 0 ∷ 2 ∷ 0 ∷ 0 ∷ 0 ∷ []) 0 2
  unfolding report_of log_answer run_to next event_of decode_of event_at well_formed part_at rows_of latched_in figures_of column
      picked wrapped low_bits sum_of signed_of bits_of bytes_with_bit bit chassis
  twice = refl

  -- a record of no kind ends it by 5, after the chassis event before it, and what follows is not taken
  refused : report_of s (chassis ++ (replicate 32 0 ++ chassis))
      ≡ summary 0 (replicate 39 (pos 0)) (replicate 8 0) (0 ∷ 0 ∷ 0 ∷ 0 ∷ 1 ∷ 0 ∷ 0 ∷ 0 ∷ []) 5 1
  unfolding report_of log_answer run_to next event_of decode_of event_at well_formed part_at rows_of latched_in figures_of column
      picked wrapped low_bits sum_of signed_of bits_of bytes_with_bit bit chassis
  refused = refl

  -- what a record latches, and which one is a sample
  none : record_latches s (Refused 5) zero_sample ≡ no_bits
  none = refl

  opened : record_latches s (Event Chassis) zero_sample ≡ status_bits 0 16
  opened = refl

samples : is_sample (Event (Write 1 2)) ∷ is_sample (Event (Read 1)) ∷ is_sample (Event Sample) ∷ is_sample (Event Chassis)
    ∷ is_sample (Refused 3) ∷ []
    ≡ false ∷ false ∷ true ∷ false ∷ false ∷ []
samples = refl
