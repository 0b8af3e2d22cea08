use native.Mathlib.Omega.{arith}
use Rattle.report_text.proofs.Joined.{put_count_line}
use Rattle.report_text.proofs.Short.{count_short, place_short}
use Rattle.report_text.proofs.put_count.Goals as goal

pub returns : goal.returns
returns c =
    let line =
    put_count_line _ _ _ c.put_bytes.ensures c.put_byte.ensures c.put_decimal.ensures c.put_spaced.ensures
    c.put_byte-2.ensures in
    record { line = line; short = omega (arith, place_short _ _ _ _ line (count_short _ _ _ c.ranges.bit c.ranges.n)) }
