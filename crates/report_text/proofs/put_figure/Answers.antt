-- Each put goes on where the one before it ended, so the six together are the line.
-- Assumes nothing.
use native.Mathlib.Omega.{arith}
use mir.Syntax.{w64}
use mir.Val.{SFits}
use Rattle.report_text.proofs.Joined.{put_reading_line}
use Rattle.report_text.proofs.Short.{reading_short, place_short}
use borrow.Author.Rules.{rules}
use Rattle.report_text.proofs.put_figure.Goals as goal

pub returns : goal.returns
returns c =
    let figure = c.args.figure in
    let l : SFits w64 figure.least = record { sfits = search rules } in
    let g : SFits w64 figure.greatest = record { sfits = search rules } in
    let s : SFits w64 figure.sum = record { sfits = search rules } in
    let line =
    put_reading_line _ figure l g s c.put_bytes.ensures c.put_spaced.ensures c.put_extreme.ensures
    c.put_extreme-2.ensures c.put_signed_number.ensures c.put_byte.ensures in
    let short = reading_short _ _ figure c.ranges.samples l g s in
    record { line = line; short = omega (arith, place_short _ _ _ _ line short) }
