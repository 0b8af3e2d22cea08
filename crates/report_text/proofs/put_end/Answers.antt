use native.Mathlib.Omega.{arith}
use mir.Syntax.{w64}
use mir.Val.{Fits}
use Rattle.report_text.proofs.Joined.{put_end_line}
use Rattle.report_text.proofs.Short.{end_short, place_short}
use borrow.Author.Rules.{rules}
use Rattle.report_text.proofs.put_end.Goals as goal

pub returns : goal.returns
returns c =
    let line =
    put_end_line _ _ c.put_bytes.ensures (rw c.from.ensures at c.put_spaced.ensures) c.put_spaced-2.ensures
    c.put_byte.ensures in
    let wide : Fits w64 c.args.answer = search rules in
    record { line = line; short = omega (arith, place_short _ _ _ _ line (end_short _ _ wide c.ranges.accepted)) }
