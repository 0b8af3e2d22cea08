use native.Mathlib.Omega.{arith}
use Rattle.w83782d_report.specs.Parts.{view_of}
use Rattle.w83782d_report_text.proofs.Lines.{all_lines}
use Rattle.w83782d_report_text.proofs.put_report.Goals as goal

pub returns : goal.returns
returns c =
    record {
      text =
          all_lines _ _ _ (view_of c.args.report.now) _ _ c.answer.ensures
          c.put_readings.ensures.lines c.put_latched.ensures.lines c.put_end.ensures.line;
      short =
          omega (arith, c.put_readings.ensures.short, c.put_latched.ensures.short, c.put_end.ensures.short);
    }
