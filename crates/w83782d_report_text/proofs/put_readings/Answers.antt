use native.Mathlib.Omega.{arith}
use Rattle.w83782d_report_text.proofs.Lines.{all_readings}
use Rattle.w83782d_report_text.proofs.put_readings.Goals as goal

pub returns : goal.returns
returns c =
    let sensor2 = rw c.figure_from.ensures at c.put_figure.ensures.line in
    let sensor3 = rw c.figure_from-2.ensures at c.put_figure-2.ensures.line in
    record {
      lines = all_readings _ _ _ _ _ _ c.put_registers.ensures.lines sensor2 sensor3;
      short = omega (arith, c.put_registers.ensures.short, c.put_figure.ensures.short, c.put_figure-2.ensures.short);
    }
