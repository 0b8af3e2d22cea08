use native.Mathlib.Omega.{arith}
use Rattle.w83782d_names.proofs.Tables.{put_no_sensor, put_sensor_name, put_named}
use Rattle.w83782d_names.specs.Rows.{sensor_rows, trimmed}
use borrow.Author.Rules.{rules}
use Rattle.w83782d_names.proofs.put_sensor.Goals as goal

pub returns-then-index-gt86 : goal.returns-then-index-gt86
returns-then-index-gt86 c = search (rules, put_no_sensor)

pub returns : goal.returns
unfolding sensor_rows trimmed
returns c =
    put_sensor_name _ c.args.index _ _ _ c.if-index-gt86.false c.put_bytes-2.ensures
    (put_named 0x50 20 7 sensor_rows c.args.index (c.requires.0, omega arith) _ _ _
    c.put_row.ensures tt)
