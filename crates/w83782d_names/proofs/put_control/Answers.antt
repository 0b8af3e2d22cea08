use Rattle.w83782d_names.proofs.Tables.{put_named}
use Rattle.w83782d_names.specs.Names.{control_names}
use Rattle.w83782d_names.specs.Rows.{trimmed}
use Rattle.w83782d_names.proofs.put_control.Goals as goal

pub returns : goal.returns
unfolding control_names trimmed
returns c =
    put_named 0x40 27 16 control_names c.args.index c.requires _ _ _ c.put_row.ensures tt
