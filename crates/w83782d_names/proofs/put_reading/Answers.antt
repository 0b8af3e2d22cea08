use Rattle.w83782d_names.proofs.Tables.{put_named}
use Rattle.w83782d_names.specs.Names.{reading_names}
use Rattle.w83782d_names.specs.Rows.{trimmed}
use Rattle.w83782d_names.proofs.put_reading.Goals as goal

pub returns : goal.returns
unfolding reading_names trimmed
returns c =
    put_named 0x20 24 32 reading_names c.args.index c.requires _ _ _ c.put_row.ensures tt
