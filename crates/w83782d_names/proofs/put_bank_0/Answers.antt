use Rattle.w83782d_names.proofs.Tables.{put_named}
use Rattle.w83782d_names.specs.Names.{bank0_names}
use Rattle.w83782d_names.specs.Rows.{trimmed}
use Rattle.w83782d_names.proofs.put_bank_0.Goals as goal

pub returns : goal.returns
unfolding bank0_names trimmed
returns c =
    put_named 0x50 25 16 bank0_names c.args.index c.requires _ _ _ c.put_row.ensures tt
