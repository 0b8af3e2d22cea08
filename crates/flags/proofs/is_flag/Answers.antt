use Rattle.flags.proofs.Joined.{flag_at_law}
use Rattle.flags.proofs.is_flag.Goals as goal

pub returns : goal.returns
returns c = flag_at_law _ _ _ c.number-place.ensures
