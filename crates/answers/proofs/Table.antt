-- The numbers of document 01's table, in its order, and those that requests added: a name
-- that is given another number fails here, in this crate. Assumes nothing.
use mathlib.Core.Path.{◌≡◌, refl}
use mathlib.Core.List.{[], ◌∷◌}
use Rattle.answers.specs.Answers.{absent, read_only, bad_temperature, stopped, bad_record}
use Rattle.answers.specs.Answers.{bad_speed, no_channel, wrong_length, offset_locked, day_full}

table :
    absent ∷ read_only ∷ bad_temperature ∷ stopped ∷ bad_record ∷ bad_speed ∷ no_channel ∷ wrong_length ∷ offset_locked
    ∷ day_full ∷ []
    ≡ 1 ∷ 2 ∷ 3 ∷ 4 ∷ 5 ∷ 6 ∷ 7 ∷ 8 ∷ 9 ∷ 12 ∷ []
table = refl
