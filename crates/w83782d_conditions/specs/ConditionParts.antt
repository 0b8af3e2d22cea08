-- What the parts of the code ensure, in the words of Conditions.antt.
use Rattle.std.specs.Prelude.{false, List, [], ◌∷◌, ℕ}
use Rattle.bits.specs.Bits.{choose}
use Rattle.sensor.specs.declared.Mode.TheVariants.{Interrupt}
use Rattle.w83782d_map.specs.Map.{fits}
use Rattle.w83782d_conditions.specs.declared.Comparison.{Comparison}
use Rattle.w83782d_conditions.specs.declared.RemoteComparison.{RemoteComparison}
use Rattle.w83782d_conditions.specs.declared.Compared.{Compared}
use Rattle.w83782d_conditions.specs.Conditions.{comparison, compared_of}

-- in a slice of another length nothing is found
abbrev still : Comparison
still = comparison Interrupt false false

abbrev still_remote : RemoteComparison
still_remote = record { status = still; output = Interrupt }

abbrev pub nothing : Compared
nothing = record { first = 0; second = 0; sensor1 = still; remote = still_remote ∷ still_remote ∷ [] }

abbrev pub compared_in : List ℕ → Compared
compared_in rs = choose (fits rs) (compared_of rs) nothing
