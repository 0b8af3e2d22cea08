-- What is claimed of fields, wherever their bits lie.
use Rattle.std.specs.Prelude.{◌≡◌, true, false, List, ℕ, ◌%◌, ◌^◌, ◌<◌, get_or, length}
use Rattle.bits.specs.Bits.{bit}
use Rattle.bits.specs.declared.fields.Place.{Place}
use Rattle.bits.specs.Fields.{gather_of, replace_of, is_in, distinct, apart, inside}

-- replace changes no bit outside the field
abbrev pub ReplaceKeeps : Type 0
ReplaceKeeps = (rs : List ℕ) (ps : List Place) (v k j : ℕ) → j < 8 → is_in ps k j ≡ false
    → bit (get_or (replace_of rs ps v) k 0) j ≡ bit (get_or rs k 0) j

-- gather after replace gives back the value, as far as the field has bits
abbrev pub GatherGivesBack : Type 0
GatherGivesBack = (rs : List ℕ) (ps : List Place) (v : ℕ) → distinct ps ≡ true → inside (length rs) ps ≡ true
    → gather_of (replace_of rs ps v) ps ≡ v % 2 ^ length ps

-- replacing one field leaves another that has no place in common with it
abbrev pub OtherStays : Type 0
OtherStays =
    (rs : List ℕ) (ps qs : List Place) (v : ℕ) → apart ps qs ≡ true → gather_of (replace_of rs ps v) qs ≡ gather_of rs qs
