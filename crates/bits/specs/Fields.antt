-- Fields of bits that lie anywhere in the registers.
use Rattle.std.specs.Prelude.{Bool, true, false, not, ◌&&◌, ◌||◌, List, [], ◌∷◌, ℕ, ◌+◌, ◌*◌, ◌/◌, ◌%◌, ◌^◌, ltb, eqb, get_or}
use Rattle.bits.specs.Bits.{bit, number_of, Change, change, changes}
use Rattle.bits.specs.declared.fields.Place.{Place}
use Rattle.bits.specs.declared.fields.Field.{Field}

-- ---- a field: a list of places, lowest bit first

unfoldable pub gather_of : List ℕ → List Place → ℕ
gather_of rs [] = 0
gather_of rs (p ∷ ps) = bit (get_or rs p.cell 0) (number_of p.bit) + 2 * gather_of rs ps

-- the changes that give the field a value: each place gets its binary digit
unfoldable pub digits_of : List Place → ℕ → List Change
digits_of [] v = []
digits_of (p ∷ ps) v = change p.cell (2 ^ number_of p.bit) (v % 2 * 2 ^ number_of p.bit) ∷ digits_of ps (v / 2)

abbrev pub replace_of : List ℕ → List Place → ℕ → List ℕ
replace_of rs ps v = changes rs (digits_of ps v)

abbrev pub places_of : Field → List Place
places_of f = f.low ∷ f.middle ∷ f.high ∷ []

-- ---- which bits those may be

-- bit j of cell k is a place of the field
unfoldable pub is_in : List Place → ℕ → ℕ → Bool
is_in [] k j = false
is_in (p ∷ ps) k j = (eqb k p.cell && eqb j (number_of p.bit)) || is_in ps k j

-- no place of a field is in it twice
unfoldable pub distinct : List Place → Bool
distinct [] = true
distinct (p ∷ ps) = not (is_in ps p.cell (number_of p.bit)) && distinct ps

-- no place of the second field is one of the first
unfoldable pub apart : List Place → List Place → Bool
apart ps [] = true
apart ps (q ∷ qs) = not (is_in ps q.cell (number_of q.bit)) && apart ps qs

-- each place of a field is in one of the first n cells
unfoldable pub inside : ℕ → List Place → Bool
inside n [] = true
inside n (p ∷ ps) = ltb p.cell n && inside n ps
