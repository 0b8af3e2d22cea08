-- What the parts of the code ensure: a slice's length is looked at first, then the cell of an index.
use Rattle.std.specs.Prelude.{Bool, List, ℕ, Result, Ok, Err}
use Rattle.answers.specs.declared.Refusal.{Refusal}
use Rattle.answers.specs.declared.Refusal.TheVariants.{Absent, WrongLength}
use Rattle.bits.specs.Bits.{choose}
use Rattle.w83782d_map.specs.Map.{fits}

-- A-8: an answer where the slice is of 112 cells
abbrev pub if_whole : {A : Type 0} → List ℕ → Result A Refusal → Result A Refusal
if_whole rs r = choose (fits rs) r (Err WrongLength)

-- A-1: a cell where a test says so
abbrev pub cell_where : Bool → ℕ → Result ℕ Refusal
cell_where there c = choose there (Ok c) (Err Absent)
