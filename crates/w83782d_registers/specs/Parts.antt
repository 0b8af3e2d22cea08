-- What the parts of the code ensure, in the words of Registers.antt.
use Rattle.std.specs.Prelude.{Bool, List, ℕ, Option, Some, None, ltb}
use Rattle.bits.specs.Bits.{choose}
use Rattle.bits.specs.Map.{restored_cell, restored_cells}
use Rattle.w83782d_map.specs.Map.{cells, fits, power_on_at, kept_at}

-- a number as a cell; past the last cell there is none
abbrev pub cell_or_none : ℕ → Option ℕ
cell_or_none c = choose (ltb c cells) (Some c) None

-- power-on and reset by one loop: a reset keeps some cells
abbrev pub restored_byte : Bool → ℕ → ℕ → ℕ
restored_byte keep c old = restored_cell power_on_at kept_at keep c old

unfoldable pub restored_registers : Bool → List ℕ → List ℕ
restored_registers keep rs = restored_cells cells power_on_at kept_at keep rs

-- and a slice of another length stays
abbrev pub restored_in : Bool → List ℕ → List ℕ
restored_in keep rs = choose (fits rs) (restored_registers keep rs) rs
