-- Rows of a table of characters, each a name with spaces behind it.
use Rattle.std.specs.Prelude.{ℕ, ◌*◌, List, [], ◌∷◌, ◌++◌, eqb, ltb, take, drop}
use Rattle.bits.specs.Bits.{choose}
use Rattle.text.specs.Text.{ascii}
use Rattle.w83782d_names.specs.Names.{Named, ◌is◌, no_register, find}

-- a row of a table of rows of a width
abbrev pub row_of : List ℕ → ℕ → ℕ → List ℕ
row_of table width row = take width (drop (row * width) table)

-- a character before others that have no space at their end
abbrev pub before : ℕ → List ℕ → List ℕ
before c [] = choose (eqb c 32) [] (c ∷ [])
before c (d ∷ ds) = c ∷ d ∷ ds

-- characters without the spaces at their end
unfoldable pub trimmed : List ℕ → List ℕ
trimmed [] = []
trimmed (c ∷ cs) = before c (trimmed cs)

-- 50h to 56h of the bank of sensor 2 or 3
unfoldable pub sensor_rows : List Named
sensor_rows =
    0x50 is "high byte"
    ∷ 0x51 is "low byte"
    ∷ 0x52 is "configuration"
    ∷ 0x53 is "hysteresis high byte"
    ∷ 0x54 is "hysteresis low byte"
    ∷ 0x55 is "over limit high byte"
    ∷ 0x56 is "over limit low byte"
    ∷ []

-- the name of such a register, behind the sensor's
unfoldable pub sensor_name : List ℕ → ℕ → List ℕ
sensor_name s i = choose (ltb 0x56 i) (ascii no_register) (s ++ ascii (find sensor_rows i))
