-- An image of some size: so many cells, the bytes of what is kept beside them, spare
-- bytes; and what a call leaves of it. Nothing here is of one chip.
use Rattle.std.specs.Prelude.{List, ◌++◌, ℕ, ◌+◌, ◌*◌, eqb, length, take, drop}
use Rattle.std.proofs.lemmas.List.Edits.{sets}
use Rattle.bits.specs.Bits.{choose, flag_of}
use Rattle.sensor.specs.Sensor.{is_hot}
use Rattle.sensor.specs.declared.Mark.{Mark}
use Rattle.sensor.specs.declared.Mark.TheVariants.{Armed, Hot}

-- ---- the layout
pub record Layout : Type 0 where
  pub cells : ℕ
  pub beside : ℕ
  pub size : ℕ

-- the cells of an image
abbrev pub cells_in : Layout → List ℕ → List ℕ
cells_in y im = take y.cells im

-- an image with other cells, and what is behind them as it was
abbrev pub with_cells : Layout → List ℕ → List ℕ → List ℕ
with_cells y im rs = rs ++ drop y.cells im

-- an image with other cells and other bytes beside them: the spare bytes stay
abbrev pub with_both : Layout → List ℕ → List ℕ → List ℕ → List ℕ
with_both y im rs bs = rs ++ bs ++ drop (y.cells + y.beside) im

-- bytes stored in an image from a place on; a slice of another length stays. decision D-01
abbrev pub put_in : Layout → List ℕ → ℕ → List ℕ → List ℕ
put_in y im at bs = choose (eqb (length im) y.size) (sets im at bs) im

-- ---- flags: a byte of 0 is off, of a mark armed, any other on or hot; written as 0 or 1
abbrev pub mark_from : ℕ → Mark
mark_from b = choose (eqb b 0) Armed Hot

abbrev pub mark_byte : Mark → ℕ
mark_byte m = flag_of (is_hot m)

-- ---- calls: the image at exit, and what is returned
pub record Called : Type 0 where
  pub image : List ℕ
  pub gives : ℕ

abbrev pub called : List ℕ → ℕ → Called
called im r = record { image = im; gives = r }

-- an image of another length is refused, and stays. decision D-01
abbrev pub on_size : Layout → List ℕ → Called → Called → Called
on_size y im refused c = choose (eqb (length im) y.size) c refused

-- answer * 256 + byte
abbrev pub read_word : ℕ → ℕ → ℕ
read_word a b = a * 256 + b
