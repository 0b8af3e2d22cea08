-- A figure kept in a slice, three numbers from a place on: what a value more makes of it, on the way to a row.
use Rattle.std.specs.Prelude.{ℕ, ◌+◌, List, ℤ, slice_set}
use Rattle.std.proofs.lemmas.List.Edits.{sets}
use Rattle.figures.specs.declared.Figure.{Figure}
use Rattle.figures.specs.Figure.{figure_after, figure_at, figure_numbers}

-- the least and the greatest
unfoldable pub bounds_in : List ℤ → ℕ → ℕ → ℤ → List ℤ
bounds_in zs at samples z =
    let f : Figure = figure_after samples (figure_at zs at) z in slice_set (slice_set zs at f.least) (at + 1) f.greatest

-- all three
unfoldable pub figure_in : List ℤ → ℕ → ℕ → ℤ → List ℤ
figure_in zs at samples z = sets zs at (figure_numbers (figure_after samples (figure_at zs at) z))
