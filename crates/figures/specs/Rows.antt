-- The figures of several readings, three numbers each, one after another. A sample is a row: a value of each reading.
use Rattle.std.specs.Prelude.{◌≡◌, List, [], ◌∷◌, ◌++◌, map, ℕ, zero, suc, ◌*◌, ◌<◌, ℤ, pos, length, get_or, replicate}
use Rattle.figures.specs.Figure.{figure, figure_of, figure_after, figure_at, figure_numbers}

-- one value more of each reading, by how many samples there were before; where values or figures run out the rest stays
unfoldable pub figures_after : ℕ → List ℤ → List ℤ → List ℤ
figures_after samples fs [] = fs
figures_after samples [] (z ∷ zs) = []
figures_after samples (l ∷ []) (z ∷ zs) = l ∷ []
figures_after samples (l ∷ g ∷ []) (z ∷ zs) = l ∷ g ∷ []
figures_after samples (l ∷ g ∷ s ∷ fs) (z ∷ zs) =
    figure_numbers (figure_after samples (figure l g s) z) ++ figures_after samples fs zs

-- the values of reading i: value i of each row, 0 of a row that has none
unfoldable pub column : ℕ → List (List ℤ) → List ℤ
column i rows = map (λ row. get_or row i (pos 0)) rows

-- the figures of the readings 0 to k - 1
unfoldable pub figures_of : ℕ → List (List ℤ) → List ℤ
figures_of zero rows = []
figures_of (suc k) rows = figures_of k rows ++ figure_numbers (figure_of (column k rows))

-- what is claimed of them
pub record RowFigures : Type 0 where
  -- of no row they are 0
  pub start : (k : ℕ) → figures_of k [] ≡ replicate (3 * k) (pos 0)
  -- the figures of rows and one row more are those of the longer list
  pub step : (k : ℕ) (rows : List (List ℤ)) (row : List ℤ) → length row ≡ k
      → figures_after (length rows) (figures_of k rows) row ≡ figures_of k (rows ++ (row ∷ []))
  -- the figure of a reading is that of its values
  pub at : (k i : ℕ) (rows : List (List ℤ)) → i < k → figure_at (figures_of k rows) (3 * i) ≡ figure_of (column i rows)
