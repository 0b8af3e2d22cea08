-- Figures of several readings over a list of rows.
-- Assumes nothing.
use mathlib.Core.Path.{◌≡◌, refl, sym, ap, ◌∙◌}
use mathlib.Core.Bool.{Bool, true, false}
use mathlib.Core.List.{List, [], ◌∷◌, ◌++◌}
use Prim.Native.Nat.{ℕ, zero, suc, ◌+◌, ◌*◌, ◌<◌, ◌≤◌}
use native.Mathlib.Omega.{arith}
use borrow.Author.Tests.{ltb-true, ltb-false}
use lib.Dec.{ltb}
use lib.IntN.{ℤ, pos}
use lib.ListN.{length, take, get_or, replicate, length-append, length-map, replicate-append-replicate, get_or-append}
use lib.Seq.{take_all, take-suc, length-take-le, get_or-append_seam, get_or-append-add}
use Rattle.numbers.specs.TwosComplement.{signed_of}
use Rattle.numbers.specs.Wrapping.{low_bits, wrapped}
use Rattle.figures.specs.Figure.{figure_of, figure_after, figure_at, figure_numbers, picked, sum_of}
use Rattle.figures.specs.declared.Figure.{Figure}
use Rattle.figures.specs.Rows.{figures_after, column, figures_of, RowFigures}
use Rattle.figures.proofs.FigureLaws.{running_figures}

-- one reading
one_after : (n : ℕ) (f : Figure) (z : ℤ)
    → figures_after n (figure_numbers f) (z ∷ []) ≡ figure_numbers (figure_after n f z)
unfolding figures_after
one_after n f z = refl

-- readings whose figures are before others'
after_append : (n : ℕ) (zs fs gs ys : List ℤ) → length fs ≡ 3 * length zs
    → figures_after n (fs ++ gs) (zs ++ ys) ≡ figures_after n fs zs ++ figures_after n gs ys
unfolding figures_after
after_append n [] [] gs ys e = refl
after_append n [] (l ∷ fs) gs ys e = absurd (omega arith)
after_append n (z ∷ zs) [] gs ys e = absurd (omega arith)
after_append n (z ∷ zs) (l ∷ []) gs ys e = absurd (omega arith)
after_append n (z ∷ zs) (l ∷ g ∷ []) gs ys e = absurd (omega arith)
after_append n (z ∷ zs) (l ∷ g ∷ s ∷ fs) gs ys e =
    rw (after_append n zs fs gs ys (omega arith)) refl

of_length : (k : ℕ) (rows : List (List ℤ)) → length (figures_of k rows) ≡ 3 * k
unfolding figures_of
of_length zero rows = refl
of_length (suc k) rows = simp length-append (omega (arith, of_length k rows))

column_more : (i : ℕ) (rows : List (List ℤ)) (row : List ℤ)
    → column i (rows ++ (row ∷ [])) ≡ column i rows ++ (get_or row i (pos 0) ∷ [])
unfolding column
column_more i [] row = refl
column_more i (r ∷ rows) row = ap (λ (x : List ℤ). get_or r i (pos 0) ∷ x) (column_more i rows row)

column_length : (i : ℕ) (rows : List (List ℤ)) → length (column i rows) ≡ length rows
unfolding column
column_length i rows = length-map rows (λ row. get_or row i (pos 0))

-- one reading's figure and its value of a row
reading_step : (i : ℕ) (rows : List (List ℤ)) (row : List ℤ)
    → figure_after (length rows) (figure_of (column i rows)) (get_or row i (pos 0))
    ≡ figure_of (column i (rows ++ (row ∷ [])))
reading_step i rows row =
    ap (λ (n : ℕ). figure_after n (figure_of (column i rows)) (get_or row i (pos 0))) (sym (column_length i rows))
    ∙ running_figures.step (column i rows) (get_or row i (pos 0))
    ∙ ap figure_of (sym (column_more i rows row))

-- the first k readings of a row that has at least so many
first_step : (k : ℕ) (rows : List (List ℤ)) (row : List ℤ) → k ≤ length row
    → figures_after (length rows) (figures_of k rows) (take k row) ≡ figures_of k (rows ++ (row ∷ []))
unfolding figures_of figures_after
first_step zero rows row h = refl
first_step (suc k) rows row h =
    let n : ℕ = length rows in
    let f : Figure = figure_of (column k rows) in
    let z : ℤ = get_or row k (pos 0) in
    let l : length (figures_of k rows) ≡ 3 * length (take k row) =
    omega (arith, of_length k rows, length-take-le k row (omega arith)) in
    ap (figures_after n (figures_of k rows ++ figure_numbers f)) (take-suc row k (pos 0) (omega arith))
    ∙ after_append n (take k row) (figures_of k rows) (figure_numbers f) (z ∷ []) l
    ∙ rw (first_step k rows row (omega arith), one_after, reading_step) refl

row_step : (k : ℕ) (rows : List (List ℤ)) (row : List ℤ) → length row ≡ k
    → figures_after (length rows) (figures_of k rows) row ≡ figures_of k (rows ++ (row ∷ []))
row_step k rows row e =
    ap (figures_after (length rows) (figures_of k rows)) (sym (take_all k row (omega arith)))
    ∙ first_step k rows row (omega arith)

no_row : (k : ℕ) → figures_of k [] ≡ replicate (3 * k) (pos 0)
unfolding figures_of column picked sum_of wrapped low_bits signed_of
no_row zero = refl
no_row (suc k) =
    let e : 3 * k + 3 ≡ 3 * suc k = omega arith in
    ap (λ (x : List ℤ). x ++ replicate 3 (pos 0)) (no_row k)
    ∙ replicate-append-replicate (3 * k) 3 (pos 0)
    ∙ ap (λ (n : ℕ). replicate n (pos 0)) e

-- a figure among those before, and the last
at_before : (fs gs : List ℤ) (p : ℕ) → p + 3 ≤ length fs → figure_at (fs ++ gs) p ≡ figure_at fs p
at_before fs gs p h =
    rw (
      get_or-append fs gs (pos 0) p (omega arith),
      get_or-append fs gs (pos 0) (p + 1) (omega arith),
      get_or-append fs gs (pos 0) (p + 2) (omega arith),
    )
    refl

at_last : (fs : List ℤ) (f : Figure) (p : ℕ) → length fs ≡ p → figure_at (fs ++ figure_numbers f) p ≡ f
at_last fs f p e =
    let ns : List ℤ = figure_numbers f in
    let first : get_or (fs ++ ns) (length fs) (pos 0) ≡ f.least =
    get_or-append_seam fs f.least (f.greatest ∷ f.sum ∷ []) (pos 0) in
    rw (← e, first, get_or-append-add fs ns 1 (pos 0), get_or-append-add fs ns 2 (pos 0)) refl

reading_at : (k i : ℕ) (rows : List (List ℤ)) → i < k → figure_at (figures_of k rows) (3 * i) ≡ figure_of (column i rows)
unfolding figures_of
reading_at zero i rows h = absurd (omega arith)
reading_at (suc k) i rows h = go (ltb i k) refl (reading_at k i rows)
  where
    go : (b : Bool) → ltb i k ≡ b → (i < k → figure_at (figures_of k rows) (3 * i) ≡ figure_of (column i rows))
        → figure_at (figures_of k rows ++ figure_numbers (figure_of (column k rows))) (3 * i) ≡ figure_of (column i rows)
    go true t before =
        let l : i < k = ltb-true i k t in
        let room : 3 * i + 3 ≤ length (figures_of k rows) = omega (arith, of_length k rows) in
        at_before (figures_of k rows) (figure_numbers (figure_of (column k rows))) (3 * i) room
        ∙ before l
    go false t before =
        let e : i ≡ k = omega (arith, ltb-false i k t) in
        rw e (at_last (figures_of k rows) (figure_of (column k rows)) (3 * k) (of_length k rows))

pub row_figures : RowFigures
row_figures = record { start = no_row; step = row_step; at = reading_at }
