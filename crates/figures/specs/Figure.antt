-- The figure of a reading: the least, the greatest and the sum of its values so far.
use Rattle.std.specs.Prelude.{◌≡◌, ◌≢◌, ℕ, ◌+◌, ◌*◌, ◌^◌, ◌≤◌, eqb, ℤ, pos, nat_abs, ◌+ℤ◌, length, get_or, ◌≤ℤ◌}
use mathlib.Core.List.{List, [], ◌∷◌, ◌++◌, Memᴰ}
use Rattle.std.specs.Int.Signed.{lt_z}
use Rattle.bits.specs.Bits.{choose}
use Rattle.numbers.specs.Wrapping.{wrapped}
use Rattle.figures.specs.declared.Figure.{Figure}

abbrev pub figure : ℤ → ℤ → ℤ → Figure
figure l g s = record { least = l; greatest = g; sum = s }

-- ---- of a list of values

unfoldable pub lesser : ℤ → ℤ → ℤ
lesser a b = choose (lt_z b a) b a

unfoldable pub greater : ℤ → ℤ → ℤ
greater a b = choose (lt_z a b) b a

-- one of two picked again and again, from a first one on
unfoldable pub picked_from : (ℤ → ℤ → ℤ) → ℤ → List ℤ → ℤ
picked_from pick m [] = m
picked_from pick m (z ∷ zs) = picked_from pick (pick m z) zs

-- from the first of a list on; 0 of none
unfoldable pub picked : (ℤ → ℤ → ℤ) → List ℤ → ℤ
picked pick [] = pos 0
picked pick (z ∷ zs) = picked_from pick z zs

abbrev pub least_of : List ℤ → ℤ
least_of = picked lesser

abbrev pub greatest_of : List ℤ → ℤ
greatest_of = picked greater

unfoldable pub sum_of : List ℤ → ℤ
sum_of [] = pos 0
sum_of (z ∷ zs) = z +ℤ sum_of zs

-- ---- in 64 bits

-- the sum as far as 64 bits hold it; the other two are values, which 64 bits hold
abbrev pub figure_of : List ℤ → Figure
figure_of zs = figure (least_of zs) (greatest_of zs) (wrapped (sum_of zs))

-- ---- one value more

-- from any figure, by how many samples there were before: the first value is the least and the greatest
unfoldable pub figure_after : ℕ → Figure → ℤ → Figure
figure_after samples f z =
    choose (eqb samples 0)
    (figure z z (wrapped (f.sum +ℤ z)))
    (figure (lesser f.least z) (greater f.greatest z) (wrapped (f.sum +ℤ z)))

-- ---- kept in a slice, from a place on

abbrev pub figure_at : List ℤ → ℕ → Figure
figure_at zs at = figure (get_or zs at (pos 0)) (get_or zs (at + 1) (pos 0)) (get_or zs (at + 2) (pos 0))

abbrev pub figure_numbers : Figure → List ℤ
figure_numbers f = f.least ∷ f.greatest ∷ f.sum ∷ []

-- ---- what figures mean

-- no value is beyond a bound on either side
abbrev pub Within : ℕ → List ℤ → Type 0
Within b [] = Unit {0}
Within b (z ∷ zs) = (nat_abs z ≤ b) × Within b zs

-- what is claimed of figures
pub record RunningFigures : Type 0 where
  -- the figure of a list and one value more is that of the longer list
  pub step : (zs : List ℤ) (z : ℤ) → figure_after (length zs) (figure_of zs) z ≡ figure_of (zs ++ (z ∷ []))
  -- the least is one of the values and at most each, the greatest one of them and at least each
  pub least : (zs : List ℤ) (z : ℤ) → Memᴰ z zs → least_of zs ≤ℤ z
  pub least_is_one : (zs : List ℤ) → zs ≢ [] → Memᴰ (least_of zs) zs
  pub greatest : (zs : List ℤ) (z : ℤ) → Memᴰ z zs → z ≤ℤ greatest_of zs
  pub greatest_is_one : (zs : List ℤ) → zs ≢ [] → Memᴰ (greatest_of zs) zs
  -- the sum is the sum, of up to 2 ^ 30 values of at most 2 ^ 32 on either side
  pub sum : (zs : List ℤ) → Within (2 ^ 32) zs → length zs ≤ 2 ^ 30 → (figure_of zs).sum ≡ sum_of zs
  -- and it is at most the bound of the values for each of them
  pub size : (b : ℕ) (zs : List ℤ) → Within b zs → nat_abs (sum_of zs) ≤ b * length zs
