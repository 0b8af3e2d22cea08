-- A table's rows are the names, by a test of each row; and what is put of a row is put of its name.
-- Assumes nothing.
use Prim.Native.Nat.{ℕ, ◌+◌, ◌-◌, ◌≤◌, ◌<◌}
use native.Mathlib.Omega.{arith}
use mathlib.Core.Path.{◌≡◌, refl}
use mathlib.Core.Bool.{Bool, true, false}
use mathlib.Core.List.{List, [], ◌∷◌}
use borrow.Author.Tests.{le-ltb, lt-ltb}
use lib.Dec.{T, eqb, eqb→eq}
use Rattle.bits.proofs.Every.{both, both_left, both_right, every, every_at}
use Rattle.text.proofs.Puts.{◌then◌}
use Rattle.text.specs.Text.{ascii}
use Rattle.text.specs.Pages.{Puts}
use Rattle.text.specs.declared.Page.{Page}
use Rattle.w83782d_names.specs.Names.{Named, no_register, find}
use Rattle.w83782d_names.specs.Rows.{row_of, trimmed, sensor_rows, sensor_name}

abbrev pub same : List ℕ → List ℕ → Bool
same [] [] = true
same [] (y ∷ ys) = false
same (x ∷ xs) [] = false
same (x ∷ xs) (y ∷ ys) = both (eqb x y) (same xs ys)

pub same_is : (xs ys : List ℕ) → T (same xs ys) → xs ≡ ys
same_is [] [] t = refl
same_is [] (y ∷ ys) t = absurd t
same_is (x ∷ xs) [] t = absurd t
same_is (x ∷ xs) (y ∷ ys) t =
    let e = eqb→eq x y (both_left (eqb x y) (same xs ys) t) in
    let f = same_is xs ys (both_right (eqb x y) (same xs ys) t) in
    cc

-- two functions to lists agree from a number on, by computing both
pub same_from : (f g : ℕ → List ℕ) (first n : ℕ) → T (every (λ k. same (f (first + k)) (g (first + k))) n) → (i : ℕ)
    → first ≤ i → i < first + n → f i ≡ g i
same_from f g first n t i h k =
    let e : first + (i - first) ≡ i = omega arith in
    let at_row = every_at (λ k. same (f (first + k)) (g (first + k))) n t (i - first) (omega arith) in
    rw e at (same_is (f (first + (i - first))) (g (first + (i - first))) at_row)

-- ---- as it is put
pub put_same : (o p : Page) (w v : List ℕ) → w ≡ v → Puts o w p → Puts o v p
put_same o p w v e f = rw e at f

-- the row of an index in a table that starts at the index first
abbrev pub row_for : List ℕ → ℕ → ℕ → ℕ → List ℕ
row_for t width first i = trimmed (row_of t width (i - first))

-- the table t has the names of the indexes from first on
abbrev pub has_names : List ℕ → ℕ → ℕ → List Named → ℕ → Bool
has_names t width first names n =
    every (λ k. same (row_for t width first (first + k)) (ascii (find names (first + k)))) n

pub put_named : (first width n : ℕ) (names : List Named) (i : ℕ) → (first ≤ i) × (i < first + n)
    → (t : List ℕ) (o p : Page) → Puts o (row_for t width first i) p → T (has_names t width first names n)
    → Puts o (ascii (find names i)) p
put_named first width n names i h t o p f e =
    put_same o p _ _ (same_from (row_for t width first) (λ i. ascii (find names i)) first n e i h.0 h.1) f

-- ---- a sensor's register
module _ (s : List ℕ) (i : ℕ) where
  pub put_no_sensor : (o p : Page) → 0x56 < i → Puts o (ascii no_register) p
      → Puts o (sensor_name s i) p
  unfolding sensor_name
  put_no_sensor o p h f = rw (lt-ltb _ _ h) f

  pub put_sensor_name : (o p q : Page) → i ≤ 0x56 → Puts o s p
      → Puts p (ascii (find sensor_rows i)) q → Puts o (sensor_name s i) q
  unfolding sensor_name
  put_sensor_name o p q h f g = rw (le-ltb _ _ h) (f then g)
