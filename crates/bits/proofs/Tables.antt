-- Tables, and a slice filled from the front: i elements of one list before the rest of another.
-- Assumes nothing.
use mathlib.Core.Path.{◌≡◌, refl, ap, sym, ◌∙◌}
use mathlib.Core.List.{List, [], ◌∷◌, ◌++◌, append-nil}
use Prim.Native.Nat.{ℕ, zero, suc, ◌+◌, ◌<◌}
use native.Mathlib.Omega.{arith}
use native.Mathlib.Nat.{add-zero, zero-add}
use lib.Seq.{take_all, drop-length}
use lib.ListN.{length, take, drop, get_or, set}
use Rattle.bits.specs.Map.{tabulate}

pub tabulate_length : (n i : ℕ) (f : ℕ → ℕ) → length (tabulate n i f) ≡ n
tabulate_length zero i f = refl
tabulate_length (suc n) i f = ap suc (tabulate_length n (suc i) f)

tabulate_from : (n i : ℕ) (f : ℕ → ℕ) (k : ℕ) → k < n → get_or (tabulate n i f) k 0 ≡ f (i + k)
tabulate_from zero i f k h = absurd (omega arith)
tabulate_from (suc n) i f zero h = ap f (sym (add-zero i))
tabulate_from (suc n) i f (suc k) h = tabulate_from n (suc i) f k (omega arith) ∙ ap f (omega arith)

pub tabulate_at : (n : ℕ) (f : ℕ → ℕ) (k : ℕ) → k < n → get_or (tabulate n 0 f) k 0 ≡ f k
tabulate_at n f k h = tabulate_from n 0 f k h ∙ ap f (zero-add k)

-- the first i elements of a, and o from i on
unfoldable pub over : List ℕ → List ℕ → ℕ → List ℕ
over a o i = take i a ++ drop i o

pub over_none : (a o : List ℕ) → over a o 0 ≡ o
unfolding over
over_none a o = refl

pub over_next : (a o : List ℕ) (i : ℕ) → i < length a → i < length o
    → set (over a o i) i (get_or a i 0) ≡ over a o (suc i)
unfolding over
over_next [] o i h k = absurd (omega arith)
over_next (x ∷ a) [] i h k = absurd (omega arith)
over_next (x ∷ a) (y ∷ o) zero h k = refl
over_next (x ∷ a) (y ∷ o) (suc i) h k = ap (λ (l : List ℕ). x ∷ l) (over_next a o i (omega arith) (omega arith))

-- what is not yet filled
pub over_at : (a o : List ℕ) (i : ℕ) → i < length a → i < length o → get_or (over a o i) i 0 ≡ get_or o i 0
unfolding over
over_at [] o i h k = absurd (omega arith)
over_at (x ∷ a) [] i h k = absurd (omega arith)
over_at (x ∷ a) (y ∷ o) zero h k = refl
over_at (x ∷ a) (y ∷ o) (suc i) h k = over_at a o i (omega arith) (omega arith)

pub over_all : (a o : List ℕ) (n : ℕ) → length a ≡ n → length o ≡ n → over a o n ≡ a
unfolding over
over_all a o n h k = rw (take_all n a (omega arith), ← k, drop-length) (append-nil a)
