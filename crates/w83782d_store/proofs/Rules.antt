-- Four stores, one after the other, are the list of readings. Assumes nothing.
use mathlib.Core.Path.{◌≡◌}
use mathlib.Core.List.{List}
use Prim.Native.Nat.{ℕ}
use borrow.Author.Tests.{eq-eqb}
use lib.IntN.{ℤ}
use lib.ListN.{length}
use Rattle.w83782d_layout.specs.declared.samples.Sample.{Sample}
use Rattle.w83782d_map.specs.Map.{cells}
use Rattle.w83782d_store.specs.Stored.{sampled_halves, stored_readings}
use Rattle.w83782d_store.specs.StoredParts.{with_counts, with_codes, with_halves, stored_in}

pub stored_in_law : (rs : List ℕ) (x : Sample) → length rs ≡ cells → stored_readings rs x ≡ stored_in rs x
stored_in_law rs x h = simp (eq-eqb (length rs) cells h)

pub readings_stored : (rs q a b c d : List ℕ) (x : Sample) (t u : ℤ) → q ≡ rs → length rs ≡ cells
    → a ≡ with_counts q x → b ≡ with_codes a x → c ≡ with_halves b 64 t → d ≡ with_halves c 80 u
    → t ≡ sampled_halves x 2 → u ≡ sampled_halves x 3
    → d ≡ stored_in rs x
unfolding stored_readings with_halves with_codes with_counts
readings_stored rs q a b c d x t u e h e1 e2 e3 e4 et eu = simp (eq-eqb (length rs) cells h, e4, e3, e2, e1, et, eu, e)
