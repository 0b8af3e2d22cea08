-- The figure of a list, one value more, and what it means. The least and the greatest share their laws, over what picks
-- one of two. Assumes nothing.
use mathlib.Core.Path.{◌≡◌, refl, sym, ap, subst, ◌∙◌}
use mathlib.Core.Bool.{Bool, true, false}
use mathlib.Core.Logic.{◌⊎◌, inl, inr, ⊎_elim, ◌≢◌}
use mathlib.Core.List.{List, [], ◌∷◌, ◌++◌}
use mathlib.Core.List.Memᴰ
use mathlib.Core.List.{Memᴰ}
use Prim.Native.Nat.{ℕ, suc, ◌+◌, ◌*◌, ◌^◌, ◌<◌, ◌≤◌}
use native.Mathlib.Omega.{arith}
use borrow.Author.Tests.{lt-ltb, ltb-true, ne_eqb}
use lib.Dec.{ltb}
use lib.IntN.{ℤ, pos, negsuc, nat_abs, sub_ℕ, ◌+ℤ◌, +ℤ_assoc, +ℤ_idl, +ℤ_idr}
use lib.ListN.{length}
use lib.Signed.{◌≤ℤ◌, ≤ℤ_refl}
use Rattle.numbers.specs.TwosComplement.{holds}
use Rattle.figures.specs.Figure.{figure, lesser, greater, picked_from, picked, sum_of}
use Rattle.numbers.specs.Wrapping.{half64, wrapped}
use Rattle.figures.specs.Figure.{figure_of, figure_after, Within, RunningFigures}
use Rattle.figures.proofs.Order.{at_most_trans, lesser_left, lesser_right, lesser_one}
use Rattle.figures.proofs.Order.{greater_left, greater_right, greater_one}
use Rattle.numbers.proofs.wrapping.Sums.{wrapped_more, wrapped_same}

module _ (pick : ℤ → ℤ → ℤ) where
  -- ---- one value more
  from_more : (zs : List ℤ) (m z : ℤ) → picked_from pick m (zs ++ (z ∷ [])) ≡ pick (picked_from pick m zs) z
  unfolding picked_from
  from_more [] m z = refl
  from_more (y ∷ zs) m z = from_more zs (pick m y) z

  -- ---- the one that is picked is before each of the values, in an order that pick follows
  module _ (R : ℤ → ℤ → Type 0) (same : (a : ℤ) → R a a) (chain : (a b c : ℤ) → R a b → R b c → R a c)
      (left : (a b : ℤ) → R (pick a b) a) (right : (a b : ℤ) → R (pick a b) b) where
    from_first : (zs : List ℤ) (m : ℤ) → R (picked_from pick m zs) m
    unfolding picked_from
    from_first [] m = same m
    from_first (y ∷ zs) m = chain _ (pick m y) m (from_first zs (pick m y)) (left m y)

    from_each : (zs : List ℤ) (m z : ℤ) → (z ≡ m) ⊎ Memᴰ z zs → R (picked_from pick m zs) z
    unfolding picked_from
    from_each zs m z (inl e) = subst (R (picked_from pick m zs)) (sym e) (from_first zs m)
    from_each [] m z (inr k) = absurd (Memᴰ.not-nil k)
    from_each (y ∷ zs) m z (inr k) =
        let last : ℤ = picked_from pick (pick m y) zs in
        ⊎_elim (λ e. subst (R last) (sym e) (chain last (pick m y) y (from_first zs (pick m y)) (right m y)))
        (λ n. from_each zs (pick m y) z (inr n)) (Memᴰ.cases_cons k)

    bounds : (zs : List ℤ) (z : ℤ) → Memᴰ z zs → R (picked pick zs) z
    unfolding picked
    bounds [] z k = absurd (Memᴰ.not-nil k)
    bounds (y ∷ zs) z k = from_each zs y z (Memᴰ.cases_cons k)

  -- ---- and it is one of them
  module _ (one : (a b : ℤ) → (pick a b ≡ a) ⊎ (pick a b ≡ b)) where
    from_one : (zs : List ℤ) (m : ℤ) → Memᴰ (picked_from pick m zs) (m ∷ zs)
    unfolding picked_from
    from_one [] m = Memᴰ.head refl
    from_one (y ∷ zs) m =
        ⊎_elim
        (λ e. ⊎_elim (λ f. Memᴰ.head (e ∙ f)) (λ f. Memᴰ.tail (Memᴰ.head (e ∙ f))) (one m y))
        (λ k. Memᴰ.tail (Memᴰ.tail k)) (Memᴰ.cases_cons (from_one zs (pick m y)))

    is_one : (zs : List ℤ) → zs ≢ [] → Memᴰ (picked pick zs) zs
    unfolding picked
    is_one [] n = absurd (n refl)
    is_one (y ∷ zs) n = from_one zs y

-- ---- the sum
sum_more : (zs : List ℤ) (z : ℤ) → sum_of (zs ++ (z ∷ [])) ≡ sum_of zs +ℤ z
unfolding sum_of
sum_more [] z = +ℤ_idr z ∙ sym (+ℤ_idl z)
sum_more (y ∷ zs) z = ap (λ (x : ℤ). y +ℤ x) (sum_more zs z) ∙ sym (+ℤ_assoc y (sum_of zs) z)

sum_step : (zs : List ℤ) (z : ℤ) → wrapped (wrapped (sum_of zs) +ℤ z) ≡ wrapped (sum_of (zs ++ (z ∷ [])))
sum_step zs z = wrapped_more (sum_of zs) z ∙ ap wrapped (sym (sum_more zs z))

size_less : (a b : ℕ) (t : Bool) → ltb a (suc b) ≡ t → nat_abs (sub_ℕ a (suc b)) ≤ a + suc b
size_less a b true e = let h : a < suc b = ltb-true a (suc b) e in rw e (omega arith)
size_less a b false e = rw e (omega arith)

size_add : (a b : ℤ) → nat_abs (a +ℤ b) ≤ nat_abs a + nat_abs b
size_add (pos a) (pos b) = omega arith
size_add (pos a) (negsuc b) = size_less a b (ltb a (suc b)) refl
size_add (negsuc a) (pos b) = omega (arith, size_less b a (ltb b (suc a)) refl)
size_add (negsuc a) (negsuc b) = omega arith

size_sum : (b : ℕ) (zs : List ℤ) → Within b zs → nat_abs (sum_of zs) ≤ b * length zs
unfolding sum_of
size_sum b [] m = omega arith
size_sum b (z ∷ zs) m = omega (arith, size_add z (sum_of zs), size_sum b zs m.1, m.0)

small_holds : (z : ℤ) → nat_abs z ≤ 2 ^ 62 → holds half64 z ≡ true
small_holds (pos n) h = lt-ltb n half64 (omega arith)
small_holds (negsuc n) h = lt-ltb n half64 (omega arith)

-- ---- all three
step : (zs : List ℤ) (z : ℤ) → figure_after (length zs) (figure_of zs) z ≡ figure_of (zs ++ (z ∷ []))
unfolding figure_after picked picked_from
step [] z = ap (figure z z) (sum_step [] z)
step (y ∷ zs) z =
    let n : length (y ∷ zs) ≡ 0 → ⊥ = λ e. omega arith in
    rw (ne_eqb (length (y ∷ zs)) 0 n, ← from_more lesser zs y z, ← from_more greater zs y z, sum_step (y ∷ zs) z) refl

pub running_figures : RunningFigures
running_figures =
    record {
      step = step;
      least = bounds lesser ◌≤ℤ◌ ≤ℤ_refl at_most_trans lesser_left lesser_right;
      least_is_one = is_one lesser lesser_one;
      greatest =
          bounds greater (λ a b. b ≤ℤ a) ≤ℤ_refl (λ a b c h k. at_most_trans c b a k h) greater_left greater_right;
      greatest_is_one = is_one greater greater_one;
      sum = λ zs m l. wrapped_same (sum_of zs) (small_holds (sum_of zs) (omega (arith, size_sum (2 ^ 32) zs m)));
      size = size_sum;
    }
