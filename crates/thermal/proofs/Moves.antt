-- Two quotients differ exactly where one is below the other, and signed bytes exactly where their bits do.
-- Assumes nothing.
use Prim.Native.Nat.{ℕ}
use native.Mathlib.Omega.{arith}
use mathlib.Core.Path.{◌≡◌, refl, sym, ap, ◌∙◌}
use mathlib.Core.Bool.{Bool, true, false, not, ◌||◌, true≢false}
use mathlib.Core.Logic.{◌≢◌}
use lib.Dec.{ltb, eqb}
use lib.IntN.{ℤ, pos, negsuc}
use lib.Signed.{lt_z}
use mir.Syntax.{w8}
use mir.Val.{SFits, to_z, of_z}
use mir.ValLaws.{to_z-of_z}
use borrow.Author.Tests.{eqb-true, eqb-false, eq-eqb, ne_eqb, ltb-false, lt-ltb, le-ltb}
use Rattle.thermal.specs.Quotient.{has_moved, MovedExactly}

-- ---- two numbers
abbrev apart : ℤ → ℤ → Bool
apart a b = lt_z a b || lt_z b a

apart_numbers : (m n : ℕ) → m ≢ n → (ltb m n || ltb n m) ≡ true
apart_numbers m n d = go (ltb m n) refl
  where
    go : (t : Bool) → ltb m n ≡ t → (t || ltb n m) ≡ true
    go true e = refl
    go false e = lt-ltb n m (omega (arith, d, ltb-false m n e))

differ : (a b : ℤ) → a ≢ b → apart a b ≡ true
differ (pos m) (pos n) d = apart_numbers m n (λ e. d (ap pos e))
differ (pos m) (negsuc n) d = refl
differ (negsuc m) (pos n) d = refl
differ (negsuc m) (negsuc n) d = apart_numbers n m (λ e. d (ap negsuc (sym e)))

alike : (a b : ℤ) → a ≡ b → apart a b ≡ false
alike a b e = ap (λ (x : ℤ). apart x b) e ∙ none b
  where
    none : (z : ℤ) → apart z z ≡ false
    none (pos n) = rw (le-ltb n n (omega arith))
    none (negsuc n) = rw (le-ltb n n (omega arith))

-- ---- with step 0
pub stays : (k : ℕ) (a b : ℤ) → k ≡ 0 → false ≡ has_moved k a b
unfolding has_moved
stays k a b e = rw (eq-eqb k 0 e)

by_step : (k : ℕ) (a b : ℤ) → k ≢ 0 → has_moved k a b ≡ apart a b
unfolding has_moved
by_step k a b e = rw (ne_eqb k 0 e)

pub moved_exactly : MovedExactly
moved_exactly k a b = (
  (λ t. ((λ e. true≢false (sym t ∙ sym (stays k a b e))), other t)),
  (λ d. by_step k a b d.0 ∙ differ a b d.1),
)
  where
    other : has_moved k a b ≡ true → a ≢ b
    other t e = true≢false (sym t ∙ by_step k a b (λ z. true≢false (sym t ∙ sym (stays k a b z))) ∙ alike a b e)

-- ---- as the code compares them, by their bits
module _ (a b : ℤ) (fa : SFits w8 a) (fb : SFits w8 b) where
  bits_apart : not (eqb (of_z w8 a) (of_z w8 b)) ≡ apart a b
  bits_apart = go (eqb (of_z w8 a) (of_z w8 b)) refl
    where
      go : (t : Bool) → eqb (of_z w8 a) (of_z w8 b) ≡ t → not t ≡ apart a b
      go true e =
          let q : a ≡ b = sym (to_z-of_z w8 a fa) ∙ ap (to_z w8) (eqb-true (of_z w8 a) (of_z w8 b) e) ∙ to_z-of_z w8 b fb in
          sym (alike a b q)
      go false e = sym (differ a b (λ q. eqb-false (of_z w8 a) (of_z w8 b) e (ap (of_z w8) q)))

  pub moves : (k : ℕ) → k ≢ 0 → not (eqb (of_z w8 a) (of_z w8 b)) ≡ has_moved k a b
  moves k e = bits_apart ∙ sym (by_step k a b e)
