-- A signed number's characters and their meaning. Assumes nothing.
use Prim.Native.Nat.{ℕ, suc}
use native.Mathlib.Omega.{arith}
use mathlib.Core.Path.{◌≡◌, refl, ap, ◌∙◌}
use mathlib.Core.List.{List, [], ◌∷◌}
use lib.IntN.{ℤ, pos, negsuc, nat_abs}
use mathlib.Core.Bool.{true, false}
use lib.Signed.{lt_z}
use borrow.Author.Tests.{ltb-true, ne_eqb}
use Rattle.text.specs.Pages.{Puts}
use Rattle.text.specs.declared.Page.{Page}
use Rattle.text.proofs.Puts.{◌then◌}
use Rattle.text.proofs.Decimal.{decimals}
use Rattle.text.specs.Numbers.{Digits, value_after, value, decimal, places}
use Rattle.text.specs.Numbers.{with_sign, signed, signed_places, negated, signed_value, Signs}

-- ---- what the characters mean
no_sign : (ds : List ℕ) → Digits ds → signed_value ds ≡ pos (value ds)
unfolding value_after
no_sign [] t = refl
no_sign (d ∷ ds) t = let h : d ≡ 45 → ⊥ = λ e. omega (arith, t.0.0) in rw (ne_eqb d 45 h)

pub signs : Signs
unfolding signed
signs =
    record {
      plain = decimals.digits;
      means = means_of;
    }
  where
    means_of : (z : ℤ) → signed_value (with_sign decimal z) ≡ z
    means_of (pos n) = no_sign (decimal n) (decimals.digits n) ∙ ap pos (decimals.means n)
    means_of (negsuc n) = ap negated (decimals.means (suc n))

-- ---- as it is put
pub no_places : (z : ℤ) → signed z ≡ signed_places 0 z
unfolding signed signed_places places
no_places (pos n) = refl
no_places (negsuc n) = refl

pub put_below : (k n : ℕ) (z : ℤ) (o p q : Page) → lt_z z (pos 0) ≡ true → Puts o (45 ∷ []) p
    → Puts p (places k n) q → n ≡ nat_abs z → Puts o (signed_places k z) q
unfolding signed_places
put_below k n (pos m) o p q h f g e = absurd (omega (arith, ltb-true m 0 h))
put_below k n (negsuc m) o p q h f g e = f then rw e at g

pub put_above : (k n : ℕ) (z : ℤ) (o q : Page) → lt_z z (pos 0) ≡ false → Puts o (places k n) q → n ≡ nat_abs z
    → Puts o (signed_places k z) q
unfolding signed_places
put_above k n (pos m) o q h g e = rw e at g
put_above k n (negsuc m) o q h g e = let x : ◌≡◌ {A = ℕ} 0 1 = cc in absurd (omega arith)
