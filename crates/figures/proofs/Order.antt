-- The order of signed numbers, and the lesser and the greater of two.
-- Assumes nothing.
use mathlib.Core.Path.{◌≡◌, refl, sym, subst}
use mathlib.Core.Bool.{Bool, true, false, not, true≢false}
use mathlib.Core.Logic.{◌⊎◌, inl, inr}
use native.Mathlib.Nat.{le_of_lt}
use borrow.Author.Tests.{ltb-true}
use lib.Dec.{T, le→leb}
use lib.IntN.{ℤ, pos, negsuc}
use lib.Signed.{lt_z, ◌≤ℤ◌, le_z_yes, lt_z_yes, lt_z_no, ≤ℤ_refl, <ℤ-≤ℤ_trans, clash_ℤ}
use Rattle.bits.specs.Bits.{choose}
use Rattle.bits.proofs.BitLaws.{choose_ind}
use Rattle.figures.specs.Figure.{lesser, greater}

less_at_most : (a b : ℤ) → lt_z a b ≡ true → a ≤ℤ b
less_at_most (pos a) (pos b) e = le_z_yes (le→leb a b (le_of_lt (ltb-true a b e)))
less_at_most (pos a) (negsuc b) e = absurd (true≢false (sym e))
less_at_most (negsuc a) (pos b) e = le_z_yes tt
less_at_most (negsuc a) (negsuc b) e = le_z_yes (le→leb b a (le_of_lt (ltb-true b a e)))

not_less : (a b : ℤ) → lt_z a b ≡ false → b ≤ℤ a
not_less a b e = lt_z_no (subst (λ (t : Bool). T (not t)) (sym e) tt)

pub at_most_trans : (a b c : ℤ) → a ≤ℤ b → b ≤ℤ c → a ≤ℤ c
at_most_trans a b c h k = go (lt_z c a) refl
  where
    go : (t : Bool) → lt_z c a ≡ t → a ≤ℤ c
    go true e = clash_ℤ (<ℤ-≤ℤ_trans (lt_z_yes (subst T (sym e) tt)) h) k
    go false e = not_less c a e

module _ (a b : ℤ) where
  pub lesser_left : lesser a b ≤ℤ a
  unfolding lesser
  lesser_left = choose_ind (λ (x : ℤ). x ≤ℤ a) (lt_z b a) b a (less_at_most b a) (λ e. ≤ℤ_refl a)

  pub lesser_right : lesser a b ≤ℤ b
  unfolding lesser
  lesser_right = choose_ind (λ (x : ℤ). x ≤ℤ b) (lt_z b a) b a (λ e. ≤ℤ_refl b) (not_less b a)

  pub greater_left : a ≤ℤ greater a b
  unfolding greater
  greater_left = choose_ind (λ (x : ℤ). a ≤ℤ x) (lt_z a b) b a (less_at_most a b) (λ e. ≤ℤ_refl a)

  pub greater_right : b ≤ℤ greater a b
  unfolding greater
  greater_right = choose_ind (λ (x : ℤ). b ≤ℤ x) (lt_z a b) b a (λ e. ≤ℤ_refl b) (not_less a b)

  one_of_two : (t : Bool) → (choose t b a ≡ a) ⊎ (choose t b a ≡ b)
  one_of_two true = inr refl
  one_of_two false = inl refl

  pub lesser_one : (lesser a b ≡ a) ⊎ (lesser a b ≡ b)
  unfolding lesser
  lesser_one = one_of_two (lt_z b a)

  pub greater_one : (greater a b ≡ a) ⊎ (greater a b ≡ b)
  unfolding greater
  greater_one = one_of_two (lt_z a b)
