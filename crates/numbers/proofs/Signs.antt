-- Signed numbers of a machine width, by their magnitudes: differences, and the machine's 0 - n.
-- Over any width. Assumes nothing.
use Rattle.std.proofs.Common.{◌≡◌, ℕ, zero, suc, ◌-◌, ◌^◌, ◌<◌, ◌≤◌, ℤ, pos, negsuc, ◌-ℤ◌, neg_ℤ, sym, refl, ap, ◌∙◌, subst, arith, SFits, to_z, of_z, le-ltb, lt-ltb}
use lib.IntN.{sub_ℕ, +ℤ_idl}
use lib.Signed.{mag}
use mir.Syntax.{Width}
use mir.Val.{hbits}
use mir.ValLaws.{to_z-of_z, to_z_pos}

-- a difference of two numbers
sub_is : (a b : ℕ) → pos a -ℤ pos b ≡ sub_ℕ a b
sub_is a zero = simp (le-ltb a 0 (omega arith)) (ap pos (omega arith))
sub_is a (suc b) = refl

pub minus_is : (a b : ℕ) → a < b → pos a -ℤ pos b ≡ negsuc (b - suc a)
minus_is a b h = sub_is a b ∙ simp (lt-ltb a b h)

pub plus_is : (a b : ℕ) → b ≤ a → pos a -ℤ pos b ≡ pos (a - b)
plus_is a b h = sub_is a b ∙ simp (le-ltb a b h)

-- the machine's negation
module _ (w : Width) where
  small : (n : ℕ) → n < 2 ^ hbits w → mag (neg_ℤ (pos n)) < 2 ^ hbits w
  small zero h = h
  small (suc n) h = omega arith

  pub neg_fits : (n : ℕ) → n < 2 ^ hbits w → SFits w (pos 0 -ℤ to_z w n)
  neg_fits n h = rw (to_z_pos w n h) (subst (SFits w) (sym (+ℤ_idl (neg_ℤ (pos n)))) (record { sfits = small n h }))

  pub neg_back : (n : ℕ) → n < 2 ^ hbits w → to_z w (of_z w (pos 0 -ℤ to_z w n)) ≡ neg_ℤ (pos n)
  neg_back n h =
      to_z-of_z w (pos 0 -ℤ to_z w n) (neg_fits n h) ∙ ap (λ (z : ℤ). pos 0 -ℤ z) (to_z_pos w n h) ∙ +ℤ_idl (neg_ℤ (pos n))
