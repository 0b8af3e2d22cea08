-- A number of 8 or 16 bits with a sign, as one of 64 bits: it fits, and is the same number. Assumes nothing.
use Rattle.std.proofs.Common.{◌≡◌, ℤ, ◌∙◌, arith, w8, w16, w64, SFits, to_z, of_z}
use mir.ValLaws.{to_z-of_z}

pub wide_8 : (z : ℤ) → SFits w8 z → SFits w64 (to_z w8 (of_z w8 z))
wide_8 z s = rw (to_z-of_z w8 z s) (record { sfits = omega (arith, s.sfits) })

pub wide_16 : (z : ℤ) → SFits w16 z → SFits w64 (to_z w16 (of_z w16 z))
wide_16 z s = rw (to_z-of_z w16 z s) (record { sfits = omega (arith, s.sfits) })

pub same_8 : (z : ℤ) → SFits w8 z → to_z w64 (of_z w64 (to_z w8 (of_z w8 z))) ≡ z
same_8 z s = to_z-of_z w64 _ (wide_8 z s) ∙ to_z-of_z w8 z s

pub same_16 : (z : ℤ) → SFits w16 z → to_z w64 (of_z w64 (to_z w16 (of_z w16 z))) ≡ z
same_16 z s = to_z-of_z w64 _ (wide_16 z s) ∙ to_z-of_z w16 z s
