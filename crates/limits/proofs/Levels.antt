-- Comparing levels is comparing temperatures: of a signed number by its code, and of half degrees by their two bytes.
-- Assumes nothing.
use mathlib.Core.Path.{◌≡◌, refl, ap, ◌∙◌}
use mathlib.Core.Bool.{true}
use Prim.Native.Nat.{ℕ, ◌*◌, ◌<◌}
use native.Mathlib.Omega.{arith}
use lib.Dec.{ltb}
use lib.IntN.{ℤ}
use lib.Signed.{lt_z}
use Rattle.numbers.specs.TwosComplement.{half9, holds, code_of, level_of, signed_of}
use Rattle.numbers.proofs.twos_complement.Complement.{twos_complement_holds, code_lt}
use Rattle.analog.specs.Temperature.{nine_bits, half_code_of, half_high, half_low}
use Rattle.analog.proofs.Halves.{nine_bits_hold, half_in, inside}

-- ---- levels compare as the signed numbers, and a number is given by its code
module _ (h : ℕ) (z : ℤ) (c : ℕ) (e : holds h z ≡ true) (l : c < 2 * h) where
  pub level_above : ltb (level_of h c) (level_of h (code_of h z)) ≡ lt_z (signed_of h c) z
  level_above =
      twos_complement_holds.levels h c (code_of h z) l (code_lt h z e)
      ∙ ap (lt_z (signed_of h c)) (twos_complement_holds.back h z e)

  pub level_below : ltb (level_of h (code_of h z)) (level_of h c) ≡ lt_z z (signed_of h c)
  level_below =
      twos_complement_holds.levels h (code_of h z) c (code_lt h z e) l
      ∙ ap (λ (y : ℤ). lt_z y (signed_of h c)) (twos_complement_holds.back h z e)

pub nine_lt : (high low : ℕ) → high < 256 → low < 256 → nine_bits high low < 512
nine_lt high low h l = omega arith

pub nine_code : (z : ℤ) → holds half9 z ≡ true
    → nine_bits (half_high (half_code_of z)) (half_low (half_code_of z)) ≡ code_of half9 z
nine_code z e = rw (← half_in z (code_of half9 z) (inside z e) refl) (nine_bits_hold.bytes (code_of half9 z))
