-- A temperature with its offset, held within what a signed byte holds.
use Rattle.std.specs.Prelude.{◌≡◌, ℤ, pos, negsuc, ◌+ℤ◌, ◌≤ℤ◌, ◌<ℤ◌}
use Rattle.std.specs.Int.Signed.{non_neg}
use Rattle.bits.specs.Bits.{choose}
use Rattle.numbers.specs.TwosComplement.{half8, holds}

-- a number as far as a signed byte holds it: beyond that, the nearest one that it holds
unfoldable pub held : ℤ → ℤ
held z = choose (holds half8 z) z (choose (non_neg z) (pos 127) (negsuc 127))

-- house: the sample plus the signed offset byte, held; it never wraps
unfoldable pub held_sum : ℤ → ℤ → ℤ
held_sum sample offset = held (sample +ℤ offset)

-- what is claimed of it, over any two numbers
pub record HeldSum : Type 0 where
  -- never beyond -128 to 127
  pub from : (a b : ℤ) → negsuc 127 ≤ℤ held_sum a b
  pub to : (a b : ℤ) → held_sum a b ≤ℤ pos 127
  -- the sum where that is within, else the nearer end
  pub within : (a b : ℤ) → negsuc 127 ≤ℤ (a +ℤ b) → (a +ℤ b) ≤ℤ pos 127 → held_sum a b ≡ a +ℤ b
  pub below : (a b : ℤ) → (a +ℤ b) <ℤ negsuc 127 → held_sum a b ≡ negsuc 127
  pub above : (a b : ℤ) → pos 127 <ℤ (a +ℤ b) → held_sum a b ≡ pos 127
