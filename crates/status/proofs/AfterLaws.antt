-- A status bit after an event that clears and latches nothing, that clears the whole byte, that only latches.
-- Assumes nothing.
use mathlib.Core.Path.{◌≡◌}
use mathlib.Core.Bool.{Bool, true}
use Prim.Native.Nat.{ℕ, ◌<◌, max}
use native.Mathlib.Omega.{arith}
use Rattle.bits.specs.Bits.{bit, is_on, choose}
use Rattle.bits.proofs.BitLaws.{bit_none}
use Rattle.bits.proofs.Every.{same_tests}
use Rattle.status.specs.Status.{bit_after}

pub max_none : (b : ℕ) → b ≡ max b 0
max_none b = omega arith

pub bit_kept : (b j : ℕ) → b ≡ bit_after b 0 0 j
bit_kept b j = rw (bit_none j) (max_none b)

pub bit_latched : (b l j : ℕ) → max b (bit l j) ≡ bit_after b 0 l j
bit_latched b l j = rw (bit_none j)

-- 255 has every bit of a byte
pub all_on : (j : ℕ) → j < 8 → is_on 0b1111_1111 j ≡ true
unfolding bit
all_on = same_tests 8 (λ j. is_on 0b1111_1111 j) (λ j. true) tt

pub bit_cleared : (b j : ℕ) → j < 8 → 0 ≡ bit_after b 0b1111_1111 0 j
bit_cleared b j h = go (is_on 0b1111_1111 j) (all_on j h)
  where
    go : (on : Bool) → on ≡ true → 0 ≡ max (choose on 0 b) (bit 0 j)
    go on e = rw (e, bit_none j)
