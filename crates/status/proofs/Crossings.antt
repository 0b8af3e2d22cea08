-- A crossing bit by bit: what is not in `crossing` is left as it is.
-- Assumes nothing.
use mathlib.Core.Path.{◌≡◌, ap, ◌∙◌}
use mathlib.Core.Bool.{xor}
use Prim.Native.Nat.{ℕ, zero, suc, ◌<◌, min}
use native.Mathlib.Omega.{arith}
use lib.Bits.{bit_and, differ, and_le_r, xor_lt}
use lib.Dec.{eqb}
use Rattle.bits.specs.Bits.{bit, flag_of, choose}
use Rattle.bits.proofs.BitLaws.{bit_lt, and_bit, xor_bit}
use Rattle.bits.proofs.Every.{same_below2}
use Rattle.status.specs.Status.{crossed_of}
use Rattle.status.specs.Claims.{Crosses}

-- one bit: now, before and of `crossing`
one_bit : (n b m : ℕ) → n < 2 → b < 2 → m < 2
    → differ n (min b m) ≡ flag_of (choose (eqb m 1) (xor (eqb n 1) (eqb b 1)) (eqb n 1))
unfolding xor
one_bit n b zero h k l = same_below2 2 2 (λ n b. differ n (min b 0)) (λ n b. flag_of (eqb n 1)) tt n b h k
one_bit n b (suc zero) h k l =
    same_below2 2 2 (λ n b. differ n (min b 1)) (λ n b. flag_of (xor (eqb n 1) (eqb b 1))) tt n b h k
one_bit n b (suc (suc m)) h k l = absurd (omega arith)

pub crosses : Crosses
unfolding crossed_of
crosses before crossing now j =
    xor_bit now (bit_and before crossing) j
    ∙ ap (differ (bit now j)) (and_bit before crossing j)
    ∙ one_bit (bit now j) (bit before j) (bit crossing j) (bit_lt now j) (bit_lt before j) (bit_lt crossing j)

pub crossed_lt : (before crossing now : ℕ) → crossing < 256 → now < 256 → crossed_of before crossing now < 256
unfolding crossed_of
crossed_lt before crossing now h k = xor_lt 8 now (bit_and before crossing) k (omega (arith, and_le_r before crossing))
