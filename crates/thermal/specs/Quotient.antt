-- Degrees by a step, and when their quotient has moved.
use Rattle.std.specs.Prelude.{◌≡◌, Bool, true, false, ◌||◌, ◌↔◌, ◌≢◌, ℕ, ◌/◌, ◌<◌, eqb, ℤ, pos, negsuc, ◌*ℤ◌, ◌≤ℤ◌, ◌<ℤ◌}
use Rattle.std.proofs.Math.IntN.{suc_ℤ}
use Rattle.std.specs.Int.Signed.{lt_z}
use Rattle.bits.specs.Bits.{choose}
use Rattle.numbers.specs.TwosComplement.{half8, holds}

-- rounded down: -1 by 5 is -1
abbrev pub floor_by : ℕ → ℤ → ℤ
floor_by k (pos n) = pos (n / k)
floor_by k (negsuc n) = negsuc (n / k)

-- house: degrees by a step, rounded down; step 0 gives 0
unfoldable pub quotient_by : ℕ → ℤ → ℤ
quotient_by step z = choose (eqb step 0) (pos 0) (floor_by step z)

-- house: the step is not 0, and the quotient is another than the kept one
unfoldable pub has_moved : ℕ → ℤ → ℤ → Bool
has_moved step kept latest = choose (eqb step 0) false (lt_z kept latest || lt_z latest kept)

-- what is claimed of quotients
pub record QuotientDown : Type 0 where
  -- so many steps are at most the number and one more is above it, and of no other quotient is this so
  pub at_most : (k : ℕ) (z : ℤ) → 0 < k → (quotient_by k z *ℤ pos k) ≤ℤ z
  pub next_above : (k : ℕ) (z : ℤ) → 0 < k → z <ℤ (suc_ℤ (quotient_by k z) *ℤ pos k)
  pub only : (k : ℕ) (z q : ℤ) → 0 < k → (q *ℤ pos k) ≤ℤ z → z <ℤ (suc_ℤ q *ℤ pos k) → q ≡ quotient_by k z
  -- step 0 gives 0
  pub by_zero : (z : ℤ) → quotient_by 0 z ≡ pos 0
  -- a signed byte's is a signed byte
  pub byte : (k : ℕ) (z : ℤ) → holds half8 z ≡ true → holds half8 (quotient_by k z) ≡ true

-- it has moved exactly where the step is not 0 and the quotients differ
abbrev pub MovedExactly : Type 0
MovedExactly = (step : ℕ) (kept latest : ℤ) → (has_moved step kept latest ≡ true) ↔ ((step ≢ 0) × (kept ≢ latest))
