-- A quotient rounded down, on either side of 0, and the same as the code makes it.
-- Assumes nothing.
use Prim.Native.Nat.{ℕ, zero, suc, ◌*◌, ◌/◌, ◌≤◌, ◌<◌}
use native.Mathlib.Nat.{div-mul-le_self, lt-div-mul-add, div-eq_of_lt-le, div-le_self, suc-mul, zero-mul}
use native.Mathlib.Numerals.{add-one}
use native.Mathlib.Omega.{arith}
use mathlib.Core.Path.{◌≡◌, refl, sym, ap, ◌∙◌}
use mathlib.Core.Bool.{true}
use mathlib.Core.Logic.{◌≢◌}
use lib.Dec.{eqb, leb→le, le→leb, ltb→lt, lt→ltb}
use lib.IntN.{ℤ, pos, negsuc, neg_ℤ, suc_ℤ, ◌*ℤ◌}
use lib.Signed.{◌≤ℤ◌, ◌<ℤ◌}
use mir.Syntax.{w8, w16}
use mir.Val.{SFits, to_z}
use mir.ValLaws.{to_z-of_z, to_z_pos}
use borrow.Author.Tests.{ltb-true, lt-ltb, eq-eqb, ne_eqb}
use Rattle.bits.proofs.BitLaws.{choose_ind}
use Rattle.numbers.specs.TwosComplement.{half8, holds}
use Rattle.numbers.proofs.twos_complement.Turned.{read}
use Rattle.std.specs.Int.{int_div_euclid}
use Rattle.thermal.specs.Quotient.{floor_by, quotient_by, QuotientDown}

-- ---- so many below 0, against a number below 0
module _ (n : ℕ) where
  low_at_most : (m : ℕ) → n < m → neg_ℤ (pos m) ≤ℤ negsuc n
  low_at_most zero h = absurd (omega arith)
  low_at_most (suc m) h = record { le = le→leb n m (omega arith) }

  at_most_low : (m : ℕ) → neg_ℤ (pos m) ≤ℤ negsuc n → n < m
  at_most_low zero h = absurd h.le
  at_most_low (suc m) h = omega (arith, leb→le n m h.le)

  low_above : (m : ℕ) → m ≤ n → negsuc n <ℤ neg_ℤ (pos m)
  low_above zero h = record { lt = tt }
  low_above (suc m) h = record { lt = lt→ltb m n (omega arith) }

  above_low : (m : ℕ) → negsuc n <ℤ neg_ℤ (pos m) → m ≤ n
  above_low zero h = omega arith
  above_low (suc m) h = omega (arith, ltb→lt m n h.lt)

  -- none of them is above a number from 0 on
  never_above : (m : ℕ) → pos n <ℤ neg_ℤ (pos m) → ⊥
  never_above zero h = omega (arith, ltb→lt n 0 h.lt)
  never_above (suc m) h = h.lt

-- one step more than a quotient below 0
next_low : (a k : ℕ) → suc_ℤ (negsuc a) *ℤ pos k ≡ neg_ℤ (pos (a * k))
next_low zero k = rw (zero-mul k)
next_low (suc a) k = refl

-- ---- rounded down
module _ (k : ℕ) (p : 0 < k) where
  below_next : (n : ℕ) → n < suc (n / k) * k
  below_next n = rw (suc-mul (n / k) k) (lt-div-mul-add {a = n} p)

  only_one : (a n : ℕ) → a * k ≤ n → n < suc a * k → a ≡ n / k
  only_one a n l h = sym (div-eq_of_lt-le {k = a} k {m = n} l (rw (add-one a) h))

  floor_at_most : (z : ℤ) → (floor_by k z *ℤ pos k) ≤ℤ z
  floor_at_most (pos n) = record { le = le→leb (n / k * k) n (div-mul-le_self n k) }
  floor_at_most (negsuc n) = low_at_most n (suc (n / k) * k) (below_next n)

  floor_next : (z : ℤ) → z <ℤ (suc_ℤ (floor_by k z) *ℤ pos k)
  floor_next (pos n) = record { lt = lt→ltb n (suc (n / k) * k) (below_next n) }
  floor_next (negsuc n) = rw (next_low (n / k) k) (low_above n (n / k * k) (div-mul-le_self n k))

  floor_only : (z q : ℤ) → (q *ℤ pos k) ≤ℤ z → z <ℤ (suc_ℤ q *ℤ pos k) → q ≡ floor_by k z
  floor_only (pos n) (pos a) l h =
      ap pos (only_one a n (leb→le (a * k) n l.le) (ltb→lt n (suc a * k) h.lt))
  floor_only (pos n) (negsuc a) l h = absurd (never_above n (a * k) (rw (next_low a k) at h))
  floor_only (negsuc n) (pos a) l h = absurd l.le
  floor_only (negsuc n) (negsuc a) l h =
      ap negsuc (only_one a n (above_low n (a * k) (rw (next_low a k) at h)) (at_most_low n (suc a * k) l))

floor_byte : (k : ℕ) (z : ℤ) → holds half8 z ≡ true → holds half8 (floor_by k z) ≡ true
floor_byte k (pos n) e = lt-ltb (n / k) half8 (omega (arith, ltb-true n half8 e, div-le_self n k))
floor_byte k (negsuc n) e = lt-ltb (n / k) half8 (omega (arith, ltb-true n half8 e, div-le_self n k))

-- ---- with step 0
pub by_none : (k : ℕ) (z : ℤ) → k ≡ 0 → pos 0 ≡ quotient_by k z
unfolding quotient_by
by_none k z e = rw (eq-eqb k 0 e)

by_step : (k : ℕ) (z : ℤ) → k ≢ 0 → quotient_by k z ≡ floor_by k z
unfolding quotient_by
by_step k z e = rw (ne_eqb k 0 e)

by_more : (k : ℕ) (z : ℤ) → 0 < k → quotient_by k z ≡ floor_by k z
by_more k z p = by_step k z (λ e. omega arith)

quotient_byte : (k : ℕ) (z : ℤ) → holds half8 z ≡ true → holds half8 (quotient_by k z) ≡ true
unfolding quotient_by
quotient_byte k z e =
    choose_ind (λ (x : ℤ). holds half8 x ≡ true) (eqb k 0) (pos 0) (floor_by k z) (λ t. refl) (λ t. floor_byte k z e)

pub quotient_down : QuotientDown
quotient_down =
    record {
      at_most = λ k z p. rw (by_more k z p) (floor_at_most k p z);
      next_above = λ k z p. rw (by_more k z p) (floor_next k p z);
      only = λ k z q p l h. floor_only k p z q l h ∙ sym (by_more k z p);
      by_zero = λ z. sym (by_none 0 z refl);
      byte = quotient_byte;
    }

-- ---- as the code makes it, in 16 bits
euclid_is : (k : ℕ) (z : ℤ) → int_div_euclid z (pos k) ≡ floor_by k z
euclid_is k (pos n) = refl
euclid_is k (negsuc n) = refl

floor_fits : (k : ℕ) (z : ℤ) → SFits w8 z → SFits w8 (floor_by k z)
floor_fits k (pos n) f = record { sfits = omega (arith, f.sfits, div-le_self n k) }
floor_fits k (negsuc n) f = record { sfits = omega (arith, f.sfits, div-le_self n k) }

module _ (z : ℤ) (f : SFits w8 z) where
  wide : SFits w16 z
  wide = record { sfits = omega (arith, f.sfits) }

  as_wide : read w16 (read w8 z) ≡ z
  as_wide = rw (to_z-of_z w8 z f) (to_z-of_z w16 z wide)

  as_byte : read w8 (read w16 z) ≡ z
  as_byte = rw (to_z-of_z w16 z wide) (to_z-of_z w8 z f)

pub by_euclid : (k : ℕ) (z r : ℤ) → SFits w8 z → k < 256 → k ≢ 0
    → r ≡ int_div_euclid (read w16 (read w8 z)) (to_z w16 k) → read w8 (read w16 r) ≡ quotient_by k z
by_euclid k z r f h n e =
    let small : k < 32768 = omega arith in
    let q : r ≡ floor_by k z = e ∙ rw (as_wide z f, to_z_pos w16 k small) (euclid_is k z) in
    ap (λ (x : ℤ). read w8 (read w16 x)) q ∙ as_byte (floor_by k z) (floor_fits k z f) ∙ sym (by_step k z n)
