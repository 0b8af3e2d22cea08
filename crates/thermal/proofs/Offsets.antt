-- What a held sum is, and the sum of two signed bytes as the code makes it.
-- Assumes nothing.
use Prim.Native.Nat.{ℕ, ◌<◌}
use native.Mathlib.Omega.{arith}
use mathlib.Core.Path.{◌≡◌, refl, ap, ◌∙◌}
use mathlib.Core.Bool.{Bool, true, false}
use lib.Dec.{T, ltb, leb→le, le→leb}
use lib.IntN.{ℤ, pos, negsuc, ◌+ℤ◌}
use lib.Signed.{mag, non_neg, lt_z, ◌≤ℤ◌, ◌<ℤ◌}
use mir.Syntax.{w8}
use mir.Val.{SFits}
use mir.ValLaws.{to_z-of_z}
use borrow.Author.Tests.{ltb-true, ltb-false, lt-ltb, le-ltb}
use Rattle.std.specs.Int.{saturate_signed}
use Rattle.bits.specs.Bits.{choose}
use Rattle.bits.proofs.BitLaws.{choose_ind}
use Rattle.numbers.specs.TwosComplement.{half8, holds}
use Rattle.numbers.proofs.twos_complement.Turned.{read}
use Rattle.thermal.specs.Offset.{held, held_sum, HeldSum}

-- ---- a number, held
too_cold : (z : ℤ) → lt_z z (negsuc 127) ≡ true → held z ≡ negsuc 127
unfolding held
too_cold (pos n) e = let x : ◌≡◌ {A = ℕ} 0 1 = cc in absurd (omega arith)
too_cold (negsuc n) e = rw (le-ltb n half8 (omega (arith, ltb-true 127 n e)))

too_hot : (z : ℤ) → lt_z (pos 127) z ≡ true → held z ≡ pos 127
unfolding held
too_hot (pos n) e = rw (le-ltb n half8 (omega (arith, ltb-true 127 n e)))
too_hot (negsuc n) e = let x : ◌≡◌ {A = ℕ} 0 1 = cc in absurd (omega arith)

same : (z : ℤ) → holds half8 z ≡ true → held z ≡ z
unfolding held
same z e = rw e

-- ---- what is claimed
held_holds : (z : ℤ) → holds half8 (held z) ≡ true
unfolding held
held_holds z =
    choose_ind (λ (x : ℤ). holds half8 x ≡ true) (holds half8 z) z (choose (non_neg z) (pos 127) (negsuc 127)) (λ e. e)
    (λ e. choose_ind (λ (x : ℤ). holds half8 x ≡ true) (non_neg z) (pos 127) (negsuc 127) (λ p. refl) (λ p. refl))

from_lowest : (z : ℤ) → holds half8 z ≡ true → negsuc 127 ≤ℤ z
from_lowest (pos n) e = record { le = tt }
from_lowest (negsuc n) e = record { le = le→leb n 127 (omega (arith, ltb-true n half8 e)) }

to_highest : (z : ℤ) → holds half8 z ≡ true → z ≤ℤ pos 127
to_highest (pos n) e = record { le = le→leb n 127 (omega (arith, ltb-true n half8 e)) }
to_highest (negsuc n) e = record { le = tt }

between : (z : ℤ) → negsuc 127 ≤ℤ z → z ≤ℤ pos 127 → holds half8 z ≡ true
between (pos n) l h = lt-ltb n half8 (omega (arith, leb→le n 127 h.le))
between (negsuc n) l h = lt-ltb n half8 (omega (arith, leb→le n 127 l.le))

is_less : (a b : ℤ) → a <ℤ b → lt_z a b ≡ true
is_less a b h = go (lt_z a b) h.lt
  where
    go : (t : Bool) → T t → t ≡ true
    go true x = refl
    go false x = absurd x

pub held_sum_holds : HeldSum
unfolding held_sum
held_sum_holds =
    record {
      from = λ a b. from_lowest _ (held_holds _);
      to = λ a b. to_highest _ (held_holds _);
      within = λ a b l h. same (a +ℤ b) (between (a +ℤ b) l h);
      below = λ a b l. too_cold (a +ℤ b) (is_less (a +ℤ b) (negsuc 127) l);
      above = λ a b h. too_hot (a +ℤ b) (is_less (pos 127) (a +ℤ b) h);
    }

-- ---- the sum as the code makes it, by the nearest signed byte
saturated : (z : ℤ) → saturate_signed w8 z ≡ held z
unfolding held
saturated (pos n) = go (ltb n half8) refl
  where
    go : (t : Bool) → ltb n half8 ≡ t → saturate_signed w8 (pos n) ≡ choose t (pos n) (pos 127)
    go true e = ap pos (omega (arith, ltb-true n half8 e))
    go false e = ap pos (omega (arith, ltb-false n half8 e))
saturated (negsuc n) = go (ltb n half8) refl
  where
    go : (t : Bool) → ltb n half8 ≡ t → saturate_signed w8 (negsuc n) ≡ choose t (negsuc n) (negsuc 127)
    go true e = ap negsuc (omega (arith, ltb-true n half8 e))
    go false e = ap negsuc (omega (arith, ltb-false n half8 e))

pub sum_held : (a b r : ℤ) → SFits w8 a → SFits w8 b → mag r < 128 → r ≡ saturate_signed w8 (read w8 a +ℤ read w8 b)
    → read w8 r ≡ held_sum a b
unfolding held_sum
sum_held a b r f g h e =
    to_z-of_z w8 r (record { sfits = h }) ∙ e ∙ rw (to_z-of_z w8 a f, to_z-of_z w8 b g) (saturated (a +ℤ b))
