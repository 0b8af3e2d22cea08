-- Sums in 64 bits: the low bits of a sum are those of the low bits' sum, and a number that 64 bits hold is not changed.
-- Assumes nothing.
use Rattle.std.proofs.Common.{◌≡◌, ℕ, suc, ◌+◌, ◌-◌, ◌*◌, ◌%◌, ◌^◌, ◌<◌, ◌≤◌, Bool, true, false, ltb, ℤ, pos, negsuc, ◌+ℤ◌, sym, refl, ap, ◌∙◌, arith, w64, SFits, to_z, of_z, ltb-false, ltb-true, lt-ltb}
use lib.IntN.{sub_ℕ}
use mir.ValLaws.{to_z_pos}
use Rattle.numbers.specs.TwosComplement.{signed_of, code_of, holds}
use Rattle.numbers.proofs.twos_complement.Complement.{twos_complement_holds, low_half, upper}
use Rattle.numbers.specs.Wrapping.{half64, low_bits, wrapped}

-- all numbers of 64 bits
abbrev all : ℕ
all = 2 * half64

-- ---- a number that 64 bits hold
pub fits_holds : (z : ℤ) → SFits w64 z → holds half64 z ≡ true
fits_holds (pos n) f = lt-ltb n half64 f.sfits
fits_holds (negsuc n) f = lt-ltb n half64 f.sfits

low_code : (z : ℤ) → holds half64 z ≡ true → low_bits z ≡ code_of half64 z
unfolding low_bits
low_code (pos n) e = omega (arith, ltb-true n half64 e)
low_code (negsuc n) e = omega (arith, ltb-true n half64 e)

pub wrapped_same : (z : ℤ) → holds half64 z ≡ true → wrapped z ≡ z
unfolding wrapped
wrapped_same z e = ap (signed_of half64) (low_code z e) ∙ twos_complement_holds.back half64 z e

-- ---- low bits
low_lt : (z : ℤ) → low_bits z < all
unfolding low_bits
low_lt (pos n) = omega arith
low_lt (negsuc n) = omega arith

low_wrapped : (z : ℤ) → low_bits (wrapped z) ≡ low_bits z
unfolding wrapped
low_wrapped z =
    low_code (signed_of half64 (low_bits z)) (twos_complement_holds.in_range half64 (low_bits z) (low_lt z))
    ∙ twos_complement_holds.there half64 (low_bits z) (low_lt z)

-- of a less b + 1, which is below 0 or not
low_less : (a b : ℕ) (t : Bool) → ltb a (suc b) ≡ t → low_bits (sub_ℕ a (suc b)) ≡ (a % all + (all - 1 - b % all)) % all
unfolding low_bits
low_less a b true e = let h : a < suc b = ltb-true a (suc b) e in rw e (omega arith)
low_less a b false e = let h : suc b ≤ a = ltb-false a (suc b) e in rw e (omega arith)

low_add : (a b : ℤ) → low_bits (a +ℤ b) ≡ (low_bits a + low_bits b) % all
unfolding low_bits
low_add (pos a) (pos b) = omega arith
low_add (pos a) (negsuc b) = low_less a b (ltb a (suc b)) refl
low_add (negsuc a) (pos b) = low_less b a (ltb b (suc a)) refl ∙ omega arith
low_add (negsuc a) (negsuc b) = omega arith

-- ---- sums
same_low : (y z : ℤ) → low_bits y ≡ low_bits z → wrapped y ≡ wrapped z
unfolding wrapped
same_low y z e = ap (signed_of half64) e

pub wrapped_more : (s z : ℤ) → wrapped (wrapped s +ℤ z) ≡ wrapped (s +ℤ z)
wrapped_more s z =
    same_low (wrapped s +ℤ z) (s +ℤ z)
    (low_add (wrapped s) z ∙ ap (λ (n : ℕ). (n + low_bits z) % all) (low_wrapped s) ∙ sym (low_add s z))

-- ---- the machine's sum, of the 64 bits of two numbers
bits_low : (z : ℤ) → SFits w64 z → of_z w64 z ≡ low_bits z
bits_low (pos n) f = sym (low_code (pos n) (fits_holds (pos n) f))
bits_low (negsuc n) f = sym (low_code (negsuc n) (fits_holds (negsuc n) f))

bits_signed : (n : ℕ) → n < all → to_z w64 n ≡ signed_of half64 n
bits_signed n h = go (ltb n half64) refl
  where
    go : (t : Bool) → ltb n half64 ≡ t → to_z w64 n ≡ signed_of half64 n
    go true e = let l : n < half64 = ltb-true n half64 e in to_z_pos w64 n l ∙ low_half half64 n l
    go false e = rw e (ap negsuc (omega arith) ∙ sym (upper half64 n (ltb-false n half64 e) h))

pub add_wraps : (a b : ℤ) → SFits w64 a → SFits w64 b → to_z w64 ((of_z w64 a + of_z w64 b) % 2 ^ 64) ≡ wrapped (a +ℤ b)
unfolding wrapped
add_wraps a b f g =
    bits_signed ((of_z w64 a + of_z w64 b) % 2 ^ 64) (omega arith)
    ∙ ap (signed_of half64) (rw (bits_low a f, bits_low b g) (sym (low_add a b)))
