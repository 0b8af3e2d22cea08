-- Half degrees: the nine bits and their two bytes, what is out of their range, and the cases of the code.
-- Assumes nothing.
use Prim.Native.Nat.{ℕ, suc, ◌*◌, ◌-◌, ◌/◌, ◌%◌, ◌<◌, ◌≤◌}
use native.Mathlib.Nat.{mul-div_cancel}
use native.Mathlib.Omega.{arith}
use mathlib.Core.Path.{◌≡◌, refl, sym, ap, ◌∙◌}
use mathlib.Core.Bool.{Bool, true, false, cond, not, ◌||◌, ◌&&◌}
use lib.Dec.{ltb, lit<}
use lib.IntN.{ℤ, pos, negsuc}
use mir.Syntax.{w8}
use mir.Val.{to_z}
use mir.ValLaws.{to_z_pos, to_z-neg}
use Rattle.std.proofs.Common.{Less, Equal, Greater}
use Rattle.std.specs.Ordering.{is_le, int_cmp}
use borrow.Author.Tests.{ltb-true, ltb-false, lt-ltb, le-ltb}
use Rattle.numbers.specs.TwosComplement.{half8, half9, signed_of, code_of, holds}
use Rattle.numbers.proofs.twos_complement.Complement.{low_half, upper}
use Rattle.analog.specs.Temperature.{nine_bits, outside, half_code_of, NineBits}
use Rattle.std.specs.Prelude.{Some}

bytes : (code : ℕ) → nine_bits (code / 2) (code % 2 * 128) ≡ code
bytes code =
    let e : code % 2 * 128 / 128 ≡ code % 2 = mul-div_cancel (code % 2) (lit< tt) in
    omega arith

-- -256 to 255 is what nine bits hold
not_below : (n : ℕ) → ltb 255 n ≡ not (ltb n 256)
not_below n = go (ltb n 256) refl
  where
    go : (b : Bool) → ltb n 256 ≡ b → ltb 255 n ≡ not (ltb n 256)
    go true e = rw (e, le-ltb 255 n (omega (arith, ltb-true n 256 e)))
    go false e = rw (e, lt-ltb 255 n (omega (arith, ltb-false n 256 e)))

or_none : (b : Bool) → (b || false) ≡ b
or_none true = refl
or_none false = refl

beyond : (z : ℤ) → outside z ≡ not (holds half9 z)
unfolding outside
beyond (pos n) = not_below n
beyond (negsuc n) = or_none (ltb 255 n) ∙ not_below n

-- a number within the range's two ends, by the library's order
le_is : (a b : ℕ) → is_le (cond (ltb a b) Less (cond (ltb b a) Greater Equal)) ≡ not (ltb b a)
le_is a b = go (ltb a b) refl
  where
    go : (t : Bool) → ltb a b ≡ t → is_le (cond t Less (cond (ltb b a) Greater Equal)) ≡ not (ltb b a)
    go true e = rw (le-ltb b a (omega (arith, ltb-true a b e)))
    go false e = by (ltb b a)
      where
        by : (t : Bool) → is_le (cond t Greater Equal) ≡ not t
        by true = refl
        by false = refl

not_not : (t : Bool) → not (not t) ≡ t
not_not true = refl
not_not false = refl

or_true : (t : Bool) → (t && true) ≡ t
or_true true = refl
or_true false = refl

pub within : (z : ℤ) → not (is_le (int_cmp (negsuc 255) z) && is_le (int_cmp z (pos 255))) ≡ outside z
unfolding outside
within (pos n) = ap not (le_is n 255) ∙ not_not (ltb 255 n)
within (negsuc n) =
    ap not (or_true (is_le (int_cmp (negsuc 255) (negsuc n))) ∙ le_is n 255) ∙ not_not (ltb 255 n)
    ∙ sym (or_none (ltb 255 n))

-- a byte as the machine reads it
pub signed_byte : (n : ℕ) → n < 256 → to_z w8 n ≡ signed_of half8 n
signed_byte n h = go (ltb n 128) refl
  where
    go : (t : Bool) → ltb n 128 ≡ t → to_z w8 n ≡ signed_of half8 n
    go true e = to_z_pos w8 n (ltb-true n 128 e) ∙ low_half half8 n (ltb-true n 128 e)
    go false e =
        let l : 128 ≤ n = ltb-false n 128 e in
        let d : n ≡ 256 - suc (255 - n) = omega arith in
        ap (to_z w8) d ∙ to_z-neg w8 (255 - n) (omega arith) ∙ sym (upper half8 n l h)

pub nine_bits_hold : NineBits
nine_bits_hold = record { beyond = beyond; bytes = bytes }

pub inside : (z : ℤ) → holds half9 z ≡ true → outside z ≡ false
inside z e = beyond z ∙ ap not e

pub half_in : (z : ℤ) (r : ℕ) → outside z ≡ false → r ≡ code_of half9 z
    → Some (record { high = r / 2; low = r % 2 * 128 }) ≡ half_code_of z
unfolding half_code_of
half_in z r e q = simp e (ap (λ (n : ℕ). Some (record { high = n / 2; low = n % 2 * 128 })) q)

pub held : (z : ℤ) → outside z ≡ false → holds half9 z ≡ true
held z e = go (holds half9 z) (sym (beyond z) ∙ e)
  where
    go : (b : Bool) → not b ≡ false → b ≡ true
    go true n = refl
    go false n = sym n
