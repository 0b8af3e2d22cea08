-- The eight divisors: the exponent is below 8, and exponent, value and three bits each say which divisor it is.
-- By the eight cases; bounds are those of powers of 2. Assumes nothing.
use Prim.Native.Nat.{ℕ, ◌*◌, ◌%◌, ◌^◌, ◌≤◌, ◌<◌}
use native.Mathlib.Nat.{mul-le-mul, mod-mod, mod-lt}
use native.Mathlib.Decide.{dec_lt}
use native.Mathlib.Omega.{arith}
use mathlib.Core.Path.{◌≡◌, refl, sym, ap, ◌∙◌}
use lib.Dec.{lit<}
use lib.ListN.{get_or}
use lib.Pow.{pow_pos, pow_mono, pow-lt}
use Rattle.bits.proofs.Every.{same_below}
use Rattle.fan.specs.declared.Divisor.{Divisor}
use Rattle.fan.specs.declared.Divisor.TheVariants.{By1, By2, By4, By8, By16, By32, By64, By128}
use Rattle.fan.specs.Count.{exponent_of, value_of, divisors, from_bits, IsDivisor}

pub exponent_lt : (d : Divisor) → exponent_of d < 8
exponent_lt By1 = lit< tt
exponent_lt By2 = lit< tt
exponent_lt By4 = lit< tt
exponent_lt By8 = lit< tt
exponent_lt By16 = lit< tt
exponent_lt By32 = lit< tt
exponent_lt By64 = lit< tt
exponent_lt By128 = lit< tt

pub value_pos : (d : Divisor) → 0 < value_of d
value_pos d = pow_pos (exponent_of d)

pub value_le : (d : Divisor) → value_of d ≤ 128
value_le d = pow_mono {i = exponent_of d} {j = 7} (omega (arith, exponent_lt d))

-- a byte, or a byte and one, times a divisor
pub product_le : (n : ℕ) (d : Divisor) → n ≤ 256 → n * value_of d ≤ 32768
product_le n d h = mul-le-mul {n₂ = 256} {m₂ = 128} h (value_le d)

-- three bits that were read back
pub exponent_from_bits : (k : ℕ) → k < 8 → exponent_of (from_bits k) ≡ k
unfolding from_bits
exponent_from_bits = same_below 8 (λ k. exponent_of (from_bits k)) (λ k. k) tt

pub exponent_of_bits : (n : ℕ) → exponent_of (from_bits n) ≡ n % 8
unfolding from_bits
exponent_of_bits n =
    ap (λ (k : ℕ). exponent_of (get_or divisors k By1)) (sym (mod-mod n 8))
    ∙ exponent_from_bits (n % 8) (mod-lt n (lit< tt))

-- what `from_bits_law` promises of the divisor that it picks
pub bits_of : (n : ℕ) {d : Divisor} → d ≡ from_bits n → (d ≡ from_bits n) × (exponent_of d ≡ n % 8)
bits_of n {d} e = (e, ap exponent_of e ∙ exponent_of_bits n)

pub from_exponent : (d : Divisor) → from_bits (exponent_of d) ≡ d
unfolding from_bits
from_exponent By1 = refl
from_exponent By2 = refl
from_exponent By4 = refl
from_exponent By8 = refl
from_exponent By16 = refl
from_exponent By32 = refl
from_exponent By64 = refl
from_exponent By128 = refl

pub value_from_bits : (k : ℕ) → k < 8 → value_of (from_bits k) ≡ 2 ^ k
value_from_bits k h = ap (λ (x : ℕ). 2 ^ x) (exponent_from_bits k h)

power_inj : (i j : ℕ) → 2 ^ i ≡ 2 ^ j → i ≡ j
power_inj i j e =
    elim (dec_lt i j) [
      | yes p ↦ absurd (omega (arith, pow-lt p))
      | no p ↦ elim (dec_lt j i) [ yes q ↦ absurd (omega (arith, pow-lt q)) | no q ↦ omega arith ]
    ]

pub value_inj : (d e : Divisor) → value_of d ≡ value_of e → d ≡ e
value_inj d e h = sym (from_exponent d) ∙ ap from_bits (power_inj (exponent_of d) (exponent_of e) h) ∙ from_exponent e

-- the values are the eight numbers of `IsDivisor`
pub value_is : (d : Divisor) → IsDivisor (value_of d)
value_is d = record { exponent = exponent_of d; three_bits = exponent_lt d; power = refl }

pub divisor_pos : {d : ℕ} → IsDivisor d → 0 < d
divisor_pos i = omega (arith, i.power, pow_pos i.exponent)
