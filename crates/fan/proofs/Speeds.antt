-- What holds of every speed that is a number: it is within a half of 13,500,000 / n, and n is 1 to
-- 254 x 128 = 32,512.
-- Assumes nothing.
use Prim.Native.Nat.{ℕ, ◌+◌, ◌*◌, ◌≤◌, ◌<◌}
use native.Mathlib.Nat.{mul-le-mul, mul-le-mul_right, mul-pos}
use native.Mathlib.Omega.{arith}
use mathlib.Core.Bool.{Bool, true, false}
use mathlib.Core.Path.{◌≡◌, refl}
use borrow.Author.Tests.{ne_eqb, leb-true, leb-false}
use lib.Dec.{leb, lit<}
use Rattle.fan.specs.declared.Divisor.{Divisor}
use Rattle.fan.specs.Count.{value_of}
use Rattle.numbers.specs.Rounding.{IsNearest}
use Rattle.numbers.proofs.rounding.Quotients.{nearest_holds}
use Rattle.fan.specs.Speed.{per_tenth, speed_value, count_speed, IsSpeed, SpeedClaims}
use Rattle.fan.proofs.Divisors.{value_pos, value_le}

-- v is the nearest to 13,500,000 / n
module _ (n v : ℕ) (some : 0 < n) (is : IsNearest per_tenth n v) where
  at_least : n ≤ 32512 → 415 ≤ v
  at_least h = by (leb 415 v) refl
    where
      by : (b : Bool) → leb 415 v ≡ b → 415 ≤ v
      by true e = leb-true 415 v e
      by false e =
          let few : 2 * (v + 1) ≤ 830 = omega (arith, leb-false 415 v e) in
          absurd (omega (arith, is.below, mul-le-mul_right n few))

  at_most : v ≤ per_tenth
  at_most = by (leb v per_tenth) refl
    where
      by : (b : Bool) → leb v per_tenth ≡ b → v ≤ per_tenth
      by true e = leb-true v per_tenth e
      by false e =
          let many : 27000002 ≤ 2 * v = omega (arith, leb-false v per_tenth e) in
          absurd (omega (arith, is.at_least, mul-le-mul_right n many))

is_speed : (n : ℕ) (d : Divisor) → 0 < n → n < 255
    → IsSpeed n (value_of d) (speed_value (count_speed n (value_of d)))
unfolding count_speed
is_speed n d h k =
    let not_0 : n ≡ 0 → ⊥ = λ e. omega arith in
    let not_255 : n ≡ 255 → ⊥ = λ e. omega arith in
    let some : 0 < n * value_of d = mul-pos h (value_pos d) in
    let few : n * value_of d ≤ 32512 = mul-le-mul {n₂ = 254} {m₂ = 128} (omega arith) (value_le d) in
    let is = nearest_holds per_tenth (n * value_of d) some in
    simp (ne_eqb _ _ not_0, ne_eqb _ _ not_255)
    (record {
      number = simp (ne_eqb _ _ not_0, ne_eqb _ _ not_255);
      nearest = is;
      least = at_least _ _ some is few;
      most = at_most _ _ some is;
    })

pub speed_claims : SpeedClaims
speed_claims = record { numbers = is_speed; unit = refl; bits = lit< tt }
