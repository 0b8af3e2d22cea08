-- Fan counts, as counted and after division (rules S-2, S-3, S-7, P-4).
use Rattle.std.specs.Prelude.{ℕ, ◌*◌, ◌/◌, ◌%◌, ◌^◌, ◌<◌, min, ◌≡◌, Bool, List, [], ◌∷◌, eqb, ltb, get_or}
use Rattle.bits.specs.Bits.{choose}
use Rattle.fan.specs.declared.Divisor.{Divisor}
use Rattle.fan.specs.declared.Divisor.TheVariants.{By1, By2, By4, By8, By16, By32, By64, By128}

-- what a fan at one turn a minute counts: the 1,350,000 of counts and plans; readings are in tenths (`per_tenth`)
abbrev pub per_minute : ℕ
per_minute = 1350000

-- S-2: k of each of the eight divisors
abbrev pub exponent_of : Divisor → ℕ
exponent_of By1 = 0
exponent_of By2 = 1
exponent_of By4 = 2
exponent_of By8 = 3
exponent_of By16 = 4
exponent_of By32 = 5
exponent_of By64 = 6
exponent_of By128 = 7

-- S-2: 2 to the power k
abbrev pub value_of : Divisor → ℕ
value_of d = 2 ^ exponent_of d

-- the eight in the order of k
abbrev pub divisors : List Divisor
divisors = By1 ∷ By2 ∷ By4 ∷ By8 ∷ By16 ∷ By32 ∷ By64 ∷ By128 ∷ []

-- k is three bits: the low three of any number
unfoldable pub from_bits : ℕ → Divisor
from_bits n = get_or divisors (n % 8) By1

-- one of the eight as a number: 2 to a power of three bits
pub record IsDivisor (d : ℕ) : Type 0 where
  pub exponent : ℕ
  pub three_bits : exponent < 8
  pub power : d ≡ 2 ^ exponent

-- S-3: u over the divisor, rounded down, at most 255
abbrev pub stored_of : ℕ → ℕ → ℕ
stored_of u d = min 255 (u / d)

-- P-4: the undivided count of a/b rpm; a fan that doesn't turn has the largest
abbrev pub count_of : ℕ → ℕ → ℕ
count_of a b = choose (eqb a 0) 4294967295 (min 4294967295 (per_minute * b / a))

-- S-7: the stored count is above its limit. decision D-41
abbrev pub over_limit : ℕ → ℕ → Bool
over_limit count limit = ltb limit count
