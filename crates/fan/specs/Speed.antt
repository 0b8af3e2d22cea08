-- The speed reading (rule R-2), in tenths of rpm.
use Rattle.std.specs.Prelude.{ℕ, ◌*◌, ◌^◌, ◌≤◌, ◌<◌, ◌≡◌, eqb}
use Rattle.answers.specs.Refusals.{refusal_number}
use Rattle.bits.specs.Bits.{choose}
use Rattle.numbers.specs.Rounding.{nearest, IsNearest}
use Rattle.fan.specs.declared.Speed.{Speed}
use Rattle.fan.specs.declared.Speed.TheVariants.{Tenths, TooFast, TooSlow, Refused}
use Rattle.fan.specs.declared.Divisor.{Divisor}
use Rattle.fan.specs.Count.{per_minute, value_of}

-- the answer: the refusal's, A-7 or A-8; "too fast" and "too slow" are accepted. decisions D-47, D-01
abbrev pub speed_answer : Speed → ℕ
speed_answer (Tenths n) = 0
speed_answer TooFast = 0
speed_answer TooSlow = 0
speed_answer (Refused r) = refusal_number r

-- the number that is read; 0 where there is none
abbrev pub speed_value : Speed → ℕ
speed_value (Tenths n) = n
speed_value TooFast = 0
speed_value TooSlow = 0
speed_value (Refused r) = 0

-- what a fan at one tenth of a turn a minute counts: speeds are read and shown in tenths, and planned in whole rpm
abbrev pub per_tenth : ℕ
per_tenth = 13500000

-- R-2: 13,500,000 / (count x divisor), nearest, halves up; count 0 is too fast, 255 too slow
unfoldable pub count_speed : ℕ → ℕ → Speed
count_speed count d =
    choose (eqb count 0) TooFast
    (choose (eqb count 255) TooSlow
    (Tenths (nearest per_tenth (count * d))))

-- what is claimed of every number: v of a count n and a divisor
pub record IsSpeed (n d v : ℕ) : Type 0 where
  pub number : count_speed n d ≡ Tenths v
  pub nearest : IsNearest per_tenth (n * d) v
  pub least : 415 ≤ v
  pub most : v ≤ per_tenth

pub record SpeedClaims : Type 0 where
  pub numbers : (n : ℕ) (d : Divisor) → 0 < n → n < 255 → IsSpeed n (value_of d) (speed_value (count_speed n (value_of d)))
  -- ten times what planning counts by, and 24 bits hold every number
  pub unit : per_tenth ≡ 10 * per_minute
  pub bits : per_tenth < 2 ^ 24
