-- Millivolts (rules R-1, A-7).
use Rattle.std.specs.Prelude.{ℕ, suc, ◌+◌, ◌*◌, ◌≡◌, Bool, not, ◌&&◌, ◌||◌, List, [], ◌∷◌, leb, ltb, ℤ, pos, negsuc, neg_ℤ, ◌-ℤ◌, get_or}
use Rattle.std.specs.Prelude.{Option, Some, None}
use Rattle.answers.specs.Answers as answers
use Rattle.bits.specs.Bits.{choose}
use Rattle.numbers.specs.Rounding.{nearest}

-- the number of the answer table
abbrev pub reading_answer : Option ℤ → ℕ
reading_answer (Some z) = 0
reading_answer None = answers.no_channel

-- the millivolts that are read; refused: 0
abbrev pub reading_value : Option ℤ → ℤ
reading_value (Some z) = z
reading_value None = pos 0

-- nearest, halves away from zero: z / d
abbrev pub nearest_z : ℤ → ℕ → ℤ
nearest_z (pos n) d = pos (nearest n d)
nearest_z (negsuc n) d = neg_ℤ (pos (nearest (suc n) d))

-- (a - b) / d
abbrev pub reading : ℕ → ℕ → ℕ → Option ℤ
reading a b d = Some (nearest_z (pos a -ℤ pos b) d)

-- A-7: 1 to 1,000 kilo-ohm
abbrev pub is_resistor : ℕ → Bool
is_resistor r = leb 1 r && leb r 1000

-- R-1: -12 and -5 by the caller's resistors, (16c(R5+R6) - 3600 R5) / R6
unfoldable pub rail_of : ℕ → ℕ → ℕ → Option ℤ
rail_of c r5 r6 = choose (is_resistor r5 && is_resistor r6) (reading (16 * c * (r5 + r6)) (3600 * r5) r6) None

-- R-1, channel by channel: VCOREA, VINR0, +3.3, +5, +12, -12, -5
abbrev pub voltages : ℕ → ℕ → ℕ → List (Option ℤ)
voltages c r5 r6 =
    reading (16 * c) 0 1 ∷
    reading (16 * c) 0 1 ∷
    reading (16 * c) 0 1 ∷
    reading (672 * c) 0 25 ∷
    reading (304 * c) 0 5 ∷
    rail_of c r5 r6 ∷
    rail_of c r5 r6 ∷
    []

-- the reading of a channel; any but 0 to 6 is refused
unfoldable pub millivolts_of : ℕ → ℕ → ℕ → ℕ → Option ℤ
millivolts_of channel c r5 r6 = get_or (voltages c r5 r6) channel None

-- A-7: a channel above 6, or, on channels 5 and 6 only, what is no resistor
abbrev pub answer_for : ℕ → ℕ → ℕ → ℕ
answer_for channel r5 r6 =
    choose (ltb 6 channel || ltb 4 channel && not (is_resistor r5 && is_resistor r6)) answers.no_channel 0

-- a reading is refused exactly when the answer table says so
pub record VoltageAnswers : Type 0 where
  pub exactly : (channel c r5 r6 : ℕ) → reading_answer (millivolts_of channel c r5 r6) ≡ answer_for channel r5 r6
