-- What a sample stores and when it is refused (rules S-1 to S-4, A-3, A-4). Rails are
-- numbered 0 to 6, sensors and fans 1 to 3.
use Rattle.std.specs.Prelude.{Bool, not, ◌||◌, List, [], ◌∷◌, ◌++◌, map, ℕ, ◌-◌, eqb, ℤ, pos, get_or}
use Rattle.answers.specs.Answers as answers
use Rattle.bits.specs.Bits.{choose, is_on}
use Rattle.bits.specs.Stores.{Store, ◌≔◌, puts}
use Rattle.bits.specs.declared.Bit.{Bit}
use Rattle.bits.specs.declared.Bit.TheVariants.{B4, B5, B6, B7}
use Rattle.bits.specs.declared.fields.Place.{Place}
use Rattle.fan.specs.Count.{value_of, stored_of}
use Rattle.fan.specs.Divisors.{divisor_at}
use Rattle.fan.specs.declared.Divisor.{Divisor}
use Rattle.fan.specs.declared.Undivided.{Undivided}
use Rattle.numbers.specs.TwosComplement.{half8, code_of}
use Rattle.analog.specs.Temperature.{outside, half_code_of, half_high, half_low}
use Rattle.limits.specs.Limits.{low_byte}
use Rattle.w83782d_layout.specs.declared.samples.Sample.{Sample}
use Rattle.w83782d_map.specs.Cells.{bank_cell, configuration, fan_count, pin_control}
use Rattle.w83782d_map.specs.Cells.{sensor1_value, vbat_fan_divisor, vid_fan_divisor, voltage}

-- ---- S-2: a fan's divisor: fan 1 in 47h 5-4, fan 2 in 47h 7-6, fan 3 in 4Bh 7-6, the top bits in 5Dh 5, 6, 7
abbrev pub place : ℕ → Bit → Place
place c b = record { cell = c; bit = b }

abbrev pub divisor_places : ℕ → List Place
divisor_places f =
    choose (eqb f 1) (place vid_fan_divisor B4 ∷ place vid_fan_divisor B5 ∷ place vbat_fan_divisor B5 ∷ [])
    (choose (eqb f 2) (place vid_fan_divisor B6 ∷ place vid_fan_divisor B7 ∷ place vbat_fan_divisor B6 ∷ [])
    (place pin_control B6 ∷ place pin_control B7 ∷ place vbat_fan_divisor B7 ∷ []))

abbrev pub divisor_of : List ℕ → ℕ → Divisor
divisor_of rs f = divisor_at rs (divisor_places f)

-- ---- S-1: the readings that a sample stores, whole bytes. decision D-46
abbrev pub sampled_code : Sample → ℕ → ℕ
sampled_code x i = get_or x.codes i 0

abbrev pub sampled_halves : Sample → ℕ → ℤ
sampled_halves x n = get_or x.remote (n - 2) (pos 0)

abbrev pub none : Undivided
none = record { 0 = 0 }

-- S-3
abbrev pub stored_count : List ℕ → Sample → ℕ → ℕ
stored_count rs x f = stored_of (get_or x.counts (f - 1) none).0 (value_of (divisor_of rs f))

abbrev pub rails : List ℕ
rails = 0 ∷ 1 ∷ 2 ∷ 3 ∷ 4 ∷ 5 ∷ 6 ∷ []

abbrev pub fans : List ℕ
fans = 1 ∷ 2 ∷ 3 ∷ []

-- S-4: nine bits, in two bytes
abbrev pub halves : Sample → ℕ → List Store
halves x n =
    (bank_cell n ≔ half_high (half_code_of (sampled_halves x n)))
    ∷ (low_byte (bank_cell n) ≔ half_low (half_code_of (sampled_halves x n))) ∷ []

-- the counts go by the divisors now set; all cells are distinct
abbrev pub readings : List ℕ → Sample → List Store
readings rs x =
    map (λ f. fan_count f ≔ stored_count rs x f) fans
    ++ map (λ i. voltage i ≔ sampled_code x i) rails
    ++ (sensor1_value ≔ code_of half8 x.sensor1) ∷ halves x 2
    ++ halves x 3

unfoldable pub stored_readings : List ℕ → Sample → List ℕ
stored_readings rs x = puts rs (readings rs x)

-- ---- the refusals, 3 before 4

-- A-4: 40h bit 0 is 0, or bit 3 is 1
abbrev pub is_stopped : ℕ → Bool
is_stopped c = not (is_on c 0) || is_on c 3

-- A-3, then A-4
unfoldable pub sample_answer : List ℕ → Sample → ℕ
sample_answer rs x =
    choose (outside (sampled_halves x 2)) answers.bad_temperature
    (choose (outside (sampled_halves x 3)) answers.bad_temperature
    (choose (is_stopped (get_or rs configuration 0)) answers.stopped 0))
