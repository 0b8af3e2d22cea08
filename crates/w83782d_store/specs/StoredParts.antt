-- What the parts of the code ensure, in the words of Stored.antt.
use Rattle.std.specs.Prelude.{List, [], ◌∷◌, ◌++◌, map, ℕ, ℤ}
use Rattle.bits.specs.Bits.{choose}
use Rattle.bits.specs.Stores.{◌≔◌, puts}
use Rattle.bits.specs.declared.Bit.{Bit}
use Rattle.bits.specs.declared.fields.Field.{Field}
use Rattle.numbers.specs.TwosComplement.{half8, code_of}
use Rattle.analog.specs.Temperature.{half_code_of, half_high, half_low}
use Rattle.limits.specs.Limits.{low_byte}
use Rattle.w83782d_layout.specs.declared.samples.Sample.{Sample}
use Rattle.w83782d_map.specs.Map.{fits}
use Rattle.w83782d_store.specs.Stored.{place, sampled_code, stored_count, rails, fans, stored_readings}
use Rattle.w83782d_map.specs.Cells.{fan_count, sensor1_value, vbat_fan_divisor, voltage}

-- a divisor's field: two bits in one cell, the top one in 5Dh
abbrev pub field_of : ℕ → Bit → Bit → Bit → Field
field_of c low middle high = record { low = place c low; middle = place c middle; high = place vbat_fan_divisor high }

-- three counts; seven codes and sensor 1; nine bits from a cell
unfoldable pub with_counts : List ℕ → Sample → List ℕ
with_counts rs x = puts rs (map (λ f. fan_count f ≔ stored_count rs x f) fans)

unfoldable pub with_codes : List ℕ → Sample → List ℕ
with_codes rs x =
    puts rs (map (λ i. voltage i ≔ sampled_code x i) rails ++ (sensor1_value ≔ code_of half8 x.sensor1) ∷ [])

unfoldable pub with_halves : List ℕ → ℕ → ℤ → List ℕ
with_halves rs c t = puts rs ((c ≔ half_high (half_code_of t)) ∷ (low_byte c ≔ half_low (half_code_of t)) ∷ [])

-- all of them; a slice of another length stays
abbrev pub stored_in : List ℕ → Sample → List ℕ
stored_in rs x = choose (fits rs) (stored_readings rs x) rs
