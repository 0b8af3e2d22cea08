-- What is claimed of two status bytes and their masks, bit by bit.
use Rattle.std.specs.Prelude.{◌≡◌, true, ◌↔◌, ℕ, ◌+◌, ◌<◌}
use Rattle.std.specs.Bool.{xor}
use Rattle.bits.specs.Bits.{bit, is_on, choose, flag_of}
use Rattle.status.specs.Status.{any_unmasked, alarm_count, crossed_of}

-- a bit of the first or of the second status byte that is set and not masked
pub data UnmaskedBit (s1 m1 s2 m2 : ℕ) : Type 0 where
  in_first : (j : ℕ) → j < 8 → bit s1 j ≡ 1 → bit m1 j ≡ 0 → UnmaskedBit s1 m1 s2 m2
  in_second : (j : ℕ) → j < 8 → bit s2 j ≡ 1 → bit m2 j ≡ 0 → UnmaskedBit s1 m1 s2 m2

-- the test finds one exactly where there is one
abbrev pub AnyUnmaskedExactly : Type 0
AnyUnmaskedExactly =
    (s1 m1 s2 m2 : ℕ) → m1 < 256 → m2 < 256 → (any_unmasked s1 m1 s2 m2 ≡ true) ↔ UnmaskedBit s1 m1 s2 m2

-- ---- the count, bit by bit

-- how many of the eight bits of a byte are 1
abbrev pub set_bits : ℕ → ℕ
set_bits s = bit s 0 + (bit s 1 + (bit s 2 + (bit s 3 + (bit s 4 + (bit s 5 + (bit s 6 + bit s 7))))))

-- each set bit of either byte counts one, and nothing else does
pub record CountsSetBits : Type 0 where
  pub each : (s1 s2 : ℕ) → s1 < 256 → s2 < 256 → alarm_count s1 s2 ≡ set_bits s1 + set_bits s2
  pub none : (s1 s2 : ℕ) → s1 < 256 → s2 < 256 → (alarm_count s1 s2 ≡ 0) ↔ ((s1 ≡ 0) × (s2 ≡ 0))

-- ---- crossings: a condition of `crossing` counts where it has changed, either way; any other where it is true
abbrev pub Crosses : Type 0
Crosses =
    (before crossing now j : ℕ)
    → bit (crossed_of before crossing now) j
    ≡ flag_of (choose (is_on crossing j) (xor (is_on now j) (is_on before j)) (is_on now j))
