-- Temperatures in two's complement (rules S-4, A-3): sensor 1 whole degrees in a byte, sensors 2 and 3 half degrees in
-- nine bits.
use Rattle.std.specs.Prelude.{ℕ, ◌+◌, ◌*◌, ◌/◌, ◌%◌, ◌≡◌, Bool, not, ◌||◌, ℤ, pos, negsuc, Option, Some, None}
use Rattle.std.specs.Int.Signed.{lt_z}
use Rattle.answers.specs.Answers as answers
use Rattle.bits.specs.Bits.{choose}
use Rattle.numbers.specs.TwosComplement.{half9, code_of, holds}
use Rattle.analog.specs.declared.HalfCode.{HalfCode}

-- S-4: a high byte, and bit 7 of the low byte
abbrev pub nine_bits : ℕ → ℕ → ℕ
nine_bits high low = 2 * high + low / 128

-- A-3: outside -256 to 255 half degrees, what nine bits don't hold
unfoldable pub outside : ℤ → Bool
outside z = lt_z z (negsuc 255) || lt_z (pos 255) z

-- the two bytes of half degrees, the other bits of the low byte 0
unfoldable pub half_code_of : ℤ → Option HalfCode
half_code_of z =
    choose (outside z) None (Some (record { high = code_of half9 z / 2; low = code_of half9 z % 2 * 128 }))

-- the answer: A-3 out of range
abbrev pub half_answer : Option HalfCode → ℕ
half_answer (Some code) = 0
half_answer None = answers.bad_temperature

-- the bytes of a code; refused: none, as 0
abbrev pub half_high : Option HalfCode → ℕ
half_high (Some code) = code.high
half_high None = 0

abbrev pub half_low : Option HalfCode → ℕ
half_low (Some code) = code.low
half_low None = 0

-- what holds of nine bits
pub record NineBits : Type 0 where
  -- the half degrees that are refused are those that nine bits don't hold
  pub beyond : (z : ℤ) → outside z ≡ not (holds half9 z)
  -- nine bits and their two bytes
  pub bytes : (code : ℕ) → nine_bits (code / 2) (code % 2 * 128) ≡ code
