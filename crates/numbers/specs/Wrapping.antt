-- Numbers as far as 64 bits hold them.
use Rattle.std.specs.Prelude.{ℕ, ◌-◌, ◌*◌, ◌%◌, ◌^◌, ℤ, pos, negsuc}
use Rattle.numbers.specs.TwosComplement.{signed_of}

abbrev pub half64 : ℕ
half64 = 2 ^ 63

-- the low 64 bits of a number in two's complement
unfoldable pub low_bits : ℤ → ℕ
low_bits (pos n) = n % (2 * half64)
low_bits (negsuc n) = 2 * half64 - 1 - n % (2 * half64)

-- the number that they are
unfoldable pub wrapped : ℤ → ℤ
wrapped z = signed_of half64 (low_bits z)
