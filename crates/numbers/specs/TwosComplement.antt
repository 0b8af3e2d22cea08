-- Two's complement (rule S-4).
-- Each definition is over half the range of the codes, h.
use Rattle.std.specs.Prelude.{◌≡◌, ℕ, suc, ◌+◌, ◌-◌, ◌*◌, ◌%◌, ◌<◌, Bool, true, ℤ, pos, negsuc, neg_ℤ, int_lt, nat_lt}
use Rattle.bits.specs.Bits.{choose}
use Rattle.numbers.specs.declared.twos_complement.Width.{Width}
use Rattle.numbers.specs.declared.twos_complement.Width.TheVariants.{Eight, Nine, Sixteen}

-- half the range of a byte, of nine bits, of two bytes
abbrev pub half8 : ℕ
half8 = 128

abbrev pub half9 : ℕ
half9 = 256

abbrev pub half16 : ℕ
half16 = 32768

abbrev pub half_of : Width → ℕ
half_of Eight = half8
half_of Nine = half9
half_of Sixteen = half16

-- S-4: the number of a code
unfoldable pub signed_of : ℕ → ℕ → ℤ
signed_of h code = choose (nat_lt code h) (pos code) (neg_ℤ (pos (2 * h - code)))

-- and back
abbrev pub code_of : ℕ → ℤ → ℕ
code_of h (pos n) = n
code_of h (negsuc n) = 2 * h - suc n

-- what two's complement of the half range h holds: -h to h - 1
abbrev pub holds : ℕ → ℤ → Bool
holds h (pos n) = nat_lt n h
holds h (negsuc n) = nat_lt n h

-- signed numbers in the order of plain ones
abbrev pub level_of : ℕ → ℕ → ℕ
level_of h code = (code + h) % (2 * h)

-- what holds of every half range
pub record TwosComplement : Type 0 where
  -- a code is that of its number, and a number that of its code
  pub there : (h code : ℕ) → code < 2 * h → code_of h (signed_of h code) ≡ code
  pub back : (h : ℕ) (z : ℤ) → holds h z ≡ true → signed_of h (code_of h z) ≡ z
  pub in_range : (h code : ℕ) → code < 2 * h → holds h (signed_of h code) ≡ true
  -- comparing levels is comparing the signed numbers
  pub levels : (h a b : ℕ) → a < 2 * h → b < 2 * h → nat_lt (level_of h a) (level_of h b) ≡ int_lt (signed_of h a) (signed_of h b)
