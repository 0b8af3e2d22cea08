-- How many bytes had each bit.
use Rattle.std.specs.Prelude.{◌≡◌, List, [], ◌∷◌, ◌++◌, ℕ, zero, suc, ◌+◌, ◌%◌, ◌^◌, ◌<◌, length, get_or, replicate}
use Rattle.bits.specs.Bits.{bit, is_on, choose}

-- the counter of bit j after a byte: one more where the byte has it, in 64 bits
abbrev pub bit_count_after : ℕ → ℕ → ℕ → ℕ
bit_count_after byte j c = choose (is_on byte j) ((c + 1) % 2 ^ 64) c

-- the counters of the bits from j on
unfoldable pub bit_counts_from : ℕ → ℕ → List ℕ → List ℕ
bit_counts_from byte j [] = []
bit_counts_from byte j (c ∷ cs) = bit_count_after byte j c ∷ bit_counts_from byte (suc j) cs

abbrev pub bit_counts_after : List ℕ → ℕ → List ℕ
bit_counts_after cs byte = bit_counts_from byte 0 cs

-- after bytes in order
unfoldable pub bit_counts_over : List ℕ → List ℕ → List ℕ
bit_counts_over cs [] = cs
bit_counts_over cs (b ∷ bs) = bit_counts_over (bit_counts_after cs b) bs

-- how many of the bytes have bit j
unfoldable pub bytes_with_bit : ℕ → List ℕ → ℕ
bytes_with_bit j [] = 0
bytes_with_bit j (b ∷ bs) = bit b j + bytes_with_bit j bs

-- the same of each of the bits 0 to n - 1
unfoldable pub bits_of : ℕ → List ℕ → List ℕ
bits_of zero bytes = []
bits_of (suc n) bytes = bits_of n bytes ++ (bytes_with_bit n bytes ∷ [])

-- what is claimed of counters
pub record BitCounts : Type 0 where
  -- a byte changes each counter by its own bit
  pub each : (cs : List ℕ) (byte j : ℕ) → j < length cs
      → get_or (bit_counts_after cs byte) j 0 ≡ bit_count_after byte j (get_or cs j 0)
  -- from 0 they are the number of bytes that had the bit
  pub exact : (n j : ℕ) (bytes : List ℕ) → j < n → length bytes < 2 ^ 64
      → get_or (bit_counts_over (replicate n 0) bytes) j 0 ≡ bytes_with_bit j bytes
  -- of no byte they are 0, and a byte more makes them those of the longer list
  pub begin : (n : ℕ) → bits_of n [] ≡ replicate n 0
  pub more : (n : ℕ) (bytes : List ℕ) (b : ℕ) → length bytes + 1 < 2 ^ 64
      → bit_counts_after (bits_of n bytes) b ≡ bits_of n (bytes ++ (b ∷ []))
