-- Bits of bytes, merges by mask, and changes of some bits of some cells.
use Rattle.std.specs.Prelude.{Bool, true, false, ◌&&◌, ◌||◌, List, [], ◌∷◌, ℕ, ◌+◌, ◌-◌, ◌*◌, ◌/◌, ◌%◌, ◌^◌, eqb, ltb, get_or, set}
use Rattle.std.specs.Int.Bits.{bit_and, bit_or}
use Rattle.bits.specs.declared.Bit.{Bit}
use Rattle.bits.specs.declared.Bit.TheVariants.{B0, B1, B2, B3, B4, B5, B6, B7}

abbrev pub choose : {A : Type 0} → Bool → A → A → A
choose true a b = a
choose false a b = b

-- A-7: not 1 to the last one, which is how fans, sensors and outputs are numbered
abbrev pub is_beyond : ℕ → ℕ → Bool
is_beyond last n = ltb n 1 || ltb last n

-- ---- one bit

-- bit j of n, 0 or 1
unfoldable pub bit : ℕ → ℕ → ℕ
bit n j = n / 2 ^ j % 2

abbrev pub is_on : ℕ → ℕ → Bool
is_on n j = eqb (bit n j) 1

abbrev pub number_of : Bit → ℕ
number_of B0 = 0
number_of B1 = 1
number_of B2 = 2
number_of B3 = 3
number_of B4 = 4
number_of B5 = 5
number_of B6 = 6
number_of B7 = 7

-- a number below 128 is in a set of them, given as two words of 64 bits; from 128 on none is
abbrev pub in_set : ℕ → ℕ → ℕ → Bool
in_set low high n = choose (ltb n 64) (is_on low n) (choose (ltb n 128) (is_on high (n - 64)) false)

-- flags as a number, the first in bit 0
abbrev pub flag_of : Bool → ℕ
flag_of b = choose b 1 0

unfoldable pub word : List Bool → ℕ
word [] = 0
word (b ∷ bs) = flag_of b + 2 * word bs

-- ---- some bits of some cells replaced: what carries bus writes, plans and settings

-- the mask's bits from the byte, every other bit from the old byte
unfoldable pub merge_of : ℕ → ℕ → ℕ → ℕ
merge_of old mask byte = bit_or (bit_and old (255 - mask)) (bit_and byte mask)

-- the bits of a mask, in one cell, to be taken from a byte
pub record Change : Type 0 where
  pub cell : ℕ
  pub mask : ℕ
  pub byte : ℕ

abbrev pub change : ℕ → ℕ → ℕ → Change
change c m b = record { cell = c; mask = m; byte = b }

unfoldable pub changes : List ℕ → List Change → List ℕ
changes rs [] = rs
changes rs (c ∷ cs) = changes (set rs c.cell (merge_of (get_or rs c.cell 0) c.mask c.byte)) cs

-- ---- which bits those may be

-- bit j of cell k is among those that some of the changes replace
unfoldable pub touches : List Change → ℕ → ℕ → Bool
touches [] k j = false
touches (c ∷ cs) k j = (eqb k c.cell && is_on c.mask j) || touches cs k j
