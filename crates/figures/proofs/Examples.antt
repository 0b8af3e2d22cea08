-- Figures and counters worked out by hand, against the definitions by computing.
-- Assumes nothing.
use mathlib.Core.Path.{◌≡◌, refl}
use mathlib.Core.List.{List, [], ◌∷◌}
use lib.IntN.{ℤ, pos, negsuc}
use Rattle.bits.specs.Bits.{bit}
use Rattle.figures.specs.Figure.{figure, lesser, greater, picked_from, picked, sum_of}
use Rattle.figures.specs.Figure.{figure_of, figure_after}
use Rattle.figures.specs.Rows.{figures_after, column, figures_of}
use Rattle.figures.specs.BitCounts.{bit_counts_from, bit_counts_after, bit_counts_over, bytes_with_bit, bits_of}
use Rattle.numbers.specs.TwosComplement.{signed_of}
use Rattle.numbers.specs.Wrapping.{low_bits, wrapped}

of_none : figure_of [] ≡ figure (pos 0) (pos 0) (pos 0)
unfolding picked sum_of wrapped low_bits signed_of
of_none = refl

-- 3, -5, 7
abbrev three : List ℤ
three = pos 3 ∷ negsuc 4 ∷ pos 7 ∷ []

of_three : figure_of three ≡ figure (negsuc 4) (pos 7) (pos 5)
unfolding picked picked_from lesser greater sum_of wrapped low_bits signed_of
of_three = refl

-- the first value is the least and the greatest, whatever was before
first_of_all : figure_after 0 (figure (pos 9) (negsuc 9) (pos 0)) (negsuc 0) ≡ figure (negsuc 0) (negsuc 0) (negsuc 0)
unfolding figure_after wrapped low_bits signed_of
first_of_all = refl

-- two readings in three samples: 3, -5, 7 and 1, 2, -1
of_two_readings :
    figures_of 2 ((pos 3 ∷ pos 1 ∷ []) ∷ (negsuc 4 ∷ pos 2 ∷ []) ∷ (pos 7 ∷ negsuc 0 ∷ []) ∷ [])
    ≡ negsuc 4 ∷ pos 7 ∷ pos 5 ∷ negsuc 0 ∷ pos 2 ∷ pos 2 ∷ []
unfolding figures_of column picked picked_from lesser greater sum_of wrapped low_bits signed_of
of_two_readings = refl

-- a third sample, 4 and 6: the second reading has two numbers only, which stay
row_more : figures_after 2 (pos 1 ∷ pos 3 ∷ pos 4 ∷ pos 8 ∷ pos 9 ∷ []) (pos 4 ∷ pos 6 ∷ [])
    ≡ pos 1 ∷ pos 4 ∷ pos 8 ∷ pos 8 ∷ pos 9 ∷ []
unfolding figures_after figure_after lesser greater wrapped low_bits signed_of
row_more = refl

-- the greatest number of 64 bits and 1, the lowest and -1
wraps_up : wrapped (pos 9223372036854775808) ≡ negsuc 9223372036854775807
unfolding wrapped low_bits signed_of
wraps_up = refl

wraps_down : wrapped (negsuc 9223372036854775808) ≡ pos 9223372036854775807
unfolding wrapped low_bits signed_of
wraps_down = refl

-- 0Dh has the bits 0, 2 and 3: the counter of bit 2 wraps, and bit 3 has none
of_a_byte : bit_counts_after (7 ∷ 7 ∷ 18446744073709551615 ∷ []) 0x0d ≡ 8 ∷ 7 ∷ 0 ∷ []
unfolding bit_counts_from bit
of_a_byte = refl

of_bytes : (bit_counts_over (0 ∷ 0 ∷ []) (1 ∷ 3 ∷ 0 ∷ []) ≡ 2 ∷ 1 ∷ []) × (bytes_with_bit 0 (1 ∷ 3 ∷ 0 ∷ []) ≡ 2)
unfolding bit_counts_over bit_counts_from bytes_with_bit bit
of_bytes = (refl, refl)

-- of 01h, 03h and 06h two have bit 0, two bit 1 and one bit 2
bits_of_three : bits_of 3 (1 ∷ 3 ∷ 6 ∷ []) ≡ 2 ∷ 2 ∷ 1 ∷ []
unfolding bits_of bytes_with_bit bit
bits_of_three = refl
