-- Eight flags as a byte, by all their 256 values; and bit j of flags packed is flag j, over any number of flags.
-- Assumes nothing.
use mathlib.Core.Path.{◌≡◌, ◌∙◌}
use mathlib.Core.Bool.{Bool, true, false}
use mathlib.Core.List.{List, [], ◌∷◌}
use Prim.Native.Nat.{ℕ, zero, suc, ◌+◌, ◌*◌, ◌/◌, ◌%◌, ◌<◌}
use native.Mathlib.Nat.{pow-succ', div-div-eq-div-mul, div-one}
use native.Mathlib.Omega.{arith}
use lib.ListN.{get_or}
use lib.Dec.{T, eqb, eqb→eq, lit<}
use lib.Bits.{bit_or}
use Rattle.bits.specs.Bits.{bit, flag_of, word}
use Rattle.bits.proofs.BitLaws.{bit_none}
use Rattle.bits.proofs.Every.{both, both_left, both_right}

abbrev each : (Bool → Bool) → Bool
each f = both (f true) (f false)

each_at : (f : Bool → Bool) → T (each f) → (b : Bool) → T (f b)
each_at f t true = both_left (f true) (f false) t
each_at f t false = both_right (f true) (f false) t

abbrev pub each4 : (Bool → Bool → Bool → Bool → Bool) → Bool
each4 f = each (λ a. each (λ b. each (λ c. each (f a b c))))

pub each4_at : (f : Bool → Bool → Bool → Bool → Bool) → T (each4 f) → (a b c d : Bool) → T (f a b c d)
each4_at f t a b c d =
    each_at (f a b c)
    (each_at (λ c. each (f a b c))
    (each_at (λ b. each (λ c. each (f a b c))) (each_at (λ a. each (λ b. each (λ c. each (f a b c)))) t a) b) c) d

abbrev pub packed : Bool → Bool → Bool → Bool → Bool → Bool → Bool → Bool → ℕ
packed a b c d e f g h =
    bit_or (bit_or (bit_or
    (bit_or (bit_or (bit_or (bit_or (flag_of a) (flag_of b * 2 % 256)) (flag_of c * 4 % 256)) (flag_of d * 8 % 256))
    (flag_of e * 16 % 256))
    (flag_of f * 32 % 256)) (flag_of g * 64 % 256)) (flag_of h * 128 % 256)

test : Bool → Bool → Bool → Bool → Bool → Bool → Bool → Bool → Bool
unfolding word
test a b c d e f g h = eqb (packed a b c d e f g h) (word (a ∷ b ∷ c ∷ d ∷ e ∷ f ∷ g ∷ h ∷ []))

pub pack_law : (a b c d e f g h : Bool) → packed a b c d e f g h ≡ word (a ∷ b ∷ c ∷ d ∷ e ∷ f ∷ g ∷ h ∷ [])
unfolding test
pack_law a b c d e f g h =
    eqb→eq _ _ (each4_at (test a b c d) (each4_at (λ a b c d. each4 (test a b c d)) tt a b c d) e f g h)

flag_lt : (b : Bool) → flag_of b < 2
flag_lt true = lit< tt
flag_lt false = lit< tt

bit_low : (f w : ℕ) → f < 2 → bit (f + 2 * w) 0 ≡ f
unfolding bit
bit_low f w h = rw div-one (omega arith)

half : (f w : ℕ) → f < 2 → (f + 2 * w) / 2 ≡ w
half f w h = omega arith

bit_high : (f w j : ℕ) → f < 2 → bit (f + 2 * w) (suc j) ≡ bit w j
unfolding bit
bit_high f w j h = rw (pow-succ', ← div-div-eq-div-mul, half f w h)

-- bit j of flags packed is flag j
pub word_bit : (bs : List Bool) (j : ℕ) → bit (word bs) j ≡ flag_of (get_or bs j false)
unfolding word
word_bit [] j = bit_none j
word_bit (b ∷ bs) zero = bit_low (flag_of b) (word bs) (flag_lt b)
word_bit (b ∷ bs) (suc j) = bit_high (flag_of b) (word bs) j (flag_lt b) ∙ word_bit bs j
