-- What masks do to the bits of a byte: each mask operation, bit by bit, then a merge.
-- Assumes nothing.
use mathlib.Core.Path.{◌≡◌, ◌∙◌, ap, refl}
use mathlib.Core.Bool.{Bool, true, false}
use Prim.Native.Nat.{ℕ, ◌+◌, ◌-◌, ◌*◌, ◌/◌, ◌%◌, ◌^◌, ◌<◌, min, max}
use native.Mathlib.Nat.{mod-lt, zero-div}
use native.Mathlib.Omega.{arith}
use lib.Dec.{lit<}
use lib.Bits.{bit_and, bit_or, bit_xor, differ, and_shr, or_shr, xor_shr, and_mod, or_mod, xor_mod, and_mask}
use borrow.Author.Tests.{eqb-true, eqb-false}
use Rattle.bits.specs.Bits.{bit, is_on, merge_of, number_of, choose}
use Rattle.bits.specs.Claims.{MergeTakes}
use Rattle.bits.specs.declared.Bit.{Bit}
use Rattle.bits.specs.declared.Bit.TheVariants.{B0, B1, B2, B3, B4, B5, B6, B7}
use Rattle.bits.proofs.Every.{same_below, same_below2}

-- ---- a choice, by its two cases
pub choose_ind : {A : Type 0} (P : A → Type 0) (b : Bool) (x y : A) → (b ≡ true → P x) → (b ≡ false → P y)
    → P (choose b x y)
choose_ind P true x y f g = f refl
choose_ind P false x y f g = g refl

-- ---- one bit
pub number_lt : (b : Bit) → number_of b < 8
number_lt B0 = lit< tt
number_lt B1 = lit< tt
number_lt B2 = lit< tt
number_lt B3 = lit< tt
number_lt B4 = lit< tt
number_lt B5 = lit< tt
number_lt B6 = lit< tt
number_lt B7 = lit< tt

pub bit_lt : (n j : ℕ) → bit n j < 2
unfolding bit
bit_lt n j = mod-lt (n / 2 ^ j) (lit< tt)

pub bit_none : (j : ℕ) → bit 0 j ≡ 0
unfolding bit
bit_none j = rw zero-div

-- a digit moved up to bit j is that bit
pub bit_placed : (d j : ℕ) → d < 2 → j < 8 → bit (d * 2 ^ j) j ≡ d
unfolding bit
bit_placed = same_below2 2 8 (λ d j. bit (d * 2 ^ j) j) (λ d j. d) tt

-- the lowest digit by a mask
pub low_digit : (x : ℕ) → bit_and x 1 ≡ x % 2
low_digit x = and_mask x 1

-- one bit shifted up stays within the byte
pub shifted : (d j : ℕ) → d < 2 → j < 8 → d * 2 ^ j % 256 ≡ d * 2 ^ j
shifted = same_below2 2 8 (λ d j. d * 2 ^ j % 256) (λ d j. d * 2 ^ j) tt

-- ---- masks, bit by bit
-- an operation f that keeps bits apart does to each bit what it does to one
bit_by_bit : (f g : ℕ → ℕ → ℕ) → ((a b k : ℕ) → f a b / 2 ^ k ≡ f (a / 2 ^ k) (b / 2 ^ k))
    → ((a b k : ℕ) → f a b % 2 ^ k ≡ f (a % 2 ^ k) (b % 2 ^ k))
    → ((x y : ℕ) → x < 2 → y < 2 → f x y ≡ g x y)
    → (a b j : ℕ) → bit (f a b) j ≡ g (bit a j) (bit b j)
unfolding bit
bit_by_bit f g shifts cuts one a b j =
    ap (λ (x : ℕ). x % 2) (shifts a b j) ∙ cuts (a / 2 ^ j) (b / 2 ^ j) 1
    ∙ one (a / 2 ^ j % 2) (b / 2 ^ j % 2) (mod-lt (a / 2 ^ j) (lit< tt)) (mod-lt (b / 2 ^ j) (lit< tt))

pub and_bit : (a b j : ℕ) → bit (bit_and a b) j ≡ min (bit a j) (bit b j)
and_bit = bit_by_bit bit_and min and_shr and_mod (same_below2 2 2 bit_and min tt)

pub or_bit : (a b j : ℕ) → bit (bit_or a b) j ≡ max (bit a j) (bit b j)
or_bit = bit_by_bit bit_or max or_shr or_mod (same_below2 2 2 bit_or max tt)

pub xor_bit : (a b j : ℕ) → bit (bit_xor a b) j ≡ differ (bit a j) (bit b j)
xor_bit = bit_by_bit bit_xor differ xor_shr xor_mod (same_below2 2 2 bit_xor differ tt)

not_bit : (m j : ℕ) → m < 256 → j < 8 → bit (255 - m) j ≡ 1 - bit m j
unfolding bit
not_bit = same_below2 256 8 (λ m j. bit (255 - m) j) (λ m j. 1 - bit m j) tt

-- ---- a merge
merge_bit : (o m b j : ℕ) → m < 256 → j < 8
    → bit (merge_of o m b) j ≡ max (min (bit o j) (1 - bit m j)) (min (bit b j) (bit m j))
unfolding merge_of
merge_bit o m b j hm hj = simp (or_bit, and_bit, not_bit m j hm hj)

-- where the mask has 0 the old bit stays
pub merge_kept : (o m b j : ℕ) → m < 256 → j < 8 → bit m j ≡ 0 → bit (merge_of o m b) j ≡ bit o j
merge_kept o m b j hm hj e =
    merge_bit o m b j hm hj ∙ ap (λ (k : ℕ). max (min (bit o j) (1 - k)) (min (bit b j) k)) e
    ∙ same_below2 2 2 (λ x y. max (min x 1) (min y 0)) (λ x y. x) tt (bit o j) (bit b j) (bit_lt o j) (bit_lt b j)

-- where the mask has 1 the byte's bit is taken
pub merge_given : (o m b j : ℕ) → m < 256 → j < 8 → bit m j ≡ 1 → bit (merge_of o m b) j ≡ bit b j
merge_given o m b j hm hj e =
    merge_bit o m b j hm hj ∙ ap (λ (k : ℕ). max (min (bit o j) (1 - k)) (min (bit b j) k)) e
    ∙ same_below2 2 2 (λ x y. max (min x 0) (min y 1)) (λ x y. y) tt (bit o j) (bit b j) (bit_lt o j) (bit_lt b j)

-- ---- tests and numbers
abbrev pub one_if : Bool → ℕ
one_if true = 1
one_if false = 0

pub bool_same : (a b : Bool) → one_if a ≡ one_if b → a ≡ b
bool_same true true e = refl
bool_same true false e = absurd (omega arith)
bool_same false true e = absurd (omega arith)
bool_same false false e = refl

pub bit_off : (n j : ℕ) → is_on n j ≡ false → bit n j ≡ 0
bit_off n j e = omega (arith, bit_lt n j, eqb-false (bit n j) 1 e)

pub bit_on : (n j : ℕ) → is_on n j ≡ true → bit n j ≡ 1
bit_on n j e = eqb-true (bit n j) 1 e

pub merge_takes : MergeTakes
merge_takes o m b j hm hj =
    choose_ind (λ (x : ℕ). bit (merge_of o m b) j ≡ x) (is_on m j) (bit b j) (bit o j)
    (λ e. merge_given o m b j hm hj (bit_on m j e)) (λ e. merge_kept o m b j hm hj (bit_off m j e))

-- ---- a byte is fixed by its eight bits
from_bits_law : (n : ℕ) → n < 256
    → n ≡ bit n 0 + 2 * bit n 1 + 4 * bit n 2 + 8 * bit n 3 + 16 * bit n 4 + 32 * bit n 5 + 64 * bit n 6 + 128 * bit n 7
unfolding bit
from_bits_law =
    same_below 256 (λ n. n)
    (λ n. bit n 0 + 2 * bit n 1 + 4 * bit n 2 + 8 * bit n 3 + 16 * bit n 4 + 32 * bit n 5 + 64 * bit n 6 + 128 * bit n 7) tt

pub same_byte : (a b : ℕ) → a < 256 → b < 256 → ((j : ℕ) → j < 8 → bit a j ≡ bit b j) → a ≡ b
same_byte a b ha hb e =
    omega (
      arith,
      from_bits_law a ha,
      from_bits_law b hb,
      e 0 (lit< tt),
      e 1 (lit< tt),
      e 2 (lit< tt),
      e 3 (lit< tt),
      e 4 (lit< tt),
      e 5 (lit< tt),
      e 6 (lit< tt),
      e 7 (lit< tt),
    )
