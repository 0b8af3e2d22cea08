-- Two status bytes bit by bit: a byte that is not 0 has a bit set, and masks act on each bit alone.
-- Assumes nothing.
use mathlib.Core.Path.{◌≡◌, refl, ap, sym, ◌∙◌}
use mathlib.Core.Bool.{Bool, true, false, ◌||◌, true≢false}
use mathlib.Core.Logic.{◌≢◌}
use Prim.Native.Nat.{ℕ, zero, suc, ◌+◌, ◌-◌, ◌/◌, ◌%◌, ◌^◌, ◌<◌, ◌≤◌, min, max}
use native.Mathlib.Decide.{ℕ_discrete}
use native.Mathlib.Nat.{pow-succ'}
use native.Mathlib.Omega.{arith}
use borrow.Author.Tests.{eq-eqb, ne_eqb, eqb-true, eqb-false, not-true}
use lib.Bits.{bit_or, and_le_r, or_lt}
use lib.Count.{ones_in, ones, ones_step, ones-le}
use lib.Dec.{T, eqb, ltb, ltb→lt}
use Rattle.bits.specs.Bits.{bit, is_on, flag_of, choose}
use Rattle.bits.proofs.BitLaws.{bit_lt, bit_none, bit_on, and_bit, or_bit}
use Rattle.bits.proofs.Every.{every_at, same_below, same_below2, both, both_left, both_right}
use Rattle.status.specs.Status.{unmasked, alarm_count}
use Rattle.status.specs.Claims.{UnmaskedBit, AnyUnmaskedExactly, set_bits, CountsSetBits}
use Rattle.status.specs.Claims.UnmaskedBit.{in_first, in_second}

-- ---- a byte that is not 0 has a bit set
lowest : ℕ → ℕ → ℕ
lowest n zero = 0
lowest n (suc k) = choose (is_on n k) k (lowest n k)

found : ℕ → Bool
found n = eqb n 0 || both (is_on n (lowest n 8)) (ltb (lowest n 8) 8)

found_all : (n : ℕ) → n < 256 → T (found n)
unfolding found lowest bit
found_all = every_at found 256 tt

other : (a b : Bool) → T (a || b) → a ≡ false → T b
other true b t e = absurd (true≢false e)
other false b t e = t

is_true : (b : Bool) → T b → b ≡ true
is_true true t = refl
is_true false t = absurd t

module _ (n : ℕ) (h : n < 256) (z : n ≢ 0) where
  both_found : T (both (is_on n (lowest n 8)) (ltb (lowest n 8) 8))
  unfolding found
  both_found = other (eqb n 0) _ (found_all n h) (ne_eqb n 0 z)

  set_bit : bit n (lowest n 8) ≡ 1
  set_bit = bit_on n (lowest n 8) (is_true _ (both_left (is_on n (lowest n 8)) _ both_found))

  set_lt : lowest n 8 < 8
  set_lt = ltb→lt (lowest n 8) 8 (both_right (is_on n (lowest n 8)) _ both_found)

-- ---- masks
not_bit : (m j : ℕ) → m < 256 → j < 8 → bit (255 - m) j ≡ 1 - bit m j
unfolding bit
not_bit = same_below2 256 8 (λ m j. bit (255 - m) j) (λ m j. 1 - bit m j) tt

module _ (b m j : ℕ) (hm : m < 256) (hj : j < 8) where
  unmasked_is : bit (unmasked b m) j ≡ min (bit b j) (1 - bit m j)
  unmasked_is = and_bit b (255 - m) j ∙ ap (min (bit b j)) (not_bit m j hm hj)

  shows : bit (unmasked b m) j ≡ 1 → bit b j ≡ 1
  shows e = omega (arith, unmasked_is, bit_lt b j, bit_lt m j)

  unmasks : bit (unmasked b m) j ≡ 1 → bit m j ≡ 0
  unmasks e = omega (arith, unmasked_is, bit_lt b j, bit_lt m j)

  passes : bit b j ≡ 1 → bit m j ≡ 0 → bit (unmasked b m) j ≡ 1
  passes e f = omega (arith, unmasked_is)

unmasked_lt : (b m : ℕ) → unmasked b m < 256
unmasked_lt b m = omega (arith, and_le_r b (255 - m))

-- ---- the test of both bytes
module _ (s1 m1 s2 m2 : ℕ) (h1 : m1 < 256) (h2 : m2 < 256) where
  abbrev u1 : ℕ
  u1 = unmasked s1 m1

  abbrev u2 : ℕ
  u2 = unmasked s2 m2

  -- a set bit of what the masks leave is an unmasked bit
  some_bit : bit_or u1 u2 ≢ 0 → UnmaskedBit s1 m1 s2 m2
  some_bit z = go (ℕ_discrete (bit u1 j) 1)
    where
      j : ℕ
      j = lowest (bit_or u1 u2) 8

      small : bit_or u1 u2 < 256
      small = or_lt 8 u1 u2 (unmasked_lt s1 m1) (unmasked_lt s2 m2)

      hj : j < 8
      hj = set_lt (bit_or u1 u2) small z

      on : max (bit u1 j) (bit u2 j) ≡ 1
      on = sym (or_bit u1 u2 j) ∙ set_bit (bit_or u1 u2) small z

      second : (bit u1 j ≡ 1 → ⊥) → bit u2 j ≡ 1
      second n = omega (arith, on, bit_lt u1 j, bit_lt u2 j)

      go : Dec (bit u1 j ≡ 1) → UnmaskedBit s1 m1 s2 m2
      go (yes e) = in_first j hj (shows s1 m1 j h1 hj e) (unmasks s1 m1 j h1 hj e)
      go (no n) = in_second j hj (shows s2 m2 j h2 hj (second n)) (unmasks s2 m2 j h2 hj (second n))

  -- and an unmasked bit is a set bit of one of them
  not_zero : (j : ℕ) → max (bit u1 j) (bit u2 j) ≡ 1 → bit_or u1 u2 ≢ 0
  not_zero j e z = omega (arith, sym e ∙ sym (or_bit u1 u2 j) ∙ ap (λ (n : ℕ). bit n j) z ∙ bit_none j)

  has_bit : UnmaskedBit s1 m1 s2 m2 → bit_or u1 u2 ≢ 0
  has_bit (in_first j hj e f) = not_zero j (omega (arith, passes s1 m1 j h1 hj e f, bit_lt u2 j))
  has_bit (in_second j hj e f) = not_zero j (omega (arith, passes s2 m2 j h2 hj e f, bit_lt u1 j))

pub any_unmasked_law : AnyUnmaskedExactly
any_unmasked_law s1 m1 s2 m2 h1 h2 =
    let u = bit_or (unmasked s1 m1) (unmasked s2 m2) in (
      (λ e. some_bit s1 m1 s2 m2 h1 h2 (eqb-false u 0 (not-true (eqb u 0) e))),
      (λ b. simp (ne_eqb u 0 (has_bit s1 m1 s2 m2 h1 h2 b))),
    )

-- ---- the count

-- a figure: eight bits of one byte and six of the other, at the same places, are fourteen
all_counted : alarm_count 0b1111_1111 0b0011_1111 ≡ 14
unfolding ones ones_in
all_counted = refl

pub count_few : (x z : ℕ) → x < 2 ^ 8 → z < 2 ^ 8 → ones x + ones z ≤ 16
count_few x z h k = omega (arith, ones-le 8 x h, ones-le 8 z k)

-- by its digits, from the lowest up
ones_zero : ones 0 ≡ 0
unfolding ones ones_in
ones_zero = refl

by_digits : (k n : ℕ) → n < 2 ^ k → ones n ≡ ones_in k n
unfolding ones_in
by_digits zero n h = let e : n ≡ 0 = omega arith in rw e ones_zero
by_digits (suc k) n h =
    let half : n / 2 < 2 ^ k = omega (arith, pow-succ' 2 k) in
    ones_step n ∙ ap (λ (x : ℕ). n % 2 + x) (by_digits k (n / 2) half)

-- of a byte, as computed tests
ones_each : (x : ℕ) → x < 256 → ones x ≡ set_bits x
unfolding ones_in bit
ones_each x h = by_digits 8 x h ∙ same_below 256 (ones_in 8) set_bits tt x h

ones_none : (x : ℕ) → x < 256 → flag_of (eqb (ones x) 0) ≡ flag_of (eqb x 0)
unfolding ones_in
ones_none x h =
    ap (λ (n : ℕ). flag_of (eqb n 0)) (by_digits 8 x h)
    ∙ same_below 256 (λ y. flag_of (eqb (ones_in 8 y) 0)) (λ y. flag_of (eqb y 0)) tt x h

none_set : (x : ℕ) → x < 256 → ones x ≡ 0 → x ≡ 0
none_set x h e = go (eqb x 0) refl
  where
    go : (b : Bool) → eqb x 0 ≡ b → x ≡ 0
    go true t = eqb-true x 0 t
    go false t =
        let one : flag_of (eqb (ones x) 0) ≡ 1 = rw (eq-eqb (ones x) 0 e) refl in
        let zero : flag_of (eqb x 0) ≡ 0 = rw t refl in
        absurd (omega (arith, one, zero, ones_none x h))

pub counts_set_bits : CountsSetBits
counts_set_bits =
    record {
      each = λ a b h k. rw (ones_each a h, ones_each b k) refl;
      none =
          λ a b h k.
          ((λ e. (none_set a h (omega arith), none_set b k (omega arith))), (λ z. rw (z.0, z.1, ones_zero) refl));
    }
