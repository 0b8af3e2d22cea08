-- The best choice of the divisors up to an exponent has the largest product within k, and of equals the
-- smallest divisor. By induction: one more divisor is taken only for a larger product. Assumes nothing.
use Prim.Native.Nat.{ℕ, zero, suc, ◌*◌, ◌/◌, ◌^◌, ◌≤◌, ◌<◌}
use native.Mathlib.Nat.{mul-le-mul_right, div-mul-le_self, le-div_iff_mul-le, le-min, min-le_left}
use native.Mathlib.Nat.{min-le_right, le_trans, le_of_lt, le_of_eq, zero-mul}
use native.Mathlib.Decide.{dec_le}
use native.Mathlib.Omega.{arith}
use Rattle.std.specs.Prelude.{fold}
use Rattle.std.specs.List.{range_with_len}
use mathlib.Core.Path.{◌≡◌, refl, sym, subst, ap, ◌∙◌}
use mathlib.Core.Logic.{◌⊎◌, inl, inr, ⊎_elim}
use lib.Pow.{pow_pos, pow_mono}
use borrow.Author.Tests.{ltb-true, ltb-false}
use Rattle.bits.proofs.BitLaws.{choose_ind}
use Rattle.fan.specs.declared.planner.Choice.{Choice}
use Rattle.fan.specs.declared.Divisor.{Divisor}
use Rattle.fan.specs.declared.Divisor.TheVariants.{By1, By2}
use Rattle.fan.specs.Count.{exponent_of, value_of, from_bits}
use Rattle.fan.specs.Search.{product_of, choice_at, better, best_to}
use Rattle.fan.proofs.Divisors.{exponent_from_bits, value_from_bits, value_pos}

-- computed, for 2,641 rpm: K is 511, and d 2 gives 510, where the smallest d with 255 d at least K gives 508
of_511 : best_to 511 7 ≡ record { divisor = By2; counts = 255 }
unfolding best_to better from_bits
of_511 = refl

pub record Best (k e : ℕ) (c : Choice) : Type 0 where
  pub exponent_le : exponent_of c.divisor ≤ e
  pub counts_le : c.counts ≤ 255
  pub within : product_of c ≤ k
  pub largest : (j m : ℕ) → j ≤ e → m ≤ 255 → m * 2 ^ j ≤ k → m * 2 ^ j ≤ product_of c
  pub smallest : (j m : ℕ) → j ≤ e → m ≤ 255 → m * 2 ^ j ≡ product_of c → value_of c.divisor ≤ 2 ^ j

-- the choice at a divisor is within k, and nothing with that divisor is larger
at_within : (k : ℕ) (d : Divisor) → product_of (choice_at k d) ≤ k
at_within k d =
    le_trans (mul-le-mul_right (value_of d) (min-le_right 255 (k / value_of d))) (div-mul-le_self k (value_of d))

at_largest : (k m : ℕ) (d : Divisor) → m ≤ 255 → m * value_of d ≤ k → m * value_of d ≤ product_of (choice_at k d)
at_largest k m d h w = mul-le-mul_right (value_of d) (le-min h ((le-div_iff_mul-le (value_pos d)).1 w))

-- the same at an exponent that is known
at_exponent : (k m i j : ℕ) → i < 8 → j ≡ i → m ≤ 255 → m * 2 ^ j ≤ k → m * 2 ^ j ≤ product_of (choice_at k (from_bits i))
at_exponent k m i j hi e h w =
    let v : value_of (from_bits i) ≡ 2 ^ j = value_from_bits i hi ∙ sym (ap (λ (x : ℕ). 2 ^ x) e) in
    subst (λ (x : ℕ). m * x ≤ product_of (choice_at k (from_bits i))) v
    (at_largest k m (from_bits i) h (subst (λ (x : ℕ). m * x ≤ k) (sym v) w))

le_or : (j e : ℕ) → j ≤ suc e → (j ≤ e) ⊎ (j ≡ suc e)
le_or j e h = elim (dec_le j e) [ yes p ↦ inl p | no p ↦ inr (omega arith) ]

module _ (k e : ℕ) (c : Choice) (fits : suc e < 8) (b : Best k e c) where
  abbrev next : Choice
  next = choice_at k (from_bits (suc e))

  larger : product_of c < product_of next → Best k (suc e) next
  larger high =
      record {
        exponent_le = le_of_eq (exponent_from_bits (suc e) fits);
        counts_le = min-le_left 255 _;
        within = at_within k (from_bits (suc e));
        largest = λ j m hj hm hw. ⊎_elim
            (λ p. le_trans (b.largest j m p hm hw) (le_of_lt high))
            (λ p. at_exponent k m (suc e) j fits p hm hw) (le_or j e hj);
        smallest = λ j m hj hm s. ⊎_elim
            (λ p.
            let low : m * 2 ^ j ≤ product_of c =
            b.largest j m p hm (le_trans (le_of_eq s) (at_within k (from_bits (suc e)))) in
            absurd (omega arith))
            (λ p. le_of_eq (value_from_bits (suc e) fits ∙ sym (ap (λ (x : ℕ). 2 ^ x) p))) (le_or j e hj);
      }

  no_larger : product_of next ≤ product_of c → Best k (suc e) c
  no_larger low =
      record {
        exponent_le = omega (arith, b.exponent_le);
        counts_le = b.counts_le;
        within = b.within;
        largest = λ j m hj hm hw. ⊎_elim
            (λ p. b.largest j m p hm hw)
            (λ p. le_trans (at_exponent k m (suc e) j fits p hm hw) low) (le_or j e hj);
        smallest = λ j m hj hm s. ⊎_elim
            (λ p. b.smallest j m p hm s)
            (λ p. pow_mono {i = exponent_of c.divisor} {j = j} (omega (arith, b.exponent_le))) (le_or j e hj);
      }

  step : Best k (suc e) (better k c (from_bits (suc e)))
  unfolding better
  step = choose_ind (Best k (suc e)) _ next c (λ q. larger (ltb-true _ _ q)) (λ q. no_larger (ltb-false _ _ q))

pub best : (k e : ℕ) → e < 8 → Best k e (best_to k e)
unfolding best_to
best k zero h =
    record {
      exponent_le = le_of_eq (exponent_from_bits 0 h);
      counts_le = min-le_left 255 _;
      within = at_within k (from_bits 0);
      largest = λ j m hj hm hw. at_exponent k m 0 j h (omega arith) hm hw;
      smallest = λ j m hj hm s. le_trans (le_of_eq (value_from_bits 0 h)) (pow_pos j);
    }
best k (suc e) h = step k e (best_to k e) h (best k e (omega arith))

-- weighing the seven larger ones in rising order, from a choice of the smallest
pub over_eight : (k : ℕ) (c : Choice) → c ≡ choice_at k By1
    → fold (λ b e. better k b (from_bits e)) c (range_with_len 1 7) ≡ best_to k 7
unfolding best_to from_bits
over_eight k c e = ap (λ (b : Choice). fold (λ b e. better k b (from_bits e)) b (range_with_len 1 7)) e

-- the best choice of the eight
pub best_of_eight : (k : ℕ) → Best k 7 (best_to k 7)
best_of_eight k = best k 7 (omega arith)

pub counts_pos : (k : ℕ) → 1 ≤ k → 0 < (best_to k 7).counts
counts_pos k h = go (best_to k 7).counts refl
  where
    p : 1 ≤ product_of (best_to k 7)
    p = (best_of_eight k).largest 0 1 (omega arith) (omega arith) h

    go : (n : ℕ) → (best_to k 7).counts ≡ n → 0 < (best_to k 7).counts
    go zero q =
        absurd (omega (
          arith,
          p,
          ap (λ (x : ℕ). x * value_of (best_to k 7).divisor) q
              ∙ zero-mul (value_of (best_to k 7).divisor),
        ))
    go (suc n) q = omega arith
