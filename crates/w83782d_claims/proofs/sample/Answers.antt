-- The answer to a sample by its three tests.
-- Assumes nothing.
use mathlib.Core.Path.{◌≡◌, refl, ap, sym, ◌∙◌}
use mathlib.Core.Bool.{Bool, true, false, not, ◌&&◌, ◌||◌}
use Prim.Native.Nat.{ℕ, ◌<◌, ◌≤◌}
use native.Mathlib.Omega.{arith}
use lib.Dec.{eqb, lit<}
use Rattle.bits.specs.Bits.{choose}
use Rattle.numbers.specs.TwosComplement.{half9, holds}
use Rattle.analog.specs.Temperature.{outside}
use Rattle.analog.proofs.Halves.{held}
use Rattle.w83782d_layout.specs.declared.samples.Sample.{Sample}
use Rattle.w83782d_registers.proofs.Cases.{both}
use Rattle.w83782d_bus.specs.Bus.{State}
use Rattle.w83782d_store.specs.Stored.{sampled_halves, sample_answer}
use Rattle.w83782d_sample.specs.Sample.{sample_of}
use Rattle.w83782d_claims.specs.SampleClaims.{is_standby, RefusedSample}
use Rattle.w83782d_claims.proofs.sample.Stores.{sample_answer_law, refused_state}

-- ---- the three tests in order
abbrev in_order : Bool → Bool → Bool → ℕ
in_order a b c = choose a 3 (choose b 3 (choose c 4 0))

is_3 : (a b c : Bool) → eqb (in_order a b c) 3 ≡ (a || b)
is_3 true b c = refl
is_3 false true c = refl
is_3 false false true = refl
is_3 false false false = refl

is_4 : (a b c : Bool) → eqb (in_order a b c) 4 ≡ (not (a || b) && c)
is_4 true b c = refl
is_4 false true c = refl
is_4 false false true = refl
is_4 false false false = refl

is_0 : (a b c : Bool) → eqb (in_order a b c) 0 ≡ (not (a || b) && not c)
is_0 true b c = refl
is_0 false true c = refl
is_0 false false true = refl
is_0 false false false = refl

below_5 : (a b c : Bool) → in_order a b c < 5
below_5 true b c = lit< tt
below_5 false true c = lit< tt
below_5 false false true = lit< tt
below_5 false false false = lit< tt

module _ (s : State) (x : Sample) where
  answered : (sample_of s x).answer ≡ in_order (outside (sampled_halves x 2)) (outside (sampled_halves x 3)) (is_standby s)
  unfolding sample_answer
  answered = sample_answer_law s x

  pub below : (sample_of s x).answer < 5
  below = rw answered (below_5 (outside (sampled_halves x 2)) (outside (sampled_halves x 3)) (is_standby s))

  pub refused : RefusedSample s x
  refused =
      record {
        three =
            ap (λ (a : ℕ). eqb a 3) answered
            ∙ is_3 (outside (sampled_halves x 2)) (outside (sampled_halves x 3)) (is_standby s);
        four =
            ap (λ (a : ℕ). eqb a 4) answered
            ∙ is_4 (outside (sampled_halves x 2)) (outside (sampled_halves x 3)) (is_standby s);
        accepted =
            ap (λ (a : ℕ). eqb a 0) answered
            ∙ is_0 (outside (sampled_halves x 2)) (outside (sampled_halves x 3)) (is_standby s);
        unchanged = refused_state s x;
      }

-- ---- an accepted sample's temperatures are in range
none_far : (a b c : Bool) → in_order a b c ≡ 0 → (a ≡ false) × (b ≡ false)
none_far true b c e = absurd (omega arith)
none_far false true c e = absurd (omega arith)
none_far false false c e = (refl, refl)

module _ (s : State) (x : Sample) (a : (sample_of s x).answer ≡ 0) where
  near : (outside (sampled_halves x 2) ≡ false) × (outside (sampled_halves x 3) ≡ false)
  unfolding sample_answer
  near =
      none_far (outside (sampled_halves x 2)) (outside (sampled_halves x 3)) (is_standby s) (sym (sample_answer_law s x) ∙ a)

  pub in_range : (n : ℕ) → 2 ≤ n → n ≤ 3 → holds half9 (sampled_halves x n) ≡ true
  in_range =
      both (λ n. holds half9 (sampled_halves x n) ≡ true) (held (sampled_halves x 2) near.0)
      (held (sampled_halves x 3) near.1)
