-- The plan computed is the plan that specs/Plan describes, and what is claimed of every plan holds.
-- A limit below 255 rings from (L+1)d up, the plan's product is the largest not above K,
-- and w itself counts K. Assumes nothing.
use Prim.Native.Nat.{ℕ, ◌+◌, ◌-◌, ◌*◌, ◌/◌, ◌^◌, ◌≤◌}
use native.Mathlib.Nat.{mul-le-mul, mul-div_cancel, div-zero, le-div_iff_mul-le, le_trans, le_of_eq, le_antisymm}
use native.Mathlib.Omega.{arith}
use Rattle.std.specs.Prelude.{Option, Some, None}
use mathlib.Core.Path.{◌≡◌, refl, sym, subst, ap, ap₂, ◌∙◌}
use mathlib.Core.Bool.{Bool, true, false, ◌||◌}
use lib.Dec.{eqb, ltb}
use borrow.Author.Tests.{eqb-false, ltb-true, ltb-false}
use Rattle.bits.specs.Bits.{choose}
use Rattle.fan.specs.declared.planner.Choice.{Choice}
use Rattle.fan.specs.declared.Divisor.{Divisor}
use Rattle.fan.specs.declared.Plan.{Plan}
use Rattle.fan.specs.Count.{per_minute, value_of, stored_of, count_of}
use Rattle.fan.specs.Plan.{some_plan, IsPlan, IsPlanned, Plans, rings_from, asked, is_no_speed, rings_at}
use Rattle.fan.specs.Search.{product_of, best_to, planned_by, plan_of}
use Rattle.fan.proofs.Divisors.{value_pos, value_is, value_inj, divisor_pos}
use Rattle.fan.proofs.planner.Ringing.{ring_le, le_ring, rings_as_planned, count_ge, count_le}
use Rattle.fan.proofs.planner.Best.{Best, best_of_eight, counts_pos}

-- a speed that is planned has a count
asked_pos : (w : ℕ) → (w ≡ 0 → ⊥) → w ≤ per_minute → 1 ≤ asked w
asked_pos w n h = (le-div_iff_mul-le {k = w} (omega (arith, n))).1 (omega arith)

module _ (w : ℕ) (pos : 1 ≤ asked w) where
  abbrev chosen : Choice
  chosen = best_to (asked w) 7

  same : rings_from (value_of chosen.divisor) (chosen.counts - 1) ≡ product_of chosen
  same = ap (λ (n : ℕ). n * value_of chosen.divisor) (omega (arith, counts_pos (asked w) pos))

  chosen_is : IsPlan w (value_of chosen.divisor) (chosen.counts - 1)
  chosen_is =
      let b : Best (asked w) 7 chosen = best_of_eight (asked w) in
      record {
        divisor = value_is chosen.divisor;
        limit = omega (arith, b.counts_le);
        within = le_trans (le_of_eq same) b.within;
        largest = λ e m i hm hw.
            let p : rings_from e m ≡ (m + 1) * 2 ^ i.exponent = ap (λ (x : ℕ). (m + 1) * x) i.power in
            le_trans (le_of_eq p)
            (le_trans (b.largest i.exponent (m + 1) (omega (arith, i.three_bits)) (omega arith)
            (le_trans (le_of_eq (sym p)) hw)) (le_of_eq (sym same)));
        smallest = λ e m i hm s.
            let p : rings_from e m ≡ (m + 1) * 2 ^ i.exponent = ap (λ (x : ℕ). (m + 1) * x) i.power in
            le_trans (b.smallest i.exponent (m + 1) (omega (arith, i.three_bits)) (omega arith) (sym p ∙ s ∙ same))
            (le_of_eq (sym i.power));
      }

-- a speed that the table doesn't refuse
in_range : (w : ℕ) → is_no_speed w ≡ false → (w ≡ 0 → ⊥) × (w ≤ per_minute)
in_range w = go (eqb w 0) (ltb per_minute w) refl refl
  where
    go : (s t : Bool) → eqb w 0 ≡ s → ltb per_minute w ≡ t → (s || t) ≡ false → (w ≡ 0 → ⊥) × (w ≤ per_minute)
    go true t p q r = let z : ◌≡◌ {A = ℕ} 0 1 = cc in absurd (omega arith)
    go false true p q r = let z : ◌≡◌ {A = ℕ} 0 1 = cc in absurd (omega arith)
    go false false p q r = (eqb-false w 0 p, ltb-false _ _ q)

pub plan_of_is : (w : ℕ) → IsPlanned w (plan_of w)
unfolding plan_of
plan_of_is w = go (is_no_speed w) refl
  where
    go : (t : Bool) → is_no_speed w ≡ t → IsPlanned w (choose t None (planned_by (best_to (asked w) 7)))
    go true e = record { answer = sym (ap (λ (t : Bool). choose t 6 0) e); plan = λ z. absurd (omega (arith, z)) }
    go false e =
        record {
          answer = sym (ap (λ (t : Bool). choose t 6 0) e);
          plan = λ z. chosen_is w (asked_pos w (in_range w e).0 (in_range w e).1);
        }

-- one plan only: the products are equal, then the divisors, then the limits
plan_unique : (w l m : ℕ) (d e : Divisor) → IsPlan w (value_of d) l → IsPlan w (value_of e) m
    → some_plan d l ≡ some_plan e m
plan_unique w l m d e p q =
    let s : rings_from (value_of d) l ≡ rings_from (value_of e) m =
    le_antisymm (q.largest (value_of d) l (value_is d) p.limit p.within)
    (p.largest (value_of e) m (value_is e) q.limit q.within) in
    let v : value_of d ≡ value_of e =
    le_antisymm (p.smallest (value_of e) m (value_is e) q.limit (sym s))
    (q.smallest (value_of d) l (value_is d) p.limit s) in
    let n : l + 1 ≡ m + 1 =
    sym (mul-div_cancel (l + 1) (value_pos d)) ∙ ap₂ (λ (x y : ℕ). x / y) s v ∙ mul-div_cancel (m + 1) (value_pos e) in
    ap₂ some_plan (value_inj d e v) (omega arith)

unique : (w : ℕ) (p q : Option Plan) → IsPlanned w p → IsPlanned w q → p ≡ q
unique w (Some p) (Some q) a b = plan_unique w p.limit q.limit p.divisor q.divisor (a.plan refl) (b.plan refl)
unique w (Some p) None a b = let z : ◌≡◌ {A = ℕ} 0 6 = a.answer ∙ sym b.answer in absurd (omega arith)
unique w None (Some q) a b = let z : ◌≡◌ {A = ℕ} 6 0 = a.answer ∙ sym b.answer in absurd (omega arith)
unique w None None a b = refl

-- nothing is planned for 0 rpm
nonzero : {w d l : ℕ} → IsPlan w d l → w ≡ 0 → ⊥
nonzero {w} {d} {l} p z =
    let none : asked w ≡ 0 = ap (λ (x : ℕ). per_minute / x) z ∙ div-zero per_minute in
    omega (
      arith,
      p.within,
      mul-le-mul {n₁ =
          1} {m₁ = 1} {n₂ = l + 1} {m₂ = d} (omega arith) (divisor_pos p.divisor),
    )

pub plans_hold : Plans
plans_hold =
    record {
      unique = unique;
      exact = λ w d l p u. rings_as_planned d l u (divisor_pos p.divisor) p.limit;
      covers =
          λ w d l p a b hb h. le_ring d l (count_of a b) (divisor_pos p.divisor) p.limit
          (le_trans p.within (count_ge w a b hb h));
      least = λ w d l p e m i hm cov a b hb r.
          let at : rings_at e m (count_of w 1) ≡ true = cov w 1 (omega arith) (omega arith) in
          let from : rings_from e m ≤ asked w =
          le_trans (ring_le e m (count_of w 1) (divisor_pos i) at) (count_le w (nonzero p)) in
          let small : m ≤ 254 = below e m (count_of w 1) at in
          le_ring e m (count_of a b) (divisor_pos i) small
          (le_trans (p.largest e m i small from) (ring_le d l (count_of a b) (divisor_pos p.divisor) r));
    }
  where
    below : (e m u : ℕ) → rings_at e m u ≡ true → m ≤ 254
    below e m u r = omega (arith, ltb-true m (stored_of u e) r)

pub counts_of : (w : ℕ) (c : Choice) → (w ≡ 0 → ⊥) → w ≤ per_minute → c ≡ best_to (asked w) 7 → 1 ≤ c.counts
counts_of w c n h e = subst (λ (x : Choice). 1 ≤ x.counts) (sym e) (counts_pos (asked w) (asked_pos w n h))

-- what `plan` promises of an answer that is the computed one
pub promised : (w : ℕ) {r : Option Plan} → r ≡ plan_of w → (r ≡ plan_of w) × IsPlanned w r × Plans
promised w {r} e = (e, subst (λ (p : Option Plan). IsPlanned w p) (sym e) (plan_of_is w), plans_hold)
