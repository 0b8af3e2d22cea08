-- Fans on crossings: the real-time bit that a sample leaves is its condition, so the next sample is compared with it.
-- Assumes nothing.
use mathlib.Core.Path.{◌≡◌, refl, ap, ap₂, sym, ◌∙◌}
use mathlib.Core.Bool.{Bool, true, false, not, ◌||◌, xor}
use Prim.Native.Nat.{ℕ, zero, suc, ◌<◌, ◌≤◌, max}
use native.Mathlib.Omega.{arith}
use lib.Dec.{eqb, lit<}
use lib.ListN.{length}
use Rattle.bits.specs.Bits.{bit, is_on, choose, flag_of}
use Rattle.bits.proofs.BitLaws.{bit_lt, bit_none}
use Rattle.bits.proofs.Tables.{tabulate_at}
use Rattle.w83782d_layout.specs.declared.samples.Sample.{Sample}
use Rattle.w83782d_map.specs.Map.{cells, rows, power_on_at, kept_by_reset, kept_at}
use Rattle.w83782d_map.specs.Cells.{real_time_status1, real_time_status2}
use Rattle.w83782d_registers.specs.Registers.{power_on_registers}
use Rattle.w83782d_bus.specs.Bus.{State, power_on, write_of}
use Rattle.w83782d_sample.specs.Sample.{fan_bit, was_slow, sample_of}
use Rattle.w83782d_sample.specs.Sample.Source.{fan}
use Rattle.w83782d_claims.specs.BusClaims.{cell_in}
use Rattle.w83782d_claims.specs.Sampled.{is_slower}
use Rattle.w83782d_claims.specs.SampleClaims.{after, latches_for, fan_status_bit, fan_real_time_bit, Crossings}
use Rattle.w83782d_claims.specs.SampleClaims.{has_changed, FirstSample}
use Rattle.w83782d_claims.specs.Alarm.{state_after}
use Rattle.w83782d_claims.proofs.bus.Frames.{reset}
use Rattle.w83782d_claims.proofs.sample.Stores.{frame}
use Rattle.w83782d_claims.proofs.sample.Conditions.{fan_is, was_slow_law, fan_rings_law, latched_bit}
use Rattle.w83782d_claims.proofs.sample.Quiet.{quiet_calls, leaves}

-- ---- one bit: the status bit st before, the real-time bit r before, and whether the fan is slow now
set_where_changed : (st r : ℕ) (slow : Bool) → st < 2 → r < 2
    → max st (flag_of (xor slow (eqb r 1))) ≡ choose (not (eqb (flag_of slow) r)) 1 st
unfolding xor
set_where_changed st zero true h k = omega arith
set_where_changed st zero false h k = omega arith
set_where_changed st (suc zero) true h k = omega arith
set_where_changed st (suc zero) false h k = omega arith
set_where_changed st (suc (suc r)) slow h k = absurd (omega arith)

either : (p q : Bool) → choose q 1 (choose p 1 0) ≡ flag_of (p || q)
either true true = refl
either true false = refl
either false true = refl
either false false = refl

same_side_law : (b : Bool) → xor b b ≡ false
unfolding xor
same_side_law true = refl
same_side_law false = refl

none_before : (b : Bool) → xor b false ≡ b
unfolding xor
none_before true = refl
none_before false = refl

on_flag : (b : Bool) → eqb (flag_of b) 1 ≡ b
on_flag true = refl
on_flag false = refl

-- ---- real-time bytes of 0
no_bit : (s : State) → cell_in s real_time_status1 ≡ 0 → cell_in s real_time_status2 ≡ 0 → (f : ℕ) → fan_real_time_bit s f ≡ 0
no_bit s e g f = ap (λ (b : ℕ). bit b (fan_bit f)) (in_byte (eqb f 3)) ∙ bit_none (fan_bit f)
  where
    in_byte : (second : Bool) → cell_in s (choose second real_time_status2 real_time_status1) ≡ 0
    in_byte true = g
    in_byte false = e

at_power_on : (f : ℕ) → fan_real_time_bit power_on f ≡ 0
unfolding power_on_registers power_on_at rows
at_power_on =
    no_bit power_on (tabulate_at cells power_on_at real_time_status1 (lit< tt))
    (tabulate_at cells power_on_at real_time_status2 (lit< tt))

at_reset : (s : State) (v f : ℕ) → is_on v 7 ≡ true → fan_real_time_bit (write_of s 0x40 v).state f ≡ 0
unfolding power_on_at rows kept_at kept_by_reset
at_reset s v f e =
    let restored = (reset s v e).1.restored in
    no_bit (write_of s 0x40 v).state (restored real_time_status1 (lit< tt) refl)
    (restored real_time_status2 (lit< tt) refl) f

from_zero : (s : State) (x : Sample) (f : ℕ) → fan_real_time_bit s f ≡ 0
    → latches_for s x (fan f) ≡ is_slower s.registers x f
unfolding was_slow
from_zero s x f e =
    ap (λ (b : ℕ). xor (is_slower s.registers x f) (eqb b 1)) e ∙ none_before (is_slower s.registers x f)

-- ---- an accepted sample
module _ (s : State) (x : Sample) (w : length s.registers ≡ cells) (a : (sample_of s x).answer ≡ 0) where
  left : (f : ℕ) → 1 ≤ f → f ≤ 3 → fan_real_time_bit (after s x) f ≡ flag_of (is_slower s.registers x f)
  unfolding is_slower
  left = fan_rings_law s x w a

  -- fans 1 and 2 are bits 6 and 7 of the first byte, fan 3 bit 3 of the second
  latched : (f : ℕ) → 1 ≤ f → f ≤ 3
      → fan_status_bit (after s x) f ≡ max (fan_status_bit s f) (flag_of (latches_for s x (fan f)))
  latched zero h k = absurd (omega arith)
  latched (suc zero) h k =
      (latched_bit s x w a 6).0
      ∙ ap (λ (b : Bool). max (fan_status_bit s 1) (flag_of b))
      (ap₂ xor (fan_is s x w 1 (lit< tt) refl refl) (was_slow_law s x w 1))
  latched (suc (suc zero)) h k =
      (latched_bit s x w a 7).0
      ∙ ap (λ (b : Bool). max (fan_status_bit s 2) (flag_of b))
      (ap₂ xor (fan_is s x w 2 (lit< tt) refl refl) (was_slow_law s x w 2))
  latched (suc (suc (suc zero))) h k =
      (latched_bit s x w a 3).1
      ∙ ap (λ (b : Bool). max (fan_status_bit s 3) (flag_of b))
      (ap₂ xor (fan_is s x w 3 (lit< tt) refl refl) (was_slow_law s x w 3))
  latched (suc (suc (suc (suc f)))) h k = absurd (omega arith)

  changed : (f : ℕ) → 1 ≤ f → f ≤ 3
      → fan_status_bit (after s x) f ≡ choose (has_changed s (after s x) f) 1 (fan_status_bit s f)
  unfolding was_slow
  changed f h k =
      latched f h k
      ∙ set_where_changed (fan_status_bit s f) (fan_real_time_bit s f) (is_slower s.registers x f) (bit_lt _ _)
      (bit_lt _ _)
      ∙ ap (λ (b : ℕ). choose (not (eqb b (fan_real_time_bit s f))) 1 (fan_status_bit s f)) (sym (left f h k))

first_sample : (s : State) → ((f : ℕ) → fan_real_time_bit s f ≡ 0) → FirstSample s
first_sample s z since q y f h k = from_zero (state_after s since) y f (leaves since s q f ∙ z f)

pub crossings : (s : State) (x : Sample) → length s.registers ≡ cells → Crossings s x
unfolding was_slow
crossings s x w =
    let t = after s x in
    record {
      fan1 = refl;
      fan2 = refl;
      fan3 = refl;
      changed = changed s x w;
      twice = λ a y c f h k e.
          changed t y ((frame s x).count ∙ w) c f h k
          ∙ ap (choose (has_changed t (after t y) f) 1)
          (changed s x w a f h k ∙ ap (choose (has_changed s t f) 1) e)
          ∙ either (has_changed s t f) (has_changed t (after t y) f);
      quiet = quiet_calls s;
      leaves = λ since. leaves since s;
      same_side = λ a since q y f h k g.
          ap₂ xor g
          (ap (λ (b : ℕ). eqb b 1) (leaves since t q f ∙ left s x w a f h k) ∙ on_flag (is_slower s.registers x f))
          ∙ same_side_law (is_slower s.registers x f);
      after_reset = λ v e. first_sample (write_of s 0x40 v).state (λ f. at_reset s v f e);
      after_power_on = first_sample power_on at_power_on;
    }
