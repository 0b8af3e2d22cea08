-- What a sample sees: two states that are the same there find the same conditions, latch the same and step alike. It
-- sees no bit without a rule, and not 41h and 42h, into which it latches. Assumes nothing.
use mathlib.Core.Path.{◌≡◌, refl, ap, ap₂, sym, subst, ◌∙◌}
use mathlib.Core.Bool.{Bool, true, false, not, ◌||◌, xor, false≢true}
use mathlib.Core.List.{List, map}
use Prim.Native.Nat.{ℕ, ◌+◌, ◌-◌, ◌<◌, ◌≤◌}
use lib.Dec.{eqb, ltb, lit<, lit≤}
use lib.ListN.{get_or}
use Rattle.bits.specs.Bits.{bit, is_on, choose, word}
use Rattle.bits.specs.Stores.{Store, puts}
use Rattle.bits.specs.declared.fields.Place.{Place}
use Rattle.bits.proofs.ChangeLaws.{and_left, and_right}
use Rattle.bits.proofs.Stores.{is_plain, is_ruled, are_ruled, SameBut, puts_same, gather_same}
use Rattle.fan.specs.Count.{value_of, stored_of, from_bits}
use Rattle.fan.specs.Divisors.{divisor_at}
use Rattle.fan.specs.declared.Divisor.{Divisor}
use Rattle.limits.specs.Limits.{half_level_at}
use Rattle.sensor.specs.declared.Status.{Status}
use Rattle.status.proofs.AfterLaws.{all_on}
use Rattle.w83782d_layout.specs.declared.samples.Sample.{Sample}
use Rattle.w83782d_latches.specs.declared.Latches.{Latches}
use Rattle.w83782d_map.specs.Map.{cells}
use Rattle.w83782d_map.specs.Cells.{bank_cell, configuration, fan_count, fan_limit, high_limit}
use Rattle.w83782d_map.specs.Cells.{interrupt_status1, interrupt_status2, low_limit, ovt_property, sensor1_hysteresis}
use Rattle.w83782d_map.specs.Cells.{real_time_status1, real_time_status2, sensor1_over, sensor1_value, voltage}
use Rattle.w83782d_registers.specs.Registers.{is_interrupt}
use Rattle.w83782d_registers.proofs.Cases.{both}
use Rattle.w83782d_store.specs.Stored.{none, divisor_places, divisor_of, stored_count}
use Rattle.w83782d_store.specs.Stored.{readings, stored_readings, sample_answer}
use Rattle.w83782d_conditions.specs.Conditions.{is_outside, is_above, is_below, is_slow, status_mode, output_mode}
use Rattle.w83782d_conditions.proofs.Rules.{not_one}
use Rattle.w83782d_sample.specs.Sample.{Source, condition, first_byte, second_byte, fan_cell, fan_bit, was_slow}
use Rattle.w83782d_sample.specs.Sample.{status_at, output_at, remote_after, real_time_byte, latched_by, latched_byte}
use Rattle.w83782d_sample.specs.Sample.{status_stores, stepped_latches}
use Rattle.w83782d_sample.specs.Sample.Source.{rail, sensor, fan, chassis}
use Rattle.w83782d_claims.specs.SampleClaims.{ruleless}

-- ---- the bits of a register that it does not see
abbrev pub is_status : ℕ → Bool
is_status c = eqb c interrupt_status1 || eqb c interrupt_status2

abbrev pub unseen : ℕ → ℕ
unseen c = choose (is_status c) 0b1111_1111 (ruleless c)

abbrev plain : ℕ → Bool
plain c = is_plain cells unseen c

abbrev ruled : ℕ → ℕ → Bool
ruled c j = is_ruled cells unseen c j

abbrev pub Seen : List ℕ → List ℕ → Type 0
Seen rs ts = SameBut cells unseen rs ts

-- ---- a divisor's places
abbrev all_ruled : List Place → Bool
all_ruled ps = are_ruled cells unseen ps

module _ (rs ts : List ℕ) (e : Seen rs ts) where
  divisor_same : (f : ℕ) → all_ruled (divisor_places f) ≡ true → divisor_of rs f ≡ divisor_of ts f
  unfolding divisor_at
  divisor_same f h = ap from_bits (gather_same cells unseen rs ts e (divisor_places f) h)

  count_same : (x : Sample) (f : ℕ) → all_ruled (divisor_places f) ≡ true → stored_count rs x f ≡ stored_count ts x f
  count_same x f h = ap (λ (d : Divisor). stored_of (get_or x.counts (f - 1) none).0 (value_of d)) (divisor_same f h)

  pub readings_same : (x : Sample) → readings rs x ≡ readings ts x
  unfolding ruleless bit
  readings_same x = rw (count_same x 1 refl, count_same x 2 refl, count_same x 3 refl)

  pub seen_stored : (x : Sample) → Seen (stored_readings rs x) (stored_readings ts x)
  unfolding stored_readings
  seen_stored x =
      subst (λ (ws : List Store). Seen (puts rs ws) (stored_readings ts x)) (sym (readings_same x))
      (puts_same cells unseen (readings ts x) rs ts e)

  pub answer_same : (x : Sample) → sample_answer rs x ≡ sample_answer ts x
  unfolding sample_answer ruleless bit
  answer_same x = rw (e.bits configuration 0 (lit< tt) refl, e.bits configuration 3 (lit< tt) refl)

  -- ---- conditions, each over the number where there are several
  outside_same : (i : ℕ) → plain (voltage i) ≡ true → plain (high_limit i) ≡ true → plain (low_limit i) ≡ true
      → is_outside rs i ≡ is_outside ts i
  unfolding is_outside
  outside_same i p q r = rw (e.cell (voltage i) p, e.cell (high_limit i) q, e.cell (low_limit i) r)

  slow_same : (f : ℕ) → plain (fan_count f) ≡ true → plain (fan_limit f) ≡ true → is_slow rs f ≡ is_slow ts f
  unfolding is_slow
  slow_same f p q = rw (e.cell (fan_count f) p, e.cell (fan_limit f) q)

  real_plain : (second : Bool) → plain (choose second real_time_status2 real_time_status1) ≡ true
  unfolding ruleless
  real_plain true = refl
  real_plain false = refl

  was_same : (f : ℕ) → was_slow rs f ≡ was_slow ts f
  unfolding was_slow
  was_same f = ap (λ (b : ℕ). is_on b (fan_bit f)) (e.cell (fan_cell f) (real_plain (eqb f 3)))

  above_1 : is_above rs 1 ≡ is_above ts 1
  unfolding is_above ruleless
  above_1 = rw (e.cell sensor1_value refl, e.cell sensor1_over refl)

  below_1 : is_below rs 1 ≡ is_below ts 1
  unfolding is_below ruleless
  below_1 = rw (e.cell sensor1_value refl, e.cell sensor1_hysteresis refl)

  -- sensors 2 and 3: rules name every cell of a bank but 52h whole
  module _ (n : ℕ) (h : 2 ≤ n) (k : n ≤ 3) where
    in_bank_law : (f : ℕ → ℕ) → plain (f (bank_cell 2)) ≡ true → plain (f (bank_cell 3)) ≡ true
        → get_or rs (f (bank_cell n)) 0 ≡ get_or ts (f (bank_cell n)) 0
    in_bank_law f p q = e.cell (f (bank_cell n)) (both (λ n. plain (f (bank_cell n)) ≡ true) p q n h k)

    level : (k : ℕ) → plain (bank_cell 2 + k) ≡ true → plain (bank_cell 3 + k) ≡ true
        → plain (bank_cell 2 + k + 1) ≡ true → plain (bank_cell 3 + k + 1) ≡ true
        → half_level_at rs (bank_cell n + k) ≡ half_level_at ts (bank_cell n + k)
    level k p q p' q' = rw (in_bank_law (λ c. c + k) p q, in_bank_law (λ c. c + k + 1) p' q')

    value : half_level_at rs (bank_cell n) ≡ half_level_at ts (bank_cell n)
    unfolding ruleless
    value = rw (in_bank_law (λ c. c) refl refl, in_bank_law (λ c. c + 1) refl refl)

    above_n : is_above rs n ≡ is_above ts n
    unfolding is_above ruleless
    above_n = simp (not_one n h, value, level 5 refl refl refl refl)

    below_n : is_below rs n ≡ is_below ts n
    unfolding is_below ruleless
    below_n = simp (not_one n h, value, level 3 refl refl refl refl)

    pub interrupt_same : is_interrupt rs n ≡ is_interrupt ts n
    unfolding is_interrupt ruleless bit
    interrupt_same =
        rw (e.bits (bank_cell n + 2) 1 (lit< tt) (both (λ n. ruled (bank_cell n + 2) 1 ≡ true) refl refl n h k))

    output_mode_law : output_mode rs n ≡ output_mode ts n
    unfolding output_mode
    output_mode_law = rw interrupt_same

  status_mode_law : (n : ℕ) → status_mode rs n ≡ status_mode ts n
  unfolding status_mode ruleless bit
  status_mode_law n = rw (e.cell sensor1_hysteresis refl, e.bits ovt_property 6 (lit< tt) refl)

  status_same : (l : Latches) (n : ℕ) → is_above rs n ≡ is_above ts n → is_below rs n ≡ is_below ts n
      → status_at rs l n ≡ status_at ts l n
  unfolding status_at
  status_same l n p q = rw (status_mode_law n, p, q)

  latched_same : (l : Latches) (n : ℕ) → is_above rs n ≡ is_above ts n → is_below rs n ≡ is_below ts n
      → latched_by rs l (sensor n) ≡ latched_by ts l (sensor n)
  latched_same l n p q = ap (λ (y : Status). y.latched) (status_same l n p q)

  remote_same : (l : Latches) (n : ℕ) → 2 ≤ n → n ≤ 3 → remote_after rs l n ≡ remote_after ts l n
  unfolding output_at
  remote_same l n h k =
      rw (status_same l n (above_n n h k) (below_n n h k), output_mode_law n h k, above_n n h k, below_n n h k)

  -- ---- both bytes, over any flag of a source that goes by the same conditions
  module _ (f g : Source → Bool) (rails : (i : ℕ) → is_outside rs i ≡ is_outside ts i → f (rail i) ≡ g (rail i))
      (fans : (n : ℕ) → is_slow rs n ≡ is_slow ts n → f (fan n) ≡ g (fan n)) (one : f (sensor 1) ≡ g (sensor 1))
      (two : f (sensor 2) ≡ g (sensor 2)) (three : f (sensor 3) ≡ g (sensor 3)) (no : f chassis ≡ g chassis) where
    first_same : word (map f first_byte) ≡ word (map g first_byte)
    unfolding ruleless
    first_same =
        simp (
          rails 0 (outside_same 0 refl refl refl),
          rails 1 (outside_same 1 refl refl refl),
          rails 2 (outside_same 2 refl refl refl),
          rails 3 (outside_same 3 refl refl refl),
          one,
          two,
          fans 1 (slow_same 1 refl refl),
          fans 2 (slow_same 2 refl refl),
        )

    second_same : word (map f second_byte) ≡ word (map g second_byte)
    unfolding ruleless
    second_same =
        simp (
          rails 4 (outside_same 4 refl refl refl),
          rails 5 (outside_same 5 refl refl refl),
          rails 6 (outside_same 6 refl refl refl),
          fans 3 (slow_same 3 refl refl),
          no,
          three,
        )

  real_1 : real_time_byte rs first_byte ≡ real_time_byte ts first_byte
  real_1 =
      first_same (condition rs) (condition ts) (λ i e. e) (λ n e. e) above_1 (above_n 2 (lit≤ tt) (lit≤ tt))
      (above_n 3 (lit≤ tt) (lit≤ tt)) refl

  real_2 : real_time_byte rs second_byte ≡ real_time_byte ts second_byte
  real_2 =
      second_same (condition rs) (condition ts) (λ i e. e) (λ n e. e) above_1 (above_n 2 (lit≤ tt) (lit≤ tt))
      (above_n 3 (lit≤ tt) (lit≤ tt)) refl

  module _ (l : Latches) where
    one_latched : latched_by rs l (sensor 1) ≡ latched_by ts l (sensor 1)
    one_latched = latched_same l 1 above_1 below_1

    remote_latched : (n : ℕ) → 2 ≤ n → n ≤ 3 → latched_by rs l (sensor n) ≡ latched_by ts l (sensor n)
    remote_latched n h k = latched_same l n (above_n n h k) (below_n n h k)

    pub latched_1 : latched_byte rs l first_byte ≡ latched_byte ts l first_byte
    latched_1 =
        first_same (latched_by rs l) (latched_by ts l) (λ i e. e) (λ n e. ap₂ xor e (was_same n)) one_latched
        (remote_latched 2 (lit≤ tt) (lit≤ tt)) (remote_latched 3 (lit≤ tt) (lit≤ tt)) refl

    pub latched_2 : latched_byte rs l second_byte ≡ latched_byte ts l second_byte
    latched_2 =
        second_same (latched_by rs l) (latched_by ts l) (λ i e. e) (λ n e. ap₂ xor e (was_same n)) one_latched
        (remote_latched 2 (lit≤ tt) (lit≤ tt)) (remote_latched 3 (lit≤ tt) (lit≤ tt)) refl

  -- ---- the stores of status and real-time bits, where 41h and 42h are the same too
  pub status_stores_law : (l : Latches) → get_or rs interrupt_status1 0 ≡ get_or ts interrupt_status1 0
      → get_or rs interrupt_status2 0 ≡ get_or ts interrupt_status2 0
      → status_stores rs l ≡ status_stores ts l
  status_stores_law l p q = rw (p, q, latched_1 l, latched_2 l, real_1, real_2)

  pub stepped_same : (l : Latches) → stepped_latches rs l ≡ stepped_latches ts l
  unfolding stepped_latches
  stepped_same l =
      rw (status_same l 1 above_1 below_1, remote_same l 2 (lit≤ tt) (lit≤ tt), remote_same l 3 (lit≤ tt) (lit≤ tt))

-- ---- two registers that are the same but for bits without a rule
pub seen : (rs ts : List ℕ) → SameBut cells ruleless rs ts → Seen rs ts
seen rs ts e =
    record {
      count = e.count;
      count' = e.count';
      cell =
          λ c p. e.cell c
          (rw (and_left (ltb c cells) (eqb (unseen c) 0) p)
          (whole (is_status c) (ruleless c) (and_right (ltb c cells) (eqb (unseen c) 0) p)));
      bits = λ c j hj p.
          e.bits c j hj
          (rw (and_left (ltb c cells) (not (is_on (unseen c) j)) p)
          (one (is_status c) (ruleless c) j hj (and_right (ltb c cells) (not (is_on (unseen c) j)) p)));
    }
  where
    whole : (b : Bool) (n : ℕ) → eqb (choose b 0b1111_1111 n) 0 ≡ true → eqb n 0 ≡ true
    whole true n e = absurd (false≢true e)
    whole false n e = e

    one : (b : Bool) (n j : ℕ) → j < 8 → not (is_on (choose b 0b1111_1111 n) j) ≡ true → not (is_on n j) ≡ true
    one true n j h e = absurd (false≢true (sym (ap not (all_on j h)) ∙ e))
    one false n j h e = e
