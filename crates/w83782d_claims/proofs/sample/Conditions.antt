-- The conditions of the readings stored are those of the sample's own values: each
-- reading is what was stored, each limit what it was. Assumes nothing.
use mathlib.Core.Path.{◌≡◌, refl, ap, ap₂, ◌∙◌}
use mathlib.Core.Bool.{Bool, true, false, xor}
use mathlib.Core.List.{List, [], ◌∷◌, map}
use Prim.Native.Nat.{ℕ, zero, suc, ◌+◌, ◌<◌, ◌≤◌, max}
use native.Mathlib.Omega.{arith}
use borrow.Author.Tests.{lt-ltb}
use mir.Val.{SFits}
use mir.Syntax.{w8}
use lib.Bits.{bit_or}
use lib.Dec.{eqb, ltb, lit<, lit≤}
use lib.IntN.{ℤ, pos, negsuc}
use lib.ListN.{get_or, length}
use Rattle.bits.specs.Bits.{bit, is_on, choose, flag_of}
use Rattle.bits.proofs.BitLaws.{or_bit}
use Rattle.bits.proofs.Flags.{word_bit}
use Rattle.bits.proofs.Stores.{last_of, cells_of, is_of}
use Rattle.numbers.specs.TwosComplement.{half8, half9, holds, code_of, level_of, signed_of}
use Rattle.analog.specs.Temperature.{nine_bits, half_code_of, half_high, half_low}
use Rattle.numbers.proofs.twos_complement.Complement.{twos_complement_holds}
use Rattle.limits.proofs.Levels.{level_above, level_below, nine_lt, nine_code}
use Rattle.sensor.specs.Sensor.{remote}
use Rattle.sensor.specs.declared.Status.{Status}
use Rattle.sensor.specs.declared.Output.{Output}
use Rattle.sensor.specs.declared.Remote.{Remote}
use Rattle.w83782d_layout.specs.declared.samples.Sample.{Sample}
use Rattle.w83782d_latches.specs.declared.Latches.{Latches}
use Rattle.w83782d_map.specs.Map.{cells}
use Rattle.w83782d_map.specs.Cells.{bank_cell, fan_count, fan_limit, high_limit, interrupt_status1}
use Rattle.w83782d_map.specs.Cells.{interrupt_status2, low_limit, ovt_property, real_time_status1, real_time_status2}
use Rattle.w83782d_map.specs.Cells.{sensor1_hysteresis, sensor1_over, sensor1_value, voltage}
use Rattle.w83782d_registers.specs.Registers.{is_interrupt}
use Rattle.w83782d_registers.proofs.Cases.{both}
use Rattle.w83782d_latches.specs.Effects.{latches, remote_of}
use Rattle.w83782d_bus.specs.Bus.{State}
use Rattle.w83782d_store.specs.Stored.{sampled_code, sampled_halves, stored_count, readings, stored_readings}
use Rattle.w83782d_conditions.specs.Conditions.{is_outside, is_above, is_below, is_slow, status_mode, output_mode}
use Rattle.w83782d_conditions.proofs.Rules.{not_one}
use Rattle.w83782d_sample.specs.Sample.{Source, first_byte, second_byte, status_at, output_at, remote_after}
use Rattle.w83782d_sample.specs.Sample.{condition, fan_cell, fan_bit, was_slow, latched_by, latched_byte}
use Rattle.w83782d_sample.specs.Sample.{status_stores, stepped_latches, sample_of}
use Rattle.w83782d_sample.specs.Sample.Source.{rail, sensor, fan, chassis}
use Rattle.w83782d_claims.specs.BusClaims.{cell_in}
use Rattle.w83782d_claims.specs.Sampled.{halves_at, is_beside, is_hotter, is_colder, is_slower, holds_for, flag_at}
use Rattle.w83782d_claims.specs.SampleClaims.{Stores, after, RealTime, FanRings, status_for}
use Rattle.w83782d_claims.specs.SampleClaims.{output_for, latches_for, StatusOr, LatchesAfter}
use Rattle.w83782d_claims.proofs.sample.Stores.{stored_at, stored_other, accepted_state, left_at}
use Rattle.w83782d_claims.proofs.sample.Answers.{in_range}

-- ---- sensor 1 is a signed byte: -128 to 127
abbrev pub Fits : Sample → Type 0
Fits x = holds half8 x.sensor1 ≡ true

byte_holds : (z : ℤ) → SFits w8 z → holds half8 z ≡ true
byte_holds (pos n) f = lt-ltb n 128 f.sfits
byte_holds (negsuc n) f = lt-ltb n 128 f.sfits

pub fits_byte : (x : Sample) → SFits w8 x.sensor1 → Fits x
fits_byte x f = byte_holds x.sensor1 f

module _ (s : State) (x : Sample) (w : length s.registers ≡ cells) where
  abbrev t : List ℕ
  t = stored_readings s.registers x

  -- the byte that is stored to a cell, and the cells that stay
  abbrev given : ℕ → ℕ
  given c = last_of (readings s.registers x) c (cell_in s c)

  abbrev stays : ℕ → Type 0
  stays c = is_of c (cells_of (readings s.registers x)) ≡ false

  at : (c : ℕ) → c < cells → get_or t c 0 ≡ given c
  at c h = stored_at s.registers x c (rw (w) h)

  kept : (c : ℕ) → stays c → get_or t c 0 ≡ cell_in s c
  kept c n = stored_other s.registers x c n

  -- ---- a rail, a fan
  rail_is : (i : ℕ) → voltage i < cells → given (voltage i) ≡ sampled_code x i → stays (high_limit i) → stays (low_limit i)
      → is_outside t i ≡ is_beside s.registers x i
  unfolding is_outside is_beside
  rail_is i h g m n = simp (at (voltage i) h ∙ g, kept (high_limit i) m, kept (low_limit i) n)

  pub fan_is : (f : ℕ) → fan_count f < cells → given (fan_count f) ≡ stored_count s.registers x f → stays (fan_limit f)
      → is_slow t f ≡ is_slower s.registers x f
  unfolding is_slow is_slower
  fan_is f h g n = simp (at (fan_count f) h ∙ g, kept (fan_limit f) n)

  -- the real-time bits are not yet set
  still : (second : Bool) → stays (choose second real_time_status2 real_time_status1)
  still true = refl
  still false = refl

  pub was_slow_law : (f : ℕ) → was_slow t f ≡ was_slow s.registers f
  unfolding was_slow
  was_slow_law f = ap (λ (b : ℕ). is_on b (fan_bit f)) (kept (fan_cell f) (still (eqb f 3)))

  -- ---- sensor 1
  module _ (b : (c : ℕ) → cell_in s c < 256) (fits : Fits x) where
    above_1 : is_above t 1 ≡ is_hotter s.registers x 1
    unfolding is_above is_hotter
    above_1 =
        ap₂ (λ (a b : ℕ). ltb (level_of half8 a) (level_of half8 b)) (kept sensor1_over refl) (at sensor1_value (lit< tt))
        ∙ level_above half8 x.sensor1 (cell_in s sensor1_over) fits (b sensor1_over)

    below_1 : is_below t 1 ≡ is_colder s.registers x 1
    unfolding is_below is_colder
    below_1 =
        ap₂ (λ (a b : ℕ). ltb (level_of half8 a) (level_of half8 b)) (at sensor1_value (lit< tt))
        (kept sensor1_hysteresis refl)
        ∙ level_below half8 x.sensor1 (cell_in s sensor1_hysteresis) fits (b sensor1_hysteresis)

  -- ---- sensors 2 and 3, over the number
  module _ (b : (c : ℕ) → cell_in s c < 256) (n : ℕ) (h : 2 ≤ n) (k : n ≤ 3)
      (e : holds half9 (sampled_halves x n) ≡ true) where
    value_is : nine_bits (get_or t (bank_cell n) 0) (get_or t (bank_cell n + 1) 0) ≡ code_of half9 (sampled_halves x n)
    value_is =
        both (λ n. nine_bits (get_or t (bank_cell n) 0) (get_or t (bank_cell n + 1) 0)
        ≡ nine_bits (half_high (half_code_of (sampled_halves x n))) (half_low (half_code_of (sampled_halves x n))))
        (ap₂ nine_bits (at (bank_cell 2) (lit< tt)) (at (bank_cell 2 + 1) (lit< tt)))
        (ap₂ nine_bits (at (bank_cell 3) (lit< tt)) (at (bank_cell 3 + 1) (lit< tt))) n h k
        ∙ nine_code (sampled_halves x n) e

    -- a cell of both banks that stays
    kept_in : (f : ℕ → ℕ) → stays (f (bank_cell 2)) → stays (f (bank_cell 3))
        → get_or t (f (bank_cell n)) 0 ≡ cell_in s (f (bank_cell n))
    kept_in f p q = kept (f (bank_cell n)) (both (λ n. stays (f (bank_cell n))) p q n h k)

    above_n : is_above t n ≡ is_hotter s.registers x n
    unfolding is_above is_hotter
    above_n =
        simp (not_one n h)
        (ap₂ (λ (a b : ℕ). ltb (level_of half9 a) (level_of half9 b))
        (ap₂ nine_bits (kept_in (λ c. c + 5) refl refl) (kept_in (λ c. c + 5 + 1) refl refl)) value_is
        ∙ level_above half9 (sampled_halves x n) (nine_bits (cell_in s (bank_cell n + 5)) (cell_in s (bank_cell n + 5 + 1))) e
        (nine_lt _ _ (b (bank_cell n + 5)) (b (bank_cell n + 5 + 1))))

    below_n : is_below t n ≡ is_colder s.registers x n
    unfolding is_below is_colder
    below_n =
        simp (not_one n h)
        (ap₂ (λ (a b : ℕ). ltb (level_of half9 a) (level_of half9 b)) value_is
        (ap₂ nine_bits (kept_in (λ c. c + 3) refl refl) (kept_in (λ c. c + 3 + 1) refl refl))
        ∙ level_below half9 (sampled_halves x n) (nine_bits (cell_in s (bank_cell n + 3)) (cell_in s (bank_cell n + 3 + 1))) e
        (nine_lt _ _ (b (bank_cell n + 3)) (b (bank_cell n + 3 + 1))))

  -- ---- the modes that a sample finds
  status_mode_law : (n : ℕ) → status_mode t n ≡ status_mode s.registers n
  unfolding status_mode
  status_mode_law n = rw (kept sensor1_hysteresis refl, kept ovt_property refl)

  output_mode_law : (n : ℕ) → 2 ≤ n → n ≤ 3 → output_mode t n ≡ output_mode s.registers n
  unfolding output_mode is_interrupt
  output_mode_law n h k = rw (kept (bank_cell n + 2) (both (λ n. stays (bank_cell n + 2)) refl refl n h k))

-- ---- bits of an accepted sample
module _ (s : State) (x : Sample) (w : length s.registers ≡ cells) (a : (sample_of s x).answer ≡ 0) where
  real_bit : (j : ℕ) → (bit (cell_in (after s x) real_time_status1) j ≡ flag_at (condition (t s x w)) first_byte j)
      × (bit (cell_in (after s x) real_time_status2) j ≡ flag_at (condition (t s x w)) second_byte j)
  real_bit j = (
    ap (λ (b : ℕ). bit b j) (left_at s x real_time_status1 a (rw (w) (lit< tt)))
        ∙ word_bit (map (condition (t s x w)) first_byte) j,
    ap (λ (b : ℕ). bit b j) (left_at s x real_time_status2 a (rw (w) (lit< tt)))
        ∙ word_bit (map (condition (t s x w)) second_byte) j,
  )

  pub latched_bit : (j : ℕ)
      → (bit (cell_in (after s x) interrupt_status1) j
      ≡ max (bit (cell_in s interrupt_status1) j) (flag_at (latched_by (t s x w) s.latches) first_byte j))
      × (bit (cell_in (after s x) interrupt_status2) j
      ≡ max (bit (cell_in s interrupt_status2) j) (flag_at (latched_by (t s x w) s.latches) second_byte j))
  latched_bit j = (
    ap (λ (b : ℕ). bit b j)
        (left_at s x interrupt_status1 a (rw (w) (lit< tt))
        ∙ ap (λ (o : ℕ). bit_or o (latched_byte (t s x w) s.latches first_byte)) (at s x w interrupt_status1 (lit< tt)))
        ∙ or_bit (cell_in s interrupt_status1) (latched_byte (t s x w) s.latches first_byte) j
        ∙ ap (max (bit (cell_in s interrupt_status1) j)) (word_bit (map (latched_by (t s x w) s.latches) first_byte) j),
    ap (λ (b : ℕ). bit b j)
        (left_at s x interrupt_status2 a (rw (w) (lit< tt))
        ∙ ap (λ (o : ℕ). bit_or o (latched_byte (t s x w) s.latches second_byte)) (at s x w interrupt_status2 (lit< tt)))
        ∙ or_bit (cell_in s interrupt_status2) (latched_byte (t s x w) s.latches second_byte) j
        ∙ ap (max (bit (cell_in s interrupt_status2) j)) (word_bit (map (latched_by (t s x w) s.latches) second_byte) j),
  )

  -- ---- the readings themselves
  reading : (c : ℕ) → c < cells → cell_in (after s x) c ≡ last_of (status_stores (t s x w) s.latches) c (given s x w c)
  reading c h = left_at s x c a (rw (w) h)

  codes : (i : ℕ) → i < 7 → cell_in (after s x) (voltage i) ≡ sampled_code x i
  codes zero h = reading 0 (lit< tt)
  codes (suc zero) h = reading 1 (lit< tt)
  codes (suc (suc zero)) h = reading 2 (lit< tt)
  codes (suc (suc (suc zero))) h = reading 3 (lit< tt)
  codes (suc (suc (suc (suc zero)))) h = reading 4 (lit< tt)
  codes (suc (suc (suc (suc (suc zero))))) h = reading 5 (lit< tt)
  codes (suc (suc (suc (suc (suc (suc zero)))))) h = reading 6 (lit< tt)
  codes (suc (suc (suc (suc (suc (suc (suc i))))))) h = absurd (omega arith)

  counts : (f : ℕ) → 1 ≤ f → f ≤ 3 → cell_in (after s x) (fan_count f) ≡ stored_count s.registers x f
  counts zero h k = absurd (omega arith)
  counts (suc zero) h k = reading (fan_count 1) (lit< tt)
  counts (suc (suc zero)) h k = reading (fan_count 2) (lit< tt)
  counts (suc (suc (suc zero))) h k = reading (fan_count 3) (lit< tt)
  counts (suc (suc (suc (suc f)))) h k = absurd (omega arith)

  nine_stored : (n : ℕ) → 2 ≤ n → n ≤ 3
      → nine_bits (cell_in (after s x) (bank_cell n)) (cell_in (after s x) (bank_cell n + 1))
      ≡ nine_bits (half_high (half_code_of (sampled_halves x n))) (half_low (half_code_of (sampled_halves x n)))
  nine_stored =
      both
      (λ n. nine_bits (cell_in (after s x) (bank_cell n)) (cell_in (after s x) (bank_cell n + 1))
      ≡ nine_bits (half_high (half_code_of (sampled_halves x n))) (half_low (half_code_of (sampled_halves x n))))
      (ap₂ nine_bits (reading (bank_cell 2) (lit< tt)) (reading (bank_cell 2 + 1) (lit< tt)))
      (ap₂ nine_bits (reading (bank_cell 3) (lit< tt)) (reading (bank_cell 3 + 1) (lit< tt)))

  halves_are : (n : ℕ) → 2 ≤ n → n ≤ 3 → halves_at (after s x).registers (bank_cell n) ≡ sampled_halves x n
  halves_are n h k =
      let e = in_range s x a n h k in
      ap (signed_of half9) (nine_stored n h k ∙ nine_code (sampled_halves x n) e)
      ∙ twos_complement_holds.back half9 (sampled_halves x n) e

  pub stores : Fits x → Stores s x
  stores fits =
      record {
        codes = codes;
        sensor1 =
            ap (signed_of half8) (reading sensor1_value (lit< tt)) ∙ twos_complement_holds.back half8 x.sensor1 fits;
        remote = halves_are;
        counts = counts;
      }

  -- fans 1 and 2 are bits 6 and 7 of the first byte, fan 3 bit 3 of the second
  pub fan_rings_law : FanRings s x
  unfolding is_slower
  fan_rings_law zero h k = absurd (omega arith)
  fan_rings_law (suc zero) h k = (real_bit 6).0 ∙ ap flag_of (fan_is s x w 1 (lit< tt) refl refl)
  fan_rings_law (suc (suc zero)) h k = (real_bit 7).0 ∙ ap flag_of (fan_is s x w 2 (lit< tt) refl refl)
  fan_rings_law (suc (suc (suc zero))) h k = (real_bit 3).1 ∙ ap flag_of (fan_is s x w 3 (lit< tt) refl refl)
  fan_rings_law (suc (suc (suc (suc f)))) h k = absurd (omega arith)

-- ---- where the cells are bytes: the sensors' conditions and steps
module _ (s : State) (x : Sample) (w : length s.registers ≡ cells) (b : (c : ℕ) → cell_in s c < 256)
    (a : (sample_of s x).answer ≡ 0) where
  above_remote : (n : ℕ) → 2 ≤ n → n ≤ 3 → is_above (t s x w) n ≡ is_hotter s.registers x n
  above_remote n h k = above_n s x w b n h k (in_range s x a n h k)

  below_remote : (n : ℕ) → 2 ≤ n → n ≤ 3 → is_below (t s x w) n ≡ is_colder s.registers x n
  below_remote n h k = below_n s x w b n h k (in_range s x a n h k)

  -- ---- both bytes, over any flag of a source that the sources of a rail and a fan share
  module _ (f g : Source → Bool)
      (rails : (i : ℕ) → is_outside (t s x w) i ≡ is_beside s.registers x i → f (rail i) ≡ g (rail i))
      (fans : (n : ℕ) → is_slow (t s x w) n ≡ is_slower s.registers x n → f (fan n) ≡ g (fan n))
      (one : f (sensor 1) ≡ g (sensor 1)) (two : f (sensor 2) ≡ g (sensor 2))
      (three : f (sensor 3) ≡ g (sensor 3)) (no : f chassis ≡ g chassis) where
    first_same : map f first_byte ≡ map g first_byte
    first_same =
        simp (
          rails 0 (rail_is s x w 0 (lit< tt) refl refl refl),
          rails 1 (rail_is s x w 1 (lit< tt) refl refl refl),
          rails 2 (rail_is s x w 2 (lit< tt) refl refl refl),
          rails 3 (rail_is s x w 3 (lit< tt) refl refl refl),
          one,
          two,
          fans 1 (fan_is s x w 1 (lit< tt) refl refl),
          fans 2 (fan_is s x w 2 (lit< tt) refl refl),
        )

    second_same : map f second_byte ≡ map g second_byte
    second_same =
        simp (
          rails 4 (rail_is s x w 4 (lit< tt) refl refl refl),
          rails 5 (rail_is s x w 5 (lit< tt) refl refl refl),
          rails 6 (rail_is s x w 6 (lit< tt) refl refl refl),
          fans 3 (fan_is s x w 3 (lit< tt) refl refl),
          no,
          three,
        )

  module _ (fits : Fits x) where
    real_first : map (condition (t s x w)) first_byte ≡ map (holds_for s.registers x) first_byte
    real_first =
        first_same (condition (t s x w)) (holds_for s.registers x) (λ i e. e) (λ n e. e) (above_1 s x w b fits)
        (above_remote 2 (lit≤ tt) (lit≤ tt)) (above_remote 3 (lit≤ tt) (lit≤ tt)) refl

    real_second : map (condition (t s x w)) second_byte ≡ map (holds_for s.registers x) second_byte
    real_second =
        second_same (condition (t s x w)) (holds_for s.registers x) (λ i e. e) (λ n e. e) (above_1 s x w b fits)
        (above_remote 2 (lit≤ tt) (lit≤ tt)) (above_remote 3 (lit≤ tt) (lit≤ tt)) refl

    pub real_time_law : RealTime s x
    real_time_law =
        record {
          first = λ j. (real_bit s x w a j).0 ∙ ap (λ (bs : List Bool). flag_of (get_or bs j false)) real_first;
          second = λ j. (real_bit s x w a j).1 ∙ ap (λ (bs : List Bool). flag_of (get_or bs j false)) real_second;
        }

    -- ---- the steps
    status_1 : status_at (t s x w) s.latches 1 ≡ status_for s x 1
    unfolding status_at status_for
    status_1 = rw (status_mode_law s x w 1, above_1 s x w b fits, below_1 s x w b fits)

  status_n : (n : ℕ) → 2 ≤ n → n ≤ 3 → status_at (t s x w) s.latches n ≡ status_for s x n
  unfolding status_at status_for
  status_n n h k = rw (status_mode_law s x w n, above_remote n h k, below_remote n h k)

  latched_n : (n : ℕ) → 2 ≤ n → n ≤ 3 → (status_at (t s x w) s.latches n).latched ≡ (status_for s x n).latched
  latched_n n h k = ap (λ (y : Status). y.latched) (status_n n h k)

  output_n : (n : ℕ) → 2 ≤ n → n ≤ 3 → output_at (t s x w) s.latches n ≡ output_for s x n
  unfolding output_at output_for
  output_n n h k = rw (output_mode_law s x w n h k, above_remote n h k, below_remote n h k)

  remote_n : (n : ℕ) → 2 ≤ n → n ≤ 3
      → remote_after (t s x w) s.latches n ≡ remote (status_for s x n).mark (output_for s x n)
  remote_n n h k = ap₂ (λ (y : Status) (o : Output). remote y.mark o) (status_n n h k) (output_n n h k)

  module _ (fits : Fits x) where
    pub latched_first : map (latched_by (t s x w) s.latches) first_byte ≡ map (latches_for s x) first_byte
    latched_first =
        first_same (latched_by (t s x w) s.latches) (latches_for s x) (λ i e. e) (λ n e. ap₂ xor e (was_slow_law s x w n))
        (ap (λ (y : Status). y.latched) (status_1 fits))
        (latched_n 2 (lit≤ tt) (lit≤ tt)) (latched_n 3 (lit≤ tt) (lit≤ tt)) refl

    pub latched_second : map (latched_by (t s x w) s.latches) second_byte ≡ map (latches_for s x) second_byte
    latched_second =
        second_same (latched_by (t s x w) s.latches) (latches_for s x) (λ i e. e) (λ n e. ap₂ xor e (was_slow_law s x w n))
        (ap (λ (y : Status). y.latched) (status_1 fits))
        (latched_n 2 (lit≤ tt) (lit≤ tt)) (latched_n 3 (lit≤ tt) (lit≤ tt)) refl

    pub status_or_law : StatusOr s x
    status_or_law =
        record {
          first =
              λ j. (latched_bit s x w a j).0
              ∙ ap (λ (bs : List Bool). max (bit (cell_in s interrupt_status1) j)
              (flag_of (get_or bs j false))) latched_first;
          second =
              λ j. (latched_bit s x w a j).1
              ∙ ap (λ (bs : List Bool). max (bit (cell_in s interrupt_status2) j)
              (flag_of (get_or bs j false))) latched_second;
        }

    -- ---- the latches
    stepped :
        (after s x).latches
        ≡ latches s.latches.chassis (status_for s x 1).mark
        (remote (status_for s x 2).mark (output_for s x 2) ∷ remote (status_for s x 3).mark (output_for s x 3) ∷ [])
    unfolding stepped_latches
    stepped =
        ap (λ (y : State). y.latches) (accepted_state s x a)
        ∙ rw (status_1 fits, remote_n 2 (lit≤ tt) (lit≤ tt), remote_n 3 (lit≤ tt) (lit≤ tt))

    marks : (n : ℕ) → 2 ≤ n → n ≤ 3 → remote_of (after s x).latches n ≡ remote (status_for s x n).mark (output_for s x n)
    marks =
        both (λ n. remote_of (after s x).latches n ≡ remote (status_for s x n).mark (output_for s x n))
        (ap (λ (l : Latches). remote_of l 2) stepped) (ap (λ (l : Latches). remote_of l 3) stepped)

    pub latches_after_law : LatchesAfter s x
    latches_after_law =
        record {
          chassis = ap (λ (l : Latches). l.chassis) stepped;
          sensor1 = ap (λ (l : Latches). l.sensor1) stepped;
          status = λ n h k. ap (λ (r : Remote). r.status) (marks n h k);
          output = λ n h k. ap (λ (r : Remote). r.output.mark) (marks n h k);
          asserted = λ n h k. ap (λ (r : Remote). r.output.asserted) (marks n h k);
        }
