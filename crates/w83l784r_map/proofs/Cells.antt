-- The code's sets of cells and its values by cell are those of the rows, for every number: below 128 or below the last
-- cell by computing, and beyond the cells there is nothing. Assumes nothing.
use mathlib.Core.Path.{◌≡◌, refl, sym, ap, ◌∙◌}
use mathlib.Core.Bool.{Bool, true, false, not, beq, true≢false}
use mathlib.Core.List.{List, [], ◌∷◌, reverse}
use Prim.Native.Nat.{ℕ, ◌+◌, ◌≤◌}
use native.Mathlib.Omega.{arith}
use borrow.Author.Tests.{ne_eqb, le-ltb, eqb-true, not-true, not-false}
use lib.Dec.{T, eqb}
use Rattle.answers.specs.declared.Refusal.{Refusal}
use Rattle.answers.specs.Refusals.{refusal_number}
use Rattle.answers.proofs.Refusals.{is_refused}
use Rattle.bits.specs.Bits.{choose, in_set}
use Rattle.bits.specs.Map.{Span, covers, among}
use Rattle.bits.proofs.Every.{every, by_bound, same_below}
use Rattle.bits.proofs.Match.{NoKey, rest_arm}
use Rattle.bits.proofs.Sets.{set_is}
use Rattle.w83l784r_map.specs.Map.{rows, identity, offsets, kept_by_reset, cells, Content, content_at, says_of}
use Rattle.w83l784r_map.specs.Map.{column_of, present_at, writable_at, power_on_at, offset_at, identity_at, kept_at}
use Rattle.w83l784r_map.specs.Cells.{voltage, sensor1_value, fan_count, high_limit, low_limit, sensor1_over}
use Rattle.w83l784r_map.specs.Cells.{sensor1_hysteresis, fan_limit, set_cell, sensor_configuration, offset_of}
use Rattle.w83l784r_map.specs.Cells.{configuration, interrupt_status1, interrupt_status2, smi_mask1, smi_mask2}
use Rattle.w83l784r_map.specs.Cells.{real_time_status1, real_time_status2, fan_divisor, bus_address, sensor_addresses}
use Rattle.w83l784r_map.specs.Cells.{vendor_id_low, vendor_id_high, chip_id, acpi_step, ovt_control, smi_control}
use Rattle.w83l784r_map.specs.Cells.{gpo_control, sensor_types, misc_control, fault_control, fan_fault_high}
use Rattle.w83l784r_map.specs.Cells.{fan_fault_low, vbat_fault_high, vbat_fault_low, pre_scale, fan_duty}
use Rattle.w83l784r_map.specs.Cells.{fan_configuration, fan_target, tolerances, stop_duty, start_up_duty, stop_time}
use Rattle.w83l784r_map.specs.Cells.{step_down_time, step_up_time}
use Rattle.w83l784r_map.specs.Access.{write_answer, stored_bits, shown_bits}

-- ---- beyond the cells there is nothing
beyond : {A : Type 0} (f : Content → A) (c : ℕ) → cells ≤ c → f (content_at cells) ≡ f (content_at c)
unfolding content_at
beyond f c h =
    simp (le-ltb c 64 (omega arith), le-ltb c 96 (omega arith), le-ltb c 104 (omega arith), le-ltb c cells h)

pub present_out : (c : ℕ) → cells ≤ c → false ≡ present_at c
unfolding present_at content_at rows
present_out c h = beyond (says_of (λ r. true) false) c h

pub answer_out : (c : ℕ) → cells ≤ c → 1 ≡ write_answer c
unfolding write_answer
answer_out c h = simp (← present_out c h)

abbrev within : Span → Content → Bool
within s k = covers s k.device k.index

-- ---- sets of cells, as two words: which set they are is computed where a function cites one
abbrev IsSet : ℕ → ℕ → (ℕ → Bool) → Type 0
IsSet l h f = T (every (λ c. beq (in_set l h c) (f c)) 128)

abbrev is_read_only : ℕ → Bool
is_read_only c = eqb (write_answer c) 2

module _ (l h : ℕ) where
  pub present_set : IsSet l h present_at → (c : ℕ) → in_set l h c ≡ present_at c
  present_set t = set_is l h present_at t (λ c k. present_out c (omega arith))

  pub offset_set : IsSet l h offset_at → (c : ℕ) → in_set l h c ≡ offset_at c
  unfolding offset_at content_at
  offset_set t = set_is l h offset_at t (λ c k. beyond (within offsets) c (omega arith))

  pub read_only_set : IsSet l h is_read_only → (c : ℕ) → in_set l h c ≡ is_read_only c
  read_only_set t = set_is l h is_read_only t (λ c k. ap (λ (x : ℕ). eqb x 2) (answer_out c (omega arith)))

  pub kept_set : IsSet l h kept_at → (c : ℕ) → in_set l h c ≡ kept_at c
  unfolding kept_at content_at kept_by_reset
  kept_set t =
      set_is l h kept_at t (λ c k. beyond (λ (m : Content). among kept_by_reset m.device m.index) c (omega arith))

  pub identity_set : IsSet l h identity_at → (c : ℕ) → in_set l h c ≡ identity_at c
  unfolding identity_at content_at
  identity_set t = set_is l h identity_at t (λ c k. beyond (within identity) c (omega arith))

-- ---- the answer to a write, by its cases
abbrev decided : Bool → Bool → ℕ
decided o w = choose o 9 (choose w 2 0)

by_none : (o w : Bool) → o ≡ false → eqb (decided o w) 2 ≡ false → 0 ≡ decided o w
by_none true w e n = absurd (true≢false e)
by_none false true e n = absurd (true≢false n)
by_none false false e n = refl

module _ (c : ℕ) where
  pub answer_absent : (p : Bool) → p ≡ present_at c → not p ≡ true → 1 ≡ write_answer c
  unfolding write_answer
  answer_absent p e n = simp (← e, not-true p n)

  pub answer_locked : (p o : Bool) → p ≡ present_at c → not p ≡ false → o ≡ offset_at c → o ≡ true → 9 ≡ write_answer c
  unfolding write_answer
  answer_locked p o e n f t = simp (← e, not-false p n, ← f, t)

  pub answer_read_only : (r : Bool) → r ≡ is_read_only c → r ≡ true → 2 ≡ write_answer c
  answer_read_only r e t = sym (eqb-true (write_answer c) 2 (sym e ∙ t))

  pub answer_accepted : (p o r : Bool) → p ≡ present_at c → not p ≡ false → o ≡ offset_at c → o ≡ false
      → r ≡ is_read_only c → r ≡ false → 0 ≡ write_answer c
  unfolding write_answer
  answer_accepted p o r e n f t g u =
      let present : present_at c ≡ true = sym e ∙ not-false p n in
      rw present (by_none (offset_at c) (eqb (writable_at c) 0) (sym f ∙ t) (rw present at (sym g ∙ u)))

-- ---- a write stores exactly the bits that a read shows, where it is accepted, and else none
stored_out : (c : ℕ) → cells ≤ c → stored_bits c ≡ 0
unfolding stored_bits writable_at content_at rows
stored_out c h =
    simp (ne_eqb c configuration (λ e. omega arith)) (sym (beyond (column_of (λ r. r.row.writable)) c h))

pub stored_is : (c : ℕ) → stored_bits c ≡ choose (eqb (write_answer c) 0) (shown_bits c) 0
unfolding stored_bits write_answer shown_bits present_at writable_at offset_at content_at rows
stored_is c =
    by_bound cells c (same_below cells stored_bits (λ k. choose (eqb (write_answer k) 0) (shown_bits k) 0) tt c)
    (λ h. simp (stored_out c h, ← answer_out c h))

pub stored_refused : (c : ℕ) (r : Refusal) → refusal_number r ≡ write_answer c → 0 ≡ stored_bits c
stored_refused c r e = simp (stored_is c, ← e, ne_eqb (refusal_number r) 0 (is_refused r))

pub stored_shown : (c s : ℕ) → 0 ≡ write_answer c → s ≡ shown_bits c → s ≡ stored_bits c
stored_shown c s e f = simp (stored_is c, ← e) f

-- ---- the values of a cell: the keys of each arm, and what every other number has
abbrev pub shown_keys : List (List ℕ)
shown_keys =
    (voltage 0 ∷ voltage 2 ∷ sensor1_value ∷ fan_count 2 ∷ [])
    ∷ (voltage 1 ∷ voltage 3 ∷ fan_count 1 ∷ [])
    ∷ (high_limit 0 ∷ high_limit 1 ∷ high_limit 2 ∷ high_limit 3 ∷ sensor1_over ∷ fan_limit 1 ∷ [])
    ∷ (low_limit 0 ∷ low_limit 1 ∷ low_limit 2 ∷ low_limit 3 ∷ sensor1_hysteresis ∷ fan_limit 2 ∷ [])
    ∷ (configuration ∷ [])
    ∷ (interrupt_status1 ∷ smi_mask1 ∷ real_time_status1 ∷ [])
    ∷ (interrupt_status2 ∷ real_time_status2 ∷ [])
    ∷ (smi_mask2 ∷ smi_control ∷ sensor_types ∷ [])
    ∷ (fan_divisor ∷ [])
    ∷ (bus_address ∷ acpi_step ∷ [])
    ∷ (sensor_addresses ∷ vendor_id_high ∷ gpo_control ∷ [])
    ∷ (vendor_id_low ∷ chip_id ∷ [])
    ∷ (ovt_control ∷ fan_configuration ∷ [])
    ∷ (misc_control ∷ [])
    ∷ (fault_control ∷ [])
    ∷ (fan_fault_high 1 ∷ fan_fault_high 2 ∷ vbat_fault_high ∷ [])
    ∷ (fan_fault_low 1 ∷ fan_fault_low 2 ∷ vbat_fault_low ∷ [])
    ∷ (pre_scale 1 ∷ pre_scale 2 ∷ fan_target 1 ∷ tolerances ∷ [])
    ∷ (fan_duty 1 ∷ fan_duty 2 ∷ fan_target 2 ∷ [])
    ∷ (stop_duty 1 ∷ start_up_duty 1 ∷ stop_time 1 ∷ step_down_time ∷ [])
    ∷ (stop_duty 2 ∷ start_up_duty 2 ∷ stop_time 2 ∷ step_up_time ∷ [])
    ∷ (offset_of 1 ∷ offset_of 3 ∷ [])
    ∷ (offset_of 2 ∷ [])
    ∷ (set_cell 2 ∷ (set_cell 2 + 3) ∷ (set_cell 2 + 5) ∷ [])
    ∷ ((set_cell 2 + 1) ∷ (set_cell 2 + 4) ∷ (set_cell 2 + 6) ∷ [])
    ∷ (set_cell 3 ∷ (set_cell 3 + 3) ∷ (set_cell 3 + 5) ∷ [])
    ∷ ((set_cell 3 + 1) ∷ (set_cell 3 + 4) ∷ (set_cell 3 + 6) ∷ [])
    ∷ (sensor_configuration (set_cell 2) ∷ sensor_configuration (set_cell 3) ∷ [])
    ∷ []

pub shown_rest : (c : ℕ) → NoKey (reverse shown_keys) c → 0 ≡ shown_bits c
unfolding shown_bits content_at rows
shown_rest = rest_arm shown_bits 0 (reverse shown_keys) cells tt (beyond (column_of (λ r. r.shows)))

abbrev pub power_keys : List (List ℕ)
power_keys =
    (configuration ∷ sensor_addresses ∷ pre_scale 1 ∷ pre_scale 2 ∷ [])
    ∷ (fan_divisor ∷ tolerances ∷ [])
    ∷ (bus_address ∷ [])
    ∷ (vendor_id_low ∷ [])
    ∷ (vendor_id_high ∷ [])
    ∷ (chip_id ∷ (set_cell 2 + 5) ∷ (set_cell 3 + 5) ∷ [])
    ∷ (acpi_step ∷ [])
    ∷ (smi_control ∷ [])
    ∷ (fan_fault_high 1 ∷ fan_fault_high 2 ∷ vbat_fault_high ∷ [])
    ∷ (fan_duty 1 ∷ fan_duty 2 ∷ [])
    ∷ (stop_duty 1 ∷ start_up_duty 1 ∷ [])
    ∷ (stop_duty 2 ∷ start_up_duty 2 ∷ [])
    ∷ (stop_time 1 ∷ [])
    ∷ (stop_time 2 ∷ [])
    ∷ (step_down_time ∷ [])
    ∷ (step_up_time ∷ [])
    ∷ ((set_cell 2 + 3) ∷ (set_cell 3 + 3) ∷ [])
    ∷ []

pub power_rest : (c : ℕ) → NoKey (reverse power_keys) c → 0 ≡ power_on_at c
unfolding power_on_at content_at rows
power_rest = rest_arm power_on_at 0 (reverse power_keys) cells tt (beyond (column_of (λ r. r.row.power_on)))
