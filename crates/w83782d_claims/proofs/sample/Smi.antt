-- SMI by its three tests, the last by the law on two status bytes and their masks. Standby is one store to 40h.
-- Assumes nothing.
use mathlib.Core.Path.{◌≡◌, refl, ap, ◌∙◌}
use mathlib.Core.Bool.{Bool, true, false, not, ◌&&◌, false≢true}
use mathlib.Core.List.{List}
use mathlib.Core.Logic.{◌≢◌, ◌↔◌}
use Prim.Native.Nat.{ℕ, ◌<◌}
use native.Mathlib.Decide.{ℕ_discrete}
use native.Mathlib.Omega.{arith}
use borrow.Author.Tests.{eq-eqb, ne_eqb, not-true}
use lib.Bits.{bit_and}
use lib.Dec.{eqb, lit<}
use lib.ListN.{set}
use lib.Seq.{get_or-set_same, get_or-set_other}
use Rattle.bits.specs.Bits.{bit, is_on, choose, merge_of, changes}
use Rattle.bits.proofs.BitLaws.{bit_on, bit_off}
use Rattle.bits.proofs.Every.{same_below2, same_tests}
use Rattle.w83782d_map.specs.Cells.{configuration, interrupt_status1, interrupt_status2, smi_mask1, smi_mask2}
use Rattle.w83782d_registers.specs.Registers.{shown_of}
use Rattle.w83782d_claims.proofs.bus.Named.{register_40}
use Rattle.w83782d_latches.specs.Effects.{written_latches}
use Rattle.w83782d_bus.specs.Bus.{State, state, Written, written, written_registers, write_of}
use Rattle.status.specs.Status.{any_unmasked}
use Rattle.status.proofs.StatusLaws.{any_unmasked_law}
use Rattle.w83782d_readings.specs.Outputs.{status1, status2, smi_of}
use Rattle.w83782d_claims.specs.BusClaims.{Whole, cell_in}
use Rattle.w83782d_claims.specs.SampleClaims.{is_standby, smi_in, UnmaskedIn, SmiExactly, standby_of, Standby}

-- ---- the three tests
all_three : (a b c : Bool) → (a && b && c) ≡ true → (a ≡ true) × (b ≡ true) × (c ≡ true)
all_three true true true e = (refl, refl, refl)
all_three true true false e = absurd (false≢true e)
all_three true false c e = absurd (false≢true e)
all_three false b c e = absurd (false≢true e)

module _ (s : State) (w : Whole s) where
  abbrev rs : List ℕ
  rs = s.registers

  abbrev unmasked_now : Bool
  unmasked_now = any_unmasked (status1 rs) (cell_in s smi_mask1) (status2 rs s.latches.chassis) (cell_in s smi_mask2)

  exactly : (unmasked_now ≡ true) ↔ UnmaskedIn s
  unfolding shown_of
  exactly =
      any_unmasked_law (status1 rs) (cell_in s smi_mask1) (status2 rs s.latches.chassis) (cell_in s smi_mask2)
      (w.bytes smi_mask1) (w.bytes smi_mask2)

  pub smi_exactly_law : SmiExactly s
  unfolding smi_of
  smi_exactly_law = (
    (λ e.
        let p = all_three (is_on (cell_in s configuration) 1) (not (is_on (cell_in s configuration) 3)) unmasked_now e in
        record {
          enabled = bit_on (cell_in s configuration) 1 p.0;
          running = bit_off (cell_in s configuration) 3 (not-true (is_on (cell_in s configuration) 3) p.1);
          alarm = exactly.0 p.2;
        }),
    (λ e.
        simp (
          eq-eqb (bit (cell_in s configuration) 1) 1 e.enabled,
          ne_eqb (bit (cell_in s configuration) 3) 1 (λ z. absurd (omega (arith, e.running))),
          exactly.1 e.alarm,
        )),
  )

-- ---- standby
-- the byte written for a byte stored, and what the write leaves of it: 256 bytes
abbrev cleared : ℕ → ℕ
cleared o = bit_and (bit_and o 0b0111_1111) 0b1111_1110

no_reset : (o : ℕ) → o < 256 → is_on (cleared o) 7 ≡ false
unfolding bit
no_reset = same_tests 256 (λ o. is_on (cleared o) 7) (λ o. false) tt

merged_bit : (o j : ℕ) → o < 256 → j < 8 → bit (merge_of o 0b0100_1011 (cleared o)) j ≡ choose (eqb j 0) 0 (bit o j)
unfolding bit merge_of
merged_bit =
    same_below2 256 8 (λ o j. bit (merge_of o 0b0100_1011 (cleared o)) j) (λ o j. choose (eqb j 0) 0 (bit o j)) tt

module _ (s : State) (w : Whole s) where
  abbrev old : ℕ
  old = cell_in s configuration

  abbrev left : State
  left = state (set s.registers configuration (merge_of old 0b0100_1011 (cleared old))) s.latches

  written_40 : standby_of s ≡ written left 0
  unfolding write_of written_registers written_latches changes shown_of
  written_40 = rw (register_40.cell, register_40.answer, no_reset old (w.bytes configuration), register_40.stored)

  left_bits : (c j : ℕ) → j < 8 → bit (cell_in left c) j ≡ choose (eqb c configuration && eqb j 0) 0 (bit (cell_in s c) j)
  left_bits c j hj = go (ℕ_discrete c configuration)
    where
      go : Dec (c ≡ configuration)
          → bit (cell_in left c) j ≡ choose (eqb c configuration && eqb j 0) 0 (bit (cell_in s c) j)
      go (yes q) =
          rw q
          (ap (λ (x : ℕ). bit x j) (get_or-set_same s.registers configuration _ 0 (omega (arith, w.count)))
          ∙ merged_bit old j (w.bytes configuration) hj)
      go (no n) =
          simp (ne_eqb c configuration n)
          (ap (λ (x : ℕ). bit x j) (get_or-set_other s.registers configuration c _ 0 n))

  left_other : (c : ℕ) → c ≢ configuration → cell_in left c ≡ cell_in s c
  left_other c n = get_or-set_other s.registers configuration c _ 0 n

  left_smi : smi_in left ≡ smi_in s
  unfolding smi_of
  left_smi =
      rw (
        left_bits configuration 1 (lit< tt),
        left_bits configuration 3 (lit< tt),
        left_other interrupt_status1 (λ e. omega arith),
        left_other interrupt_status2 (λ e. omega arith),
        left_other smi_mask1 (λ e. omega arith),
        left_other smi_mask2 (λ e. omega arith),
      )

  pub standby : Standby s
  standby =
      record {
        accepted = ap (λ (y : Written). y.answer) written_40;
        bits = λ c j hj. ap (λ (y : Written). bit (cell_in y.state c) j) written_40 ∙ left_bits c j hj;
        latches = ap (λ (y : Written). y.state.latches) written_40;
        stops = ap (λ (y : Written). is_standby y.state) written_40 ∙ rw (left_bits configuration 0 (lit< tt));
        smi = ap (λ (y : Written). smi_in y.state) written_40 ∙ left_smi;
      }
