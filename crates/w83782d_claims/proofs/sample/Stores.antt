-- What a sample leaves in a cell: the last byte that it stores there, or what the cell held.
-- Assumes nothing.
use mathlib.Core.Path.{◌≡◌, refl, ap, sym, ◌∙◌}
use mathlib.Core.Bool.{false}
use mathlib.Core.List.{List, [], ◌∷◌}
use mathlib.Core.Logic.{◌≢◌}
use Prim.Native.Nat.{ℕ, ◌<◌}
use borrow.Author.Tests.{eqb-true, eqb-false}
use lib.Dec.{eqb}
use lib.ListN.{get_or, length}
use Rattle.bits.specs.Map.{among}
use Rattle.bits.proofs.BitLaws.{choose_ind}
use Rattle.bits.proofs.Every.{same_tests}
use Rattle.bits.proofs.Stores.{last_of, puts_at, puts_length, cells_of, is_of, puts_other, fewer}
use Rattle.w83782d_layout.specs.declared.samples.Sample.{Sample}
use Rattle.w83782d_latches.specs.declared.Latches.{Latches}
use Rattle.w83782d_map.specs.Map.{cells, bank_at, index_at}
use Rattle.w83782d_bus.specs.Bus.{State, Written}
use Rattle.w83782d_store.specs.Stored.{readings, stored_readings, sample_answer}
use Rattle.w83782d_sample.specs.Sample.{status_stores, status_registers, stepped_latches, sampled_state, sample_of}
use Rattle.w83782d_claims.specs.BusClaims.{cell_in}
use Rattle.w83782d_claims.specs.SampleClaims.{after, touched, Frame}

-- ---- readings and status_stores
pub stored_at : (rs : List ℕ) (x : Sample) (c : ℕ) → c < length rs
    → get_or (stored_readings rs x) c 0 ≡ last_of (readings rs x) c (get_or rs c 0)
unfolding stored_readings
stored_at rs x c h = puts_at (readings rs x) rs c h

pub stored_other : (rs : List ℕ) (x : Sample) (c : ℕ) → is_of c (cells_of (readings rs x)) ≡ false
    → get_or (stored_readings rs x) c 0 ≡ get_or rs c 0
unfolding stored_readings
stored_other rs x c n = puts_other (readings rs x) rs c n

pub stored_length : (rs : List ℕ) (x : Sample) → length (stored_readings rs x) ≡ length rs
unfolding stored_readings
stored_length rs x = puts_length (readings rs x) rs

evaluation_at : (rs : List ℕ) (l : Latches) (c : ℕ) → c < length rs
    → get_or (status_registers rs l) c 0 ≡ last_of (status_stores rs l) c (get_or rs c 0)
unfolding status_registers
evaluation_at rs l c h = puts_at (status_stores rs l) rs c h

evaluation_other : (rs : List ℕ) (l : Latches) (c : ℕ) → is_of c (cells_of (status_stores rs l)) ≡ false
    → get_or (status_registers rs l) c 0 ≡ get_or rs c 0
unfolding status_registers
evaluation_other rs l c n = puts_other (status_stores rs l) rs c n

evaluation_length : (rs : List ℕ) (l : Latches) → length (status_registers rs l) ≡ length rs
unfolding status_registers
evaluation_length rs l = puts_length (status_stores rs l) rs

-- ---- a sample
pub sample_answer_law : (s : State) (x : Sample) → (sample_of s x).answer ≡ sample_answer s.registers x
unfolding sample_of
sample_answer_law s x =
    choose_ind (λ (w : Written). w.answer ≡ sample_answer s.registers x) (eqb (sample_answer s.registers x) 0) _ _
    (λ e. sym (eqb-true (sample_answer s.registers x) 0 e)) (λ _. refl)

pub accepted_state : (s : State) (x : Sample) → (sample_of s x).answer ≡ 0 → after s x ≡ sampled_state s x
unfolding sample_of
accepted_state s x =
    choose_ind (λ (w : Written). w.answer ≡ 0 → w.state ≡ sampled_state s x)
    (eqb (sample_answer s.registers x) 0) _ _ (λ _ _. refl)
    (λ e a. absurd (eqb-false (sample_answer s.registers x) 0 e a))

pub refused_state : (s : State) (x : Sample) → (sample_of s x).answer ≢ 0 → after s x ≡ s
unfolding sample_of
refused_state s x =
    choose_ind (λ (w : Written). w.answer ≢ 0 → w.state ≡ s) (eqb (sample_answer s.registers x) 0) _ _
    (λ _ n. absurd (n refl)) (λ _ _. refl)

-- what an accepted sample leaves in a cell
pub left_at : (s : State) (x : Sample) (c : ℕ) → (sample_of s x).answer ≡ 0 → c < length s.registers
    → cell_in (after s x) c ≡ last_of (status_stores (stored_readings s.registers x) s.latches) c
    (last_of (readings s.registers x) c (cell_in s c))
left_at s x c a h =
    ap (λ (t : State). cell_in t c) (accepted_state s x a)
    ∙ evaluation_at (stored_readings s.registers x) s.latches c (rw stored_length h)
    ∙ ap (last_of (status_stores (stored_readings s.registers x) s.latches) c) (stored_at s.registers x c h)

-- ---- the frame
-- the cells of the stores, and of the registers that may change
abbrev stores : List ℕ
stores = 0 ∷ 1 ∷ 2 ∷ 3 ∷ 4 ∷ 5 ∷ 6 ∷ 7 ∷ 8 ∷ 9 ∷ 10 ∷ 33 ∷ 34 ∷ 64 ∷ 65 ∷ 80 ∷ 81 ∷ 105 ∷ 106 ∷ []

touched_cells : (c : ℕ) → c < cells → among touched (bank_at c) (index_at c) ≡ is_of c stores
unfolding touched
touched_cells = same_tests cells (λ c. among touched (bank_at c) (index_at c)) (λ c. is_of c stores) tt

module _ (s : State) (x : Sample) where
  sampled_frame : Frame s (sampled_state s x)
  unfolding stepped_latches
  sampled_frame =
      record {
        count = evaluation_length (stored_readings s.registers x) s.latches ∙ stored_length s.registers x;
        others = λ c h n.
            let m : is_of c stores ≡ false = sym (touched_cells c h) ∙ n in
            evaluation_other (stored_readings s.registers x) s.latches c
            (fewer (cells_of (status_stores (stored_readings s.registers x) s.latches)) stores c refl m)
            ∙ stored_other s.registers x c (fewer (cells_of (readings s.registers x)) stores c refl m);
        chassis = refl;
      }

  pub frame : Frame s (after s x)
  unfolding sample_of
  frame =
      choose_ind (λ (w : Written). Frame s w.state) (eqb (sample_answer s.registers x) 0) _ _ (λ _. sampled_frame)
      (λ _. record { count = refl; others = λ c h n. refl; chassis = refl })
