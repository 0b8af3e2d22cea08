-- Bits that no rule names: every cell and bit that a sample or SMI looks at is another,
-- so two states that differ in them go alike. Assumes nothing.
use mathlib.Core.Path.{◌≡◌, refl, ap, ap₂, sym, subst, ◌∙◌}
use mathlib.Core.Bool.{Bool, true, false, not, ◌&&◌, true≢false, false≢true}
use mathlib.Core.List.{List}
use Prim.Native.Nat.{ℕ, ◌<◌}
use native.Mathlib.Decide.{ℕ_discrete}
use borrow.Author.Tests.{eqb-true, ltb-true, lt-ltb}
use lib.Dec.{eqb, ltb, lit<}
use Rattle.bits.specs.Bits.{bit, is_on}
use Rattle.bits.specs.Map.{among}
use Rattle.bits.specs.Stores.{Store, puts}
use Rattle.bits.proofs.BitLaws.{bit_none, same_byte}
use Rattle.bits.proofs.ChangeLaws.{and_left, and_right}
use Rattle.bits.proofs.Every.{same_tests}
use Rattle.bits.proofs.Stores.{is_plain, is_ruled, SameBut, puts_same}
use Rattle.w83782d_layout.specs.declared.samples.Sample.{Sample}
use Rattle.w83782d_latches.specs.declared.Latches.{Latches}
use Rattle.w83782d_map.specs.Map.{cells, bank_at, index_at}
use Rattle.w83782d_map.specs.Cells.{configuration, interrupt_status1, interrupt_status2, smi_mask1, smi_mask2}
use Rattle.w83782d_bus.specs.Bus.{State}
use Rattle.w83782d_store.specs.Stored.{readings, stored_readings}
use Rattle.w83782d_sample.specs.Sample.{status_stores, status_registers, stepped_latches, sample_of}
use Rattle.w83782d_readings.specs.Outputs.{smi_of}
use Rattle.w83782d_claims.specs.BusClaims.{Whole, cell_in}
use Rattle.w83782d_claims.specs.SampleClaims.{after, touched, ruleless, Alike, ReadAlike, StoredOnly}
use Rattle.w83782d_claims.proofs.sample.Seen.{seen, readings_same, answer_same, status_stores_law, stepped_same}
use Rattle.w83782d_claims.proofs.sample.Stores.{sample_answer_law, accepted_state, refused_state, frame}

-- ---- registers alike: a cell that rules name whole, and a bit that a rule names
abbrev pub plain : ℕ → Bool
plain c = is_plain cells ruleless c

abbrev ruled : ℕ → ℕ → Bool
ruled c j = is_ruled cells ruleless c j

abbrev pub Same : List ℕ → List ℕ → Type 0
Same rs ts = SameBut cells ruleless rs ts

is_off_law : (b : Bool) → not b ≡ true → b ≡ false
is_off_law true e = absurd (false≢true e)
is_off_law false e = refl

plain_off : (c j : ℕ) → ruleless c ≡ 0 → is_on (ruleless c) j ≡ false
plain_off c j e = rw (e, bit_none j)

module _ (s t : State) (ws : Whole s) (wt : Whole t) (a : Alike s t) where
  pub same : Same s.registers t.registers
  same =
      record {
        count = ws.count;
        count' = wt.count;
        cell = λ c p.
            same_byte (cell_in s c) (cell_in t c) (ws.bytes c) (wt.bytes c)
            (λ j hj. a.bits c j (ltb-true c cells (and_left (ltb c cells) (eqb (ruleless c) 0) p)) hj
            (plain_off c j (eqb-true (ruleless c) 0 (and_right (ltb c cells) (eqb (ruleless c) 0) p))));
        bits = λ c j hj p.
            a.bits c j (ltb-true c cells (and_left (ltb c cells) (not (is_on (ruleless c) j)) p)) hj
            (is_off_law (is_on (ruleless c) j) (and_right (ltb c cells) (not (is_on (ruleless c) j)) p));
      }

pub alike : (s t : State) → Same s.registers t.registers → s.latches ≡ t.latches → Alike s t
alike s t e l = record { bits = λ c j h hj n. e.bits c j hj (rw (lt-ltb c cells h, n)); latches = l }

-- ---- registers alike
module _ (rs ts : List ℕ) (e : Same rs ts) where
  stored_same : (x : Sample) → Same (stored_readings rs x) (stored_readings ts x)
  unfolding stored_readings
  stored_same x =
      subst (λ (ws : List Store). Same (puts rs ws) (stored_readings ts x)) (sym (readings_same rs ts (seen rs ts e) x))
      (puts_same cells ruleless (readings ts x) rs ts e)

  smi_same : (b : Bool) → smi_of rs b ≡ smi_of ts b
  unfolding smi_of ruleless bit
  smi_same b =
      rw (
        e.bits configuration 1 (lit< tt) refl,
        e.bits configuration 3 (lit< tt) refl,
        e.cell interrupt_status1 refl,
        e.cell interrupt_status2 refl,
        e.cell smi_mask1 refl,
        e.cell smi_mask2 refl,
      )

  -- ---- the stores of status and real-time bits
  status_stores_same : (l : Latches) → status_stores rs l ≡ status_stores ts l
  unfolding ruleless
  status_stores_same l =
      status_stores_law rs ts (seen rs ts e) l (e.cell interrupt_status1 refl) (e.cell interrupt_status2 refl)

  evaluation_same : (l : Latches) → Same (status_registers rs l) (status_registers ts l)
  unfolding status_registers
  evaluation_same l =
      subst (λ (ws : List Store). Same (puts rs ws) (status_registers ts l)) (sym (status_stores_same l))
      (puts_same cells ruleless (status_stores ts l) rs ts e)

-- ---- the bits themselves stay: no sample touches their registers
untouched : (c : ℕ) → c < cells → (among touched (bank_at c) (index_at c) && not (eqb (ruleless c) 0)) ≡ false
unfolding touched ruleless
untouched = same_tests cells (λ c. among touched (bank_at c) (index_at c) && not (eqb (ruleless c) 0)) (λ c. false) tt

bits_stay : (s : State) (x : Sample) (c j : ℕ) → c < cells → is_on (ruleless c) j ≡ true
    → bit (cell_in (after s x) c) j ≡ bit (cell_in s c) j
bits_stay s x c j h e = go (among touched (bank_at c) (index_at c)) (eqb (ruleless c) 0) refl refl
  where
    go : (b d : Bool) → among touched (bank_at c) (index_at c) ≡ b → eqb (ruleless c) 0 ≡ d
        → bit (cell_in (after s x) c) j ≡ bit (cell_in s c) j
    go false d p q = ap (λ (n : ℕ). bit n j) ((frame s x).others c h p)
    go true true p q = absurd (true≢false (sym e ∙ plain_off c j (eqb-true (ruleless c) 0 q)))
    go true false p q = absurd (true≢false (sym (ap₂ (λ (y z : Bool). y && not z) p q) ∙ untouched c h))

-- ---- two states
module _ (s t : State) (x : Sample) (ws : Whole s) (wt : Whole t) (a : Alike s t) where
  abbrev before : Same s.registers t.registers
  before = same s t ws wt a

  answers : (sample_of s x).answer ≡ (sample_of t x).answer
  answers =
      sample_answer_law s x ∙ answer_same s.registers t.registers (seen s.registers t.registers before) x
      ∙ sym (sample_answer_law t x)

  abbrev now : Same (stored_readings s.registers x) (stored_readings t.registers x)
  now = stored_same s.registers t.registers before x

  left_registers : Same (after s x).registers (after t x).registers
  left_registers = go (ℕ_discrete (sample_of s x).answer 0)
    where
      go : Dec ((sample_of s x).answer ≡ 0) → Same (after s x).registers (after t x).registers
      go (yes q) =
          rw (accepted_state s x q, accepted_state t x (sym answers ∙ q), ← a.latches)
          (evaluation_same (stored_readings s.registers x) (stored_readings t.registers x) now s.latches)
      go (no n) = rw (refused_state s x n, refused_state t x (λ z. n (answers ∙ z))) before

  left_latches : (after s x).latches ≡ (after t x).latches
  left_latches = go (ℕ_discrete (sample_of s x).answer 0)
    where
      go : Dec ((sample_of s x).answer ≡ 0) → (after s x).latches ≡ (after t x).latches
      go (yes q) =
          ap (λ (y : State). y.latches) (accepted_state s x q)
          ∙ stepped_same (stored_readings s.registers x) (stored_readings t.registers x)
          (seen (stored_readings s.registers x) (stored_readings t.registers x) now) s.latches
          ∙ ap (stepped_latches (stored_readings t.registers x)) a.latches
          ∙ sym (ap (λ (y : State). y.latches) (accepted_state t x (sym answers ∙ q)))
      go (no n) = rw (refused_state s x n, refused_state t x (λ z. n (answers ∙ z))) a.latches

  pub stored_only_law : ((i : ℕ) → ReadAlike s t i) → StoredOnly s t x
  stored_only_law reads =
      record {
        answer = answers;
        left = alike (after s x) (after t x) left_registers left_latches;
        stays = λ c j h hj e. bits_stay s x c j h e;
        smi =
            smi_same s.registers t.registers before s.latches.chassis
            ∙ ap (λ (l : Latches). smi_of t.registers l.chassis) a.latches;
        smi_after =
            smi_same (after s x).registers (after t x).registers left_registers (after s x).latches.chassis
            ∙ ap (λ (l : Latches). smi_of (after t x).registers l.chassis) left_latches;
        reads = reads;
      }
