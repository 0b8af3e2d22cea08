-- Reads of two states that differ in bits without a rule: the bank is the same, so the same cell is reached; a byte is
-- shown from its own cell, the latch and 4Eh; and OVT is released by bit 1 of 52h, which a rule names. Assumes nothing.
use mathlib.Core.Path.{◌≡◌, refl, ap, sym, ◌∙◌}
use mathlib.Core.Bool.{Bool, true, false, not, ◌&&◌, ◌||◌, true≢false}
use mathlib.Core.List.{List, [], ◌∷◌}
use mathlib.Core.Logic.{◌≢◌}
use Prim.Native.Nat.{ℕ, ◌<◌}
use native.Mathlib.Decide.{ℕ_discrete}
use native.Mathlib.Omega.{arith}
use borrow.Author.Tests.{ne_eqb, lt-ltb}
use lib.Bits.{bit_and}
use lib.Dec.{eqb, lit<, lit≤}
use lib.ListN.{set}
use Rattle.bits.specs.Bits.{bit, is_on, choose}
use Rattle.bits.specs.Stores.{◌≔◌}
use Rattle.bits.proofs.Every.{same_tests}
use Rattle.bits.proofs.Stores.{puts_same}
use Rattle.w83782d_latches.specs.declared.Latches.{Latches}
use Rattle.w83782d_map.specs.Map.{cells, present_at}
use Rattle.w83782d_map.specs.Cells.{bank_select, configuration, interrupt_status1, interrupt_status2}
use Rattle.w83782d_map.proofs.Cells.{present_cell}
use Rattle.w83782d_registers.specs.Registers.{cell_of, reach_of, shown_of}
use Rattle.w83782d_latches.specs.Effects.{read_latches}
use Rattle.w83782d_bus.specs.Bus.{State, state, read_registers, read, read_of}
use Rattle.w83782d_claims.specs.BusClaims.{Whole, shown_in, has_rule}
use Rattle.w83782d_claims.proofs.bus.Reached.{read_answer, refused}
use Rattle.w83782d_claims.proofs.bus.Frames.{shown_same, read_state_law, shown}
use Rattle.w83782d_claims.specs.SampleClaims.{ruleless, Alike, ReadAlike}
use Rattle.w83782d_claims.proofs.sample.Seen.{seen, interrupt_same}
use Rattle.w83782d_claims.proofs.sample.Stored.{plain, Same, same, alike}

-- ---- what a read leaves
module _ (rs ts : List ℕ) (e : Same rs ts) where
  registers_same : (c : ℕ) → Same (read_registers rs c) (read_registers ts c)
  unfolding read_registers
  registers_same c = go (eqb c interrupt_status1) (eqb c interrupt_status2)
    where
      go : (a b : Bool) → Same (choose (a || b) (set rs c 0) rs) (choose (a || b) (set ts c 0) ts)
      go true b = puts_same cells ruleless ((c ≔ 0) ∷ []) rs ts e
      go false true = puts_same cells ruleless ((c ≔ 0) ∷ []) rs ts e
      go false false = e

  latches_same : (l : Latches) (c : ℕ) → read_latches rs l c ≡ read_latches ts l c
  unfolding read_latches
  latches_same l c =
      rw (
        interrupt_same rs ts (seen rs ts e) 2 (lit≤ tt) (lit≤ tt),
        interrupt_same rs ts (seen rs ts e) 3 (lit≤ tt) (lit≤ tt),
      )

-- ---- what it shows: but for 40h, a register with a rule for what is shown has a rule for every bit
other_rules : (c : ℕ) → c < cells → (has_rule c && (not (eqb c configuration) && not (eqb (ruleless c) 0))) ≡ false
unfolding ruleless
other_rules =
    same_tests cells (λ c. has_rule c && (not (eqb c configuration) && not (eqb (ruleless c) 0))) (λ c. false) tt

third : (a b d : Bool) → (a && (not b && not d)) ≡ false → a ≡ true → b ≡ false → d ≡ true
third true false true e p q = refl
third true false false e p q = absurd (true≢false e)
third true true d e p q = absurd (true≢false q)
third false b d e p q = absurd (true≢false (sym p))

ruled_whole : (c : ℕ) → c < cells → c ≢ configuration → has_rule c ≡ true → plain c ≡ true
ruled_whole c h n r =
    let e : eqb (ruleless c) 0 ≡ true =
    third (has_rule c) (eqb c configuration) (eqb (ruleless c) 0) (other_rules c h) r (ne_eqb c configuration n) in
    rw (lt-ltb c cells h, e)

module _ (s t : State) (ws : Whole s) (wt : Whole t) (a : Alike s t) where
  abbrev before : Same s.registers t.registers
  before = same s t ws wt a

  reach_same : (i : ℕ) → reach_of t.registers i ≡ reach_of s.registers i
  unfolding ruleless
  reach_same i = ap (λ (b : ℕ). cell_of (bit_and b 7) i) (sym (before.cell bank_select refl))

  cell_shown : (c : ℕ) → plain c ≡ true → shown_in s c ≡ shown_in t c
  unfolding ruleless
  cell_shown c p =
      shown_same t.registers s.registers s.latches.chassis c (before.cell c p)
      (λ _. before.cell bank_select refl)
      ∙ ap (λ (l : Latches). shown_of t.registers l.chassis c) a.latches

  bit_shown : (c j : ℕ) → c < cells → j < 8 → is_on (ruleless c) j ≡ false → bit (shown_in s c) j ≡ bit (shown_in t c) j
  bit_shown c j h hj e = go (ℕ_discrete c configuration) (has_rule c) refl
    where
      go : Dec (c ≡ configuration) → (r : Bool) → has_rule c ≡ r → bit (shown_in s c) j ≡ bit (shown_in t c) j
      go (yes q) r k =
          rw q
          ((shown s).configuration j hj
          ∙ ap (choose (eqb j 7) 0) (a.bits configuration j (lit< tt) hj (rw q at e))
          ∙ sym ((shown t).configuration j hj))
      go (no n) false k =
          ap (λ (x : ℕ). bit x j) ((shown s).other c k) ∙ a.bits c j h hj e
          ∙ sym (ap (λ (x : ℕ). bit x j) ((shown t).other c k))
      go (no n) true k = ap (λ (x : ℕ). bit x j) (cell_shown c (ruled_whole c h n k))

  -- ---- the read
  module _ (i : ℕ) where
    abbrev c : ℕ
    c = reach_of s.registers i

    answer_same : (read_of s i).answer ≡ (read_of t i).answer
    answer_same =
        read_answer s i ∙ ap (λ (k : ℕ). choose (present_at k) 0 1) (sym (reach_same i)) ∙ sym (read_answer t i)

    module _ (p : present_at (reach_of s.registers i) ≡ true) where
      there : read_of t i
          ≡ read (state (read_registers t.registers c) (read_latches t.registers t.latches c)) 0 (shown_in t c)
      there = read_state_law t i (ap present_at (reach_same i) ∙ p) ∙ rw (reach_same i)

      accepted : ReadAlike s t i
      accepted =
          record {
            answer = answer_same;
            left =
                rw (read_state_law s i p, there)
                (alike _ _ (registers_same s.registers t.registers before c)
                (latches_same s.registers t.registers before s.latches c
                ∙ ap (λ (l : Latches). read_latches t.registers l c) a.latches));
            shown = λ j hj e. rw (read_state_law s i p, there) (bit_shown c j (present_cell c p) hj e);
          }

    module _ (p : present_at (reach_of s.registers i) ≡ false) where
      not_0 : (read_of s i).answer ≢ 0
      not_0 z = let y : ◌≡◌ {A = ℕ} 1 0 = sym (read_answer s i ∙ rw p) ∙ z in omega arith

      turned_away : ReadAlike s t i
      turned_away =
          let n : (read_of t i).answer ≢ 0 = λ z. not_0 (answer_same ∙ z) in
          record {
            answer = answer_same;
            left = rw ((refused s i 0).read not_0, (refused t i 0).read n) a;
            shown = λ j hj e. ap (λ (x : ℕ). bit x j) ((refused s i 0).byte not_0 ∙ sym ((refused t i 0).byte n));
          }

    pub read_alike : ReadAlike s t i
    read_alike = go (present_at c) refl
      where
        go : (b : Bool) → present_at c ≡ b → ReadAlike s t i
        go true p = accepted p
        go false p = turned_away p
