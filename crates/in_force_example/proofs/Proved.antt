-- The machine has the laws of a chip. Assumes nothing.
use Rattle.std.specs.Prelude.{Option, Some, None}
use mathlib.Core.Path.{◌≡◌, refl, sym, ap, ◌∙◌}
use mathlib.Core.Bool.{Bool, true, false, true≢false}
use mathlib.Core.List.{List, [], ◌∷◌}
use mathlib.Core.Logic.{◌≢◌}
use Prim.Native.Nat.{ℕ, zero, suc, ◌-◌, ◌<◌, ◌≤◌}
use native.Mathlib.Omega.{arith}
use borrow.Author.Tests.{ne_eqb, eqb-true, eqb-false, ltb-true}
use lib.Dec.{eqb, ltb}
use lib.ListN.{length, get_or, set, length-set}
use lib.Seq.{get_or-set_same, get_or-set_other}
use Rattle.bits.specs.Bits.{bit, flag_of, word, change, changes}
use Rattle.bits.proofs.BitLaws.{choose_ind}
use Rattle.bits.proofs.Every.{less_below}
use Rattle.bits.proofs.ChangeLaws.{changes_length}
use Rattle.bits.specs.Fields.{digits_of, is_in, distinct, inside, apart}
use Rattle.bits.specs.declared.fields.Place.{Place}
use Rattle.fan.specs.declared.Divisor.{Divisor}
use Rattle.fan_settings.specs.Settings.{has_cell, is_sound, is_apart, planned_registers}
use Rattle.fan_settings.proofs.Settings.{all_sound, all_apart, put, put_length, put_other}
use Rattle.fan.specs.Search.{plan_of}
use Rattle.fan.specs.declared.Plan.{Plan}
use Rattle.fan.proofs.planner.Planning.{plan_of_is}
use Rattle.in_force.specs.Chip.{reset, writing, Whole}
use Rattle.in_force.specs.Laws.{Keeps, Stores, Leaves, AnsweredAs, Takes, ChipLaws}
use Rattle.in_force.proofs.Instances.{is_of, keeps_cells, within, is_wide, all_wide, bus_write}
use Rattle.in_force.proofs.Chips.{every_chip}
use Rattle.in_force_example.specs.Machine.{State, state, fan_of, mask_at, power_on, Call, write, look}
use Rattle.in_force_example.specs.Machine.{sample, set_plan, put_back, count_of, is_reset, slow, back, registers_after}
use Rattle.in_force_example.specs.Machine.{answer_to, looks_after, after, kind_of, machine, AlarmRings}

-- ---- where the settings lie
sound : (f : ℕ) → 1 ≤ f → f ≤ 2 → is_sound 5 (fan_of f) ≡ true
unfolding is_sound inside distinct is_in has_cell
sound = all_sound 5 2 fan_of tt

fans_apart : (f g : ℕ) → 1 ≤ f → f ≤ 2 → 1 ≤ g → g ≤ 2 → f ≢ g → is_apart (fan_of f) (fan_of g) ≡ true
unfolding is_apart has_cell apart is_in
fans_apart = all_apart 2 fan_of tt

-- ---- a call: refused, or done
view : (P : State → Type 0) (s : State) (c : Call)
    → (answer_to s c ≡ 0 → P (state (registers_after s.registers c) (looks_after s.looks c)))
    → (answer_to s c ≢ 0 → P s) → P (after s c)
unfolding after
view P s c done refused =
    choose_ind P (eqb (answer_to s c) 0) _ _ (λ e. done (eqb-true (answer_to s c) 0 e))
    (λ e. refused (eqb-false (answer_to s c) 0 e))

done : (s : State) (c : Call) → answer_to s c ≡ 0
    → after s c ≡ state (registers_after s.registers c) (looks_after s.looks c)
unfolding after
done s c a = rw a

planned_length : (rs : List ℕ) (f : ℕ) (p : Option Plan) → length (planned_registers rs (fan_of f) p) ≡ length rs
planned_length rs f (Some p) = put_length rs (fan_of f) p.divisor p.limit
planned_length rs f None = refl

registers_whole : (rs : List ℕ) (c : Call) → length rs ≡ 5 → length (registers_after rs c) ≡ 5
registers_whole rs (write k v) w =
    choose_ind (λ (ts : List ℕ). length ts ≡ 5) (is_reset k v) _ _ (λ _. refl)
    (λ _. changes_length (change k (mask_at k) v ∷ []) rs ∙ w)
registers_whole rs look w = w
registers_whole rs (sample a b) w = length-set rs 4 _ ∙ w
registers_whole rs (set_plan f x) w = planned_length rs f (plan_of x) ∙ w
registers_whole rs (put_back a b k₁ k₂) w = changes_length (back a b k₁ k₂) rs ∙ w

whole : (s : State) (c : Call) → Whole machine s → Whole machine (after s c)
whole s c w = view (λ (t : State). length t.registers ≡ 5) s c (λ _. registers_whole s.registers c w) (λ _. w)

refused : (s : State) (c : Call) → answer_to s c ≢ 0 → after s c ≡ s
refused s c n = view (λ (t : State). t ≡ s) s c (λ a. absurd (n a)) (λ _. refl)

-- ---- what each call leaves
wide_at : (f k : ℕ) → 1 ≤ f → f ≤ 2 → k < 4 → is_wide (fan_of f) k (mask_at k) ≡ true
unfolding is_wide within bit
wide_at = all_wide 2 4 fan_of mask_at tt

mask_lt : (k : ℕ) → k < 4 → mask_at k < 256
mask_lt = less_below 4 mask_at (λ k. 256) tt

writes : (rs : List ℕ) (k v : ℕ) → k < 4
    → Stores machine rs (changes rs (change k (mask_at k) v ∷ [])) (change k 0xFF v ∷ [])
writes rs k v h =
    bus_write machine rs k k (mask_at k) v (omega arith) (mask_lt k h) (λ f i i'. wide_at f k i i' h)
    (λ f i i' d l. refl)

puts_back : (rs : List ℕ) (a b k₁ k₂ : ℕ) → Stores machine rs (changes rs (back a b k₁ k₂)) (back a b k₁ k₂)
unfolding digits_of
puts_back rs a b k₁ k₂ =
    record { to = back a b k₁ k₂; stored = refl; inside = refl; once = refl; same = λ f i i' e l. (λ z. z, λ z. z) }

no_place : (f c : ℕ) → c ≢ 3 → has_cell (fan_of f).places c ≡ false
unfolding has_cell
no_place f c n =
    choose_ind (λ (ps : List Place). has_cell ps c ≡ false) (eqb f 1) _ _ (λ _. simp (ne_eqb c 3 n))
    (λ _. simp (ne_eqb c 3 n))

not_four : (f : ℕ) → f ≤ 2 → is_of (fan_of f) 4 ≡ false
not_four f h = simp (ne_eqb 4 f (λ e. omega arith), no_place f 4 (λ e. omega arith))

sample_keeps : (rs : List ℕ) (x : ℕ) → Keeps machine rs (set rs 4 x)
sample_keeps rs x =
    keeps_cells machine rs (set rs 4 x)
    (λ f h h' c o. get_or-set_other rs 4 c x 0 (λ e. true≢false (sym o ∙ ap (is_of (fan_of f)) e ∙ not_four f h')))

two_bits : (a b : Bool) → (bit (word (a ∷ b ∷ [])) 0 ≡ flag_of a) × (bit (word (a ∷ b ∷ [])) 1 ≡ flag_of b)
unfolding bit word
two_bits true true = (refl, refl)
two_bits true false = (refl, refl)
two_bits false true = (refl, refl)
two_bits false false = (refl, refl)

rings : (rs : List ℕ) (a b : ℕ) → length rs ≡ 5 → (f : ℕ) → 1 ≤ f → f ≤ 2
    → bit (get_or (set rs 4 (word (slow rs 1 a ∷ slow rs 2 b ∷ []))) 4 0) (f - 1) ≡ flag_of (slow rs f (count_of a b f))
rings rs a b w zero h h' = absurd (omega arith)
rings rs a b w (suc zero) h h' =
    ap (λ (x : ℕ). bit x 0) (get_or-set_same rs 4 _ 0 (omega arith)) ∙ (two_bits (slow rs 1 a) (slow rs 2 b)).0
rings rs a b w (suc (suc zero)) h h' =
    ap (λ (x : ℕ). bit x 1) (get_or-set_same rs 4 _ 0 (omega arith)) ∙ (two_bits (slow rs 1 a) (slow rs 2 b)).1
rings rs a b w (suc (suc (suc f))) h h' = absurd (omega arith)

leaves : (s : State) (c : Call) → Whole machine s → answer_to s c ≡ 0
    → Leaves machine s (state (registers_after s.registers c) (looks_after s.looks c)) (kind_of c)
leaves s (write k v) w a =
    by (is_reset k v) refl
  where
    small : k < 4
    small =
        ltb-true k 4 (choose_ind (λ (x : ℕ). x ≡ 0 → ltb k 4 ≡ true) (ltb k 4) 0 2 (λ e _. e)
        (λ _ z. absurd (omega arith)) a)

    by : (t : Bool) → is_reset k v ≡ t
        → Leaves machine s (state (registers_after s.registers (write k v)) s.looks) (kind_of (write k v))
    by true e = simp e
    by false e = simp e (writes s.registers k v small)
leaves s look w a = record { limit = λ f h h'. refl; bits = λ f h h'. refl }
leaves s (sample x y) w a = record { keeps = sample_keeps s.registers _; rings = rings s.registers x y w }
leaves s (set_plan f x) w a = refl
leaves s (put_back x y k₁ k₂) w a = puts_back s.registers x y k₁ k₂

accepted : (s : State) (c : Call) → Whole machine s → answer_to s c ≡ 0 → Leaves machine s (after s c) (kind_of c)
accepted s c w a = rw (done s c a) (leaves s c w a)

answered : (s : State) (c : Call) → AnsweredAs machine (answer_to s c) (kind_of c)
answered s (write k v) =
    choose_ind (AnsweredAs machine (answer_to s (write k v))) (is_reset k v) reset (writing (change k 0xFF v ∷ []))
    (λ _. tt) (λ _. tt)
answered s look = tt
answered s (sample a b) = tt
answered s (set_plan f w) = rw (plan_of_is w).answer
answered s (put_back a b k₁ k₂) = tt

-- ---- a sample that is taken
started : (f : ℕ) (d : Divisor) (l n : ℕ) → 1 ≤ f → answer_to (state (put power_on (fan_of f) d l) 0) (sample n n) ≡ 0
unfolding bit
started f d l n h = rw (put_other power_on (fan_of f) d l 0 (λ e. omega arith) (no_place f 0 (λ e. omega arith)))

takes : (n : ℕ) → Takes machine n
takes n =
    record {
      state = state power_on 0;
      call = sample n n;
      whole = refl;
      counts = λ f h h'. choose_ind (λ (x : ℕ). x ≡ n) (eqb f 1) n n (λ _. refl) (λ _. refl);
      accepted = λ f h h' d l. started f d l n h;
    }

laws : ChipLaws machine
laws =
    record {
      sound = sound;
      apart = fans_apart;
      instead = λ s rs. refl;
      waits =
          λ s f h h' d l. rw (put_other s.registers (fan_of f) d l 4 (λ e. omega arith)
          (no_place f 4 (λ e. omega arith)));
      whole = whole;
      refused = refused;
      accepted = accepted;
      answered = answered;
      takes = takes;
    }

pub alarm_rings : AlarmRings
alarm_rings = every_chip State Call machine laws
