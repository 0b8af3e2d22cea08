-- What each event leaves of 41h and 42h, by the claims of its access or of the sample;
-- bit by bit by tests that compute. Assumes nothing.
use mathlib.Core.Path.{◌≡◌, refl, ap, ap₂, sym, subst, ◌∙◌}
use mathlib.Core.Bool.{Bool, true, false, not, ◌&&◌, ◌||◌, true≢false, and-false}
use mathlib.Core.List.{List, [], ◌∷◌, map}
use mathlib.Core.Logic.{◌≢◌}
use Prim.Native.Nat.{ℕ, zero, suc, ◌<◌, max}
use native.Mathlib.Decide.{ℕ_discrete}
use native.Mathlib.Omega.{arith}
use mir.Val.{SFits}
use mir.Syntax.{w8}
use borrow.Author.Tests.{eqb-true, eq-eqb, ne_eqb}
use lib.Dec.{eqb, ltb, lit<}
use lib.ListN.{get_or, length}
use Rattle.bits.specs.Bits.{bit, is_on, choose, flag_of}
use Rattle.bits.proofs.BitLaws.{bit_lt, bit_none, bit_on}
use Rattle.bits.proofs.ChangeLaws.{and_left, and_right}
use Rattle.bits.proofs.Every.{same_below2}
use Rattle.bits.proofs.Flags.{word_bit}
use Rattle.status.specs.Status.{status_bits, no_bits, bit_after}
use Rattle.status.specs.declared.StatusBits.{StatusBits}
use Rattle.status.proofs.AfterLaws.{max_none, bit_kept, bit_latched, all_on, bit_cleared}
use Rattle.w83782d_record.specs.declared.Kind.{Kind}
use Rattle.w83782d_record.specs.declared.Kind.TheVariants.{Write, Read, Sample, Chassis}
use Rattle.w83782d_layout.specs.declared.samples.Sample.{Sample as Readings}
use Rattle.w83782d_map.specs.Map.{cells, present_at, writable_at, power_on_at, kept_at, kept_by_reset, rows}
use Rattle.w83782d_map.specs.Cells.{chassis_clear, configuration, interrupt_status1, interrupt_status2}
use Rattle.w83782d_map.specs.Access.{write_answer}
use Rattle.w83782d_registers.specs.Registers.{bank_of, reach_of, is_command}
use Rattle.w83782d_latches.specs.declared.Latches.{Latches}
use Rattle.w83782d_latches.specs.Effects.{latches}
use Rattle.w83782d_bus.specs.Bus.{State, state, Written, written_at, write_of, read_of}
use Rattle.w83782d_store.specs.Stored.{stored_readings, sample_answer}
use Rattle.w83782d_sample.specs.Sample.{first_byte, second_byte, latched_by, latched_byte, status_at, sample_of, latched_of}
use Rattle.w83782d_claims.specs.BusClaims.{Whole, is_off, cell_in, shown_in, Leaves, Resets}
use Rattle.w83782d_claims.specs.Sampled.{flag_at}
use Rattle.w83782d_claims.specs.SampleClaims.{after}
use Rattle.w83782d_claims.proofs.bus.Named.{register_40, register_46}
use Rattle.w83782d_claims.proofs.bus.Reached as reached
use Rattle.w83782d_claims.proofs.bus.Frames as frames
use Rattle.w83782d_claims.proofs.sample.Stores.{sample_answer_law, refused_state, frame}
use Rattle.w83782d_claims.proofs.sample.Conditions.{fits_byte, latched_bit, latched_first, latched_second}
use Rattle.w83782d_claims.proofs.sample.Seen.{Seen, unseen, is_status, seen_stored}
use Rattle.w83782d_claims.proofs.sample.Seen.{answer_same, latched_1, latched_2}
use Rattle.w83782d_replay.specs.Replay.{opened_of, apply_of}
use Rattle.w83782d_events.specs.Latched.{chassis_bit, all_but_chassis, event_latches, cleared_by_write}
use Rattle.w83782d_events.specs.Latched.{cleared_by_read, event_clears, SameButStatus, StatusClaims}

-- 42h as it is shown: the latch as bit 4, the cell's bits 5 and 3-0
abbrev shown42 : Bool → ℕ → ℕ → ℕ
shown42 on x j = choose (eqb j 4) (choose on 1 0) (choose (eqb j 5 || ltb j 4) x 0)

-- cleared by a read or a reset, the latch cleared, the latch set
clear42 : (on : Bool) (j x : ℕ) → j < 8 → x < 2 → shown42 on 0 j ≡ bit_after (shown42 on x j) 0b1110_1111 0 j
unfolding bit
clear42 true = same_below2 8 2 (λ j x. shown42 true 0 j) (λ j x. bit_after (shown42 true x j) 0b1110_1111 0 j) tt
clear42 false = same_below2 8 2 (λ j x. shown42 false 0 j) (λ j x. bit_after (shown42 false x j) 0b1110_1111 0 j) tt

close42 : (on : Bool) (j x : ℕ) → j < 8 → x < 2 → shown42 false x j ≡ bit_after (shown42 on x j) 0b0001_0000 0 j
unfolding bit
close42 true = same_below2 8 2 (λ j x. shown42 false x j) (λ j x. bit_after (shown42 true x j) 0b0001_0000 0 j) tt
close42 false = same_below2 8 2 (λ j x. shown42 false x j) (λ j x. bit_after (shown42 false x j) 0b0001_0000 0 j) tt

open42 : (on : Bool) (j x : ℕ) → j < 8 → x < 2 → shown42 true x j ≡ bit_after (shown42 on x j) 0 0b0001_0000 j
unfolding bit
open42 true = same_below2 8 2 (λ j x. shown42 true x j) (λ j x. bit_after (shown42 true x j) 0 0b0001_0000 j) tt
open42 false = same_below2 8 2 (λ j x. shown42 true x j) (λ j x. bit_after (shown42 false x j) 0 0b0001_0000 j) tt

-- a sample's flags: none is the chassis bit
sample42 : (on a b c d f : Bool) (x j : ℕ) → j < 8
    → shown42 on (max x (flag_of (get_or (a ∷ b ∷ c ∷ d ∷ false ∷ f ∷ []) j false))) j
    ≡ max (choose (is_on 0 j) 0 (shown42 on x j)) (flag_of (get_or (a ∷ b ∷ c ∷ d ∷ false ∷ f ∷ []) j false))
unfolding bit
sample42 on a b c d f x zero h = refl
sample42 on a b c d f x (suc zero) h = refl
sample42 on a b c d f x (suc (suc zero)) h = refl
sample42 on a b c d f x (suc (suc (suc zero))) h = refl
sample42 on a b c d f x (suc (suc (suc (suc zero)))) h = max_none (choose on 1 0)
sample42 on a b c d f x (suc (suc (suc (suc (suc zero))))) h = refl
sample42 on a b c d f x (suc (suc (suc (suc (suc (suc zero)))))) h = refl
sample42 on a b c d f x (suc (suc (suc (suc (suc (suc (suc zero))))))) h = refl
sample42 on a b c d f x (suc (suc (suc (suc (suc (suc (suc (suc j)))))))) h = absurd (omega arith)

-- ---- both bytes, from the cells and the latch
shown41 : (s : State) → shown_in s interrupt_status1 ≡ cell_in s interrupt_status1
shown41 s = (frames.shown s).other interrupt_status1 refl

-- the two bytes that a state shows after an event that clears and latches
abbrev First : State → State → StatusBits → StatusBits → Type 0
First s t cleared latched =
    (j : ℕ) → j < 8 → bit (shown_in t interrupt_status1) j
    ≡ bit_after (bit (shown_in s interrupt_status1) j) cleared.first latched.first j

abbrev Second : State → State → StatusBits → StatusBits → Type 0
Second s t cleared latched =
    (j : ℕ) → j < 8 → bit (shown_in t interrupt_status2) j
    ≡ bit_after (bit (shown_in s interrupt_status2) j) cleared.second latched.second j

abbrev LeavesStatus : State → State → StatusBits → StatusBits → Type 0
LeavesStatus s t cleared latched = First s t cleared latched × Second s t cleared latched

same_shown : (s t : State) → shown_in t interrupt_status1 ≡ shown_in s interrupt_status1
    → shown_in t interrupt_status2 ≡ shown_in s interrupt_status2 → LeavesStatus s t no_bits no_bits
same_shown s t p q = (
  λ j h. ap (λ (b : ℕ). bit b j) p ∙ bit_kept (bit (shown_in s interrupt_status1) j) j,
  λ j h. ap (λ (b : ℕ). bit b j) q ∙ bit_kept (bit (shown_in s interrupt_status2) j) j,
)

same_leaves : (s t : State) → t ≡ s → LeavesStatus s t no_bits no_bits
same_leaves s t e = rw e (same_shown s s refl refl)

-- 41h: kept or cleared
first_kept : (s t : State) → cell_in t interrupt_status1 ≡ cell_in s interrupt_status1 → First s t no_bits no_bits
first_kept s t e j h =
    ap (λ (b : ℕ). bit b j) (shown41 t ∙ e ∙ sym (shown41 s)) ∙ bit_kept (bit (shown_in s interrupt_status1) j) j

first_cleared : (s t : State) (b : ℕ) → cell_in t interrupt_status1 ≡ 0 → First s t (status_bits 0b1111_1111 b) no_bits
first_cleared s t b e j h =
    ap (λ (b : ℕ). bit b j) (shown41 t ∙ e) ∙ bit_none j ∙ bit_cleared (bit (shown_in s interrupt_status1) j) j h

-- 42h: by the latch and the cell's bit
second_by : (s t : State) (cleared latched : ℕ) → ((j : ℕ) → j < 8
    → shown42 t.latches.chassis (bit (cell_in t interrupt_status2) j) j
    ≡ bit_after (shown42 s.latches.chassis (bit (cell_in s interrupt_status2) j) j) cleared latched j)
    → Second s t (status_bits 0 cleared) (status_bits 0 latched)
second_by s t cleared latched f j h =
    (frames.shown t).status2 j h ∙ f j h
    ∙ ap (λ (b : ℕ). bit_after b cleared latched j) (sym ((frames.shown s).status2 j h))

second_kept : (s t : State) → cell_in t interrupt_status2 ≡ cell_in s interrupt_status2
    → t.latches.chassis ≡ s.latches.chassis → Second s t no_bits no_bits
second_kept s t e l =
    second_by s t 0 0
    (λ j h. rw (e, l) (bit_kept (shown42 s.latches.chassis (bit (cell_in s interrupt_status2) j) j) j))

second_cleared : (s t : State) → cell_in t interrupt_status2 ≡ 0 → t.latches.chassis ≡ s.latches.chassis
    → Second s t (status_bits 0 0b1110_1111) no_bits
second_cleared s t e l =
    second_by s t 0b1110_1111 0
    (λ j h. rw (e, l)
    (ap (λ (x : ℕ). shown42 s.latches.chassis x j) (bit_none j)
    ∙ clear42 s.latches.chassis j (bit (cell_in s interrupt_status2) j) h (bit_lt (cell_in s interrupt_status2) j)))

second_closed : (s t : State) → cell_in t interrupt_status2 ≡ cell_in s interrupt_status2 → t.latches.chassis ≡ false
    → Second s t chassis_bit no_bits
second_closed s t e l =
    second_by s t 0b0001_0000 0
    (λ j h. rw (e, l)
    (close42 s.latches.chassis j (bit (cell_in s interrupt_status2) j) h (bit_lt (cell_in s interrupt_status2) j)))

second_opened : (s t : State) → cell_in t interrupt_status2 ≡ cell_in s interrupt_status2 → t.latches.chassis ≡ true
    → Second s t no_bits chassis_bit
second_opened s t e l =
    second_by s t 0 0b0001_0000
    (λ j h. rw (e, l)
    (open42 s.latches.chassis j (bit (cell_in s interrupt_status2) j) h (bit_lt (cell_in s interrupt_status2) j)))

-- ---- a read
status_present : (present_at interrupt_status1 ≡ true) × (present_at interrupt_status2 ≡ true)
unfolding present_at rows
status_present = (refl, refl)

module _ (s t : State) (c : ℕ) (l : Leaves s t c) where
  read_by : Dec (c ≡ interrupt_status1) → Dec (c ≡ interrupt_status2) → LeavesStatus s t (cleared_by_read c) no_bits
  read_by (yes p) d =
      rw p (
        first_cleared s t 0 (l.cells interrupt_status1 ∙ rw p),
        second_kept s t (l.cells interrupt_status2 ∙ rw p) l.chassis,
      )
  read_by (no n) (yes q) =
      rw q (
        first_kept s t (l.cells interrupt_status1 ∙ rw q),
        second_cleared s t (l.cells interrupt_status2 ∙ rw q) l.chassis,
      )
  read_by (no n) (no m) =
      let p = ne_eqb c interrupt_status1 n in
      let q = ne_eqb c interrupt_status2 m in
      simp (p, q) (
        first_kept s t (l.cells interrupt_status1 ∙ simp (p, q, and-false)),
        second_kept s t (l.cells interrupt_status2 ∙ simp (p, q, and-false)) l.chassis,
      )

-- a read that is refused is of neither
read_kept : (c : ℕ) → present_at c ≢ true → cleared_by_read c ≡ no_bits
read_kept c n =
    simp (
      ne_eqb c interrupt_status1 (λ e. n (ap present_at e ∙ status_present.0)),
      ne_eqb c interrupt_status2 (λ e. n (ap present_at e ∙ status_present.1)),
    )

read_leaves : (s : State) (i : ℕ) → Whole s
    → LeavesStatus s (read_of s i).state (cleared_by_read (reach_of s.registers i)) no_bits
read_leaves s i w = go (ℕ_discrete (read_of s i).answer 0)
  where
    go : Dec ((read_of s i).answer ≡ 0)
        → LeavesStatus s (read_of s i).state (cleared_by_read (reach_of s.registers i)) no_bits
    go (yes a) =
        let c = reach_of s.registers i in
        read_by s (read_of s i).state c (frames.leaves s i w.count a) (ℕ_discrete c interrupt_status1)
        (ℕ_discrete c interrupt_status2)
    go (no n) =
        rw (read_kept (reach_of s.registers i) (λ e. n (reached.read_answer s i ∙ rw e)))
        (same_leaves s (read_of s i).state ((reached.refused s i 0).read n))

-- ---- a write
status_refused : (write_answer interrupt_status1 ≡ 2) × (write_answer interrupt_status2 ≡ 2)
unfolding write_answer present_at writable_at rows
status_refused = (refl, refl)

status_reset : (kept_at interrupt_status1 ≡ false) × (kept_at interrupt_status2 ≡ false)
unfolding kept_at kept_by_reset
status_reset = (refl, refl)

status_none : (power_on_at interrupt_status1 ≡ 0) × (power_on_at interrupt_status2 ≡ 0)
unfolding power_on_at rows
status_none = (refl, refl)

same_write : (s : State) (i k v : ℕ) → reach_of s.registers i ≡ reach_of s.registers k
    → write_of s i v ≡ write_of s k v
unfolding write_of
same_write s i k v e = ap (λ (c : ℕ). written_at s c v) e

reset_leaves : (s t : State) → Resets s t → LeavesStatus s t all_but_chassis no_bits
reset_leaves s t r = (
  first_cleared s t all_but_chassis.second (r.restored interrupt_status1 (lit< tt) status_reset.0 ∙ status_none.0),
  second_cleared s t (r.restored interrupt_status2 (lit< tt) status_reset.1 ∙ status_none.1)
      (ap (λ (l : Latches). l.chassis) r.latches),
)

no_command : (a b x : Bool) → (a && x) ≡ false → (b && x) ≡ false → ((a || b) && x) ≡ false
no_command true b x p q = p
no_command false b x p q = q

module _ (s : State) (i v : ℕ) (w : Whole s) where
  abbrev c : ℕ
  c = reach_of s.registers i

  abbrev t : State
  t = (write_of s i v).state

  reset_by : c ≡ configuration → is_on v 7 ≡ true → LeavesStatus s t all_but_chassis no_bits
  reset_by e on =
      subst (λ (y : Written). LeavesStatus s y.state all_but_chassis no_bits)
      (sym (same_write s i 0x40 v (e ∙ sym (register_40.cell (bank_of s.registers)))))
      (reset_leaves s (write_of s 0x40 v).state (frames.reset s v on).1)

  closed_by : c ≡ chassis_clear → is_on v 7 ≡ true → LeavesStatus s t chassis_bit no_bits
  closed_by e on =
      let u =
      state s.registers
      (latches (s.latches.chassis && is_off v 7) s.latches.sensor1 s.latches.remote) in
      subst (λ (y : Written). LeavesStatus s y.state chassis_bit no_bits)
      (sym (same_write s i 0x46 v (e ∙ sym (register_46.cell (bank_of s.registers))) ∙ frames.cleared s v w))
      (first_kept s u refl, second_closed s u refl (rw (bit_on v 7 on, and-false)))

  stored_by : (write_of s i v).answer ≡ 0 → is_command c v ≡ false → LeavesStatus s t no_bits no_bits
  stored_by a n =
      let shows = (frames.stored s i v w.count a n).1 in
      let z = sym (reached.write_answer_law s i v) ∙ a in
      same_shown s t
      (shows.shown interrupt_status1 (λ e. omega (arith, ap write_answer e, status_refused.0, z))
      (λ _ e. omega (arith, e)))
      (shows.shown interrupt_status2 (λ e. omega (arith, ap write_answer e, status_refused.1, z))
      (λ _ e. omega (arith, e)))

  write_by : (a : Dec ((write_of s i v).answer ≡ 0)) (p q : Bool) → (eqb c configuration && is_on v 7) ≡ p
      → (eqb c chassis_clear && is_on v 7) ≡ q
      → LeavesStatus s t (cleared_by_write c v) no_bits
  write_by d true q e f =
      simp e (reset_by (eqb-true c configuration (and_left (eqb c configuration) (is_on v 7) e))
      (and_right (eqb c configuration) (is_on v 7) e))
  write_by d false true e f =
      simp (e, f) (closed_by (eqb-true c chassis_clear (and_left (eqb c chassis_clear) (is_on v 7) f))
      (and_right (eqb c chassis_clear) (is_on v 7) f))
  write_by (yes a) false false e f =
      simp (e, f) (stored_by a (no_command (eqb c configuration) (eqb c chassis_clear) (is_on v 7) e f))
  write_by (no n) false false e f = simp (e, f) (same_leaves s t ((reached.refused s i v).write n))

  write_leaves : LeavesStatus s t (cleared_by_write c v) no_bits
  write_leaves =
      write_by (ℕ_discrete (write_of s i v).answer 0) (eqb c configuration && is_on v 7)
      (eqb c chassis_clear && is_on v 7) refl refl

-- ---- a sample
module _ (s : State) (x : Readings) where
  abbrev stored : List ℕ
  stored = stored_readings s.registers x

  accepted_bits : (sample_of s x).answer ≡ 0
      → latched_of s x
      ≡ status_bits (latched_byte stored s.latches first_byte) (latched_byte stored s.latches second_byte)
  unfolding latched_of
  accepted_bits a = simp (eq-eqb (sample_answer s.registers x) 0 (sym (sample_answer_law s x) ∙ a))

  refused_bits : (sample_of s x).answer ≢ 0 → latched_of s x ≡ no_bits
  unfolding latched_of
  refused_bits n = simp (ne_eqb (sample_answer s.registers x) 0 (λ z. n (sample_answer_law s x ∙ z)))

  first_flags : (sample_of s x).answer ≡ 0 → (j : ℕ)
      → bit (latched_of s x).first j ≡ flag_at (latched_by stored s.latches) first_byte j
  first_flags a j =
      ap (λ (b : StatusBits). bit b.first j) (accepted_bits a)
      ∙ word_bit (map (latched_by stored s.latches) first_byte) j

  second_flags : (sample_of s x).answer ≡ 0 → (j : ℕ)
      → bit (latched_of s x).second j ≡ flag_at (latched_by stored s.latches) second_byte j
  second_flags a j =
      ap (λ (b : StatusBits). bit b.second j) (accepted_bits a)
      ∙ word_bit (map (latched_by stored s.latches) second_byte) j

  module _ (w : length s.registers ≡ cells) where
    sampled_first : (sample_of s x).answer ≡ 0 → First s (after s x) no_bits (latched_of s x)
    sampled_first a j h =
        ap (λ (b : ℕ). bit b j) (shown41 (after s x))
        ∙ (latched_bit s x w a j).0
        ∙ ap₂ max (ap (λ (b : ℕ). bit b j) (sym (shown41 s))) (sym (first_flags a j))
        ∙ bit_latched (bit (shown_in s interrupt_status1) j) (latched_of s x).first j

    sampled_second : (sample_of s x).answer ≡ 0 → Second s (after s x) no_bits (latched_of s x)
    sampled_second a j h =
        (frames.shown (after s x)).status2 j h
        ∙ ap₂ (λ (on : Bool) (b : ℕ). shown42 on b j) (frame s x).chassis (latched_bit s x w a j).1
        ∙ sample42 s.latches.chassis _ _ _ _ _ (bit (cell_in s interrupt_status2) j) j h
        ∙ ap₂ (λ (b y : ℕ). max (choose (is_on 0 j) 0 b) y) (sym ((frames.shown s).status2 j h)) (sym (second_flags a j))

    sample_leaves : LeavesStatus s (after s x) no_bits (latched_of s x)
    sample_leaves = go (ℕ_discrete (sample_of s x).answer 0)
      where
        go : Dec ((sample_of s x).answer ≡ 0) → LeavesStatus s (after s x) no_bits (latched_of s x)
        go (yes a) = (sampled_first a, sampled_second a)
        go (no n) = rw (refused_bits n) (same_leaves s (after s x) (refused_state s x n))

-- ---- set already or not
module _ (s t : State) (x : Readings) (w : length s.registers ≡ cells) (e : SameButStatus s t) where
  other : (c : ℕ) → is_status c ≡ false → cell_in t c ≡ cell_in s c
  other c n = go (eqb c interrupt_status1) (eqb c interrupt_status2) refl refl n
    where
      go : (p q : Bool) → eqb c interrupt_status1 ≡ p → eqb c interrupt_status2 ≡ q → (p || q) ≡ false
          → cell_in t c ≡ cell_in s c
      go true q f g n = absurd (true≢false n)
      go false true f g n = absurd (true≢false n)
      go false false f g n = e.cells c f g

  not_status : (c : ℕ) (f : ℕ → Bool) → f 0b1111_1111 ≡ false → f (unseen c) ≡ true → is_status c ≡ false
  not_status c f n h = go (is_status c) refl
    where
      go : (b : Bool) → is_status c ≡ b → is_status c ≡ false
      go true q = absurd (true≢false (sym h ∙ rw q n))
      go false q = q

  seen : Seen t.registers s.registers
  seen =
      record {
        count = e.count ∙ w;
        count' = w;
        cell = λ c p. other c (not_status c (λ n. eqb n 0) refl (and_right (ltb c cells) (eqb (unseen c) 0) p));
        bits = λ c j h p.
            ap (λ (b : ℕ). bit b j)
            (other c (not_status c (λ n. not (is_on n j)) (ap not (all_on j h))
            (and_right (ltb c cells) (not (is_on (unseen c) j)) p)));
      }

  -- the marks are the same, and the chassis latch is not looked at
  marks : (rs : List ℕ) → (latched_byte rs t.latches first_byte ≡ latched_byte rs s.latches first_byte)
      × (latched_byte rs t.latches second_byte ≡ latched_byte rs s.latches second_byte)
  unfolding status_at
  marks rs = (rw (e.sensor1, e.remote), rw e.remote)

  latched_again : latched_of t x ≡ latched_of s x
  unfolding latched_of
  latched_again =
      let both = seen_stored t.registers s.registers seen x in
      let one =
      latched_1 (stored_readings t.registers x) (stored_readings s.registers x) both t.latches
      ∙ (marks (stored_readings s.registers x)).0 in
      let two =
      latched_2 (stored_readings t.registers x) (stored_readings s.registers x) both t.latches
      ∙ (marks (stored_readings s.registers x)).1 in
      rw (answer_same t.registers s.registers seen x, one, two)

-- the chassis bit whether or not it is set
chassis_again : (s t : State) (x : Readings) → event_latches t Chassis x ≡ event_latches s Chassis x
chassis_again s t x = refl

-- ---- all of it
module _ (s : State) (x : Readings) (w : Whole s) (f : SFits w8 x.sensor1) where
  leaves : (k : Kind) → LeavesStatus s (apply_of s k x).state (event_clears s k x) (event_latches s k x)
  leaves (Write i v) = write_leaves s i v w
  leaves (Read i) = read_leaves s i w
  leaves Sample = sample_leaves s x w.count
  leaves Chassis = (first_kept s (opened_of s).state refl, second_opened s (opened_of s).state refl refl)

  again : (k : Kind) (t : State) → SameButStatus s t → event_latches t k x ≡ event_latches s k x
  again (Write i v) t e = refl
  again (Read i) t e = refl
  again Sample t e = latched_again s t x w.count e
  again Chassis t e = chassis_again s t x

  pub status_claims : (k : Kind) → StatusClaims s k x
  status_claims k =
      record {
        first = (leaves k).0;
        second = (leaves k).1;
        again = again k;
        sampled1 = λ a j.
            first_flags s x a j
            ∙ ap (λ (bs : List Bool). flag_of (get_or bs j false))
            (latched_first s x w.count w.bytes a (fits_byte x f));
        sampled2 = λ a j.
            second_flags s x a j
            ∙ ap (λ (bs : List Bool). flag_of (get_or bs j false))
            (latched_second s x w.count w.bytes a (fits_byte x f));
      }
