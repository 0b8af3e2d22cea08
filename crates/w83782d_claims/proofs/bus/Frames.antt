-- What each access leaves as it was: a store by the law on changes, a reset by its table, a read by its cases.
-- Assumes nothing.
use mathlib.Core.Path.{◌≡◌, ◌∙◌, ap, sym, refl}
use mathlib.Core.Bool.{Bool, true, false, not, ◌&&◌, ◌||◌, true≢false, and-false, and-true}
use mathlib.Core.List.{List, [], ◌∷◌}
use Prim.Native.Nat.{ℕ, ◌<◌, ◌≤◌, max}
use native.Mathlib.Nat.{mod-eq_of_lt}
use native.Mathlib.Decide.{ℕ_discrete, dec_lt}
use native.Mathlib.Omega.{arith}
use borrow.Author.Tests.{eq-eqb, ne_eqb, eqb-true}
use lib.Bits.{bit_and, and_mask, and_zero_r, or_zero_r}
use lib.Dec.{T, eqb, eqb→eq, ltb, ltb→lt}
use lib.ListN.{length, get_or, set, get_or-eq_default}
use lib.Seq.{get_or-set_same, get_or-set_other, set-get_or, set_out}
use Rattle.bits.specs.Bits.{bit, is_on, choose, merge_of, change, changes}
use Rattle.bits.proofs.BitLaws.{choose_ind, bit_lt, bit_on, bit_off, and_bit, or_bit, merge_kept, merge_given}
use Rattle.bits.proofs.ChangeLaws.{and_left}
use Rattle.bits.proofs.Every.{every_at, every_at2, same_tests}
use Rattle.bits.proofs.Restored as restored
use Rattle.sensor.specs.Sensor.{armed, released_of}
use Rattle.sensor.specs.declared.Remote.{Remote}
use Rattle.w83782d_latches.specs.declared.Latches.{Latches}
use Rattle.w83782d_map.specs.Map.{cells, present_at, writable_at, power_on_at, kept_at, rows}
use Rattle.w83782d_map.specs.Cells.{bank_cell, bank_select, chassis_clear, chip_id, configuration, device_id}
use Rattle.w83782d_map.specs.Cells.{interrupt_status1, interrupt_status2, real_time_status2, vendor_id, vid_fan_divisor}
use Rattle.w83782d_map.specs.Access.{write_answer, stored_bits}
use Rattle.w83782d_claims.proofs.bus.Named.{register_40, register_46}
use Rattle.w83782d_registers.specs.Registers.{reach_of, is_command, is_interrupt, reset_registers, with_chassis, shown_of}
use Rattle.w83782d_latches.specs.Effects.{remote_of, written_latches, read_latches, with_released, releases, opened_latches}
use Rattle.w83782d_bus.specs.Bus.{State, state, written_registers, write_of, read_registers, read_of, Read, read}
use Rattle.w83782d_registers.proofs.Cases.{both}
use Rattle.w83782d_map.proofs.Cells.{answered_cell, present_cell}
use Rattle.w83782d_claims.proofs.bus.Reached.{write_answer_law, read_answer}
use Rattle.w83782d_claims.specs.BusClaims.{Whole, is_off, cell_in, remote_in, shown_in, SameMarks}
use Rattle.w83782d_claims.specs.BusClaims.{SameLatches, Stores, Shows, Stored, Cleared, Reset}
use Rattle.w83782d_claims.specs.BusClaims.{ReadLeaves, ShownBytes, has_rule, OpenedClaims}

-- each stored mask is a byte
small : ℕ → Bool
unfolding writable_at rows
small c = ltb (stored_bits c) 256

pub stored_byte : (c : ℕ) → c < cells → stored_bits c < 256
unfolding small
stored_byte c h = ltb→lt (stored_bits c) 256 (every_at small cells tt c h)

-- ---- nothing moves in the latches
same_marks : (s : State) (rs : List ℕ) (b : Bool)
    → SameMarks s (state rs (record { chassis = b; sensor1 = s.latches.sensor1; remote = s.latches.remote }))
same_marks s rs b = record { sensor1 = refl; status = λ n h k. refl; output = λ n h k. refl }

same_latches : (s : State) (rs : List ℕ) → SameLatches s (state rs s.latches)
same_latches s rs = record { chassis = refl; marks = same_marks s rs s.latches.chassis; asserted = λ n h k. refl }

-- ---- a store
module _ (s : State) (w : length s.registers ≡ cells) (c v : ℕ) (hc : c < cells) where
  abbrev after : State
  after = state (changes s.registers (change c (stored_bits c) v ∷ [])) s.latches

  stores : Stores s after c v
  unfolding changes
  stores =
      record {
        elsewhere = λ k n. get_or-set_other s.registers c k _ 0 n;
        kept =
            λ j hj e. ap (λ (x : ℕ). bit x j) (get_or-set_same s.registers c _ 0 (omega (arith, w)))
            ∙ merge_kept (cell_in s c) (stored_bits c) v j (stored_byte c hc) hj (bit_off (stored_bits c) j e);
        given =
            λ j hj e. ap (λ (x : ℕ). bit x j) (get_or-set_same s.registers c _ 0 (omega (arith, w)))
            ∙ merge_given (cell_in s c) (stored_bits c) v j (stored_byte c hc) hj (bit_on (stored_bits c) j e);
        latches = same_latches s _;
      }

-- the byte shown depends on its cell and, of 4Fh, on 4Eh
pub shown_same : (rs ts : List ℕ) (b : Bool) (k : ℕ) → get_or ts k 0 ≡ get_or rs k 0
    → (k ≡ vendor_id → get_or ts bank_select 0 ≡ get_or rs bank_select 0) → shown_of ts b k ≡ shown_of rs b k
unfolding shown_of
shown_same rs ts b k e f = go (ℕ_discrete k vendor_id)
  where
    go : Dec (k ≡ vendor_id) → shown_of ts b k ≡ shown_of rs b k
    go (yes q) = rw (q, f q)
    go (no n) = simp (ne_eqb k vendor_id n, e)

module _ (s : State) (w : length s.registers ≡ cells) (c v : ℕ) (hc : c < cells) where
  shows : Shows s (after s w c v hc) c
  shows =
      record {
        bank = λ n. ap (λ (x : ℕ). bit_and x 7) ((stores s w c v hc).elsewhere bank_select (λ e. n (sym e)));
        shown = λ k n m.
            shown_same s.registers (after s w c v hc).registers s.latches.chassis k
            ((stores s w c v hc).elsewhere k n)
            (λ q. (stores s w c v hc).elsewhere bank_select (λ e. m (sym e) q));
      }

no_command : (a b x : Bool) → ((a || b) && x) ≡ false → ((a && x) ≡ false) × ((b && x) ≡ false)
no_command true b true e = absurd (true≢false e)
no_command true true false e = (refl, refl)
no_command true false false e = (refl, refl)
no_command false true x e = (refl, e)
no_command false false x e = (refl, refl)

-- an accepted write that is no command stores
write_stores : (s : State) (i v : ℕ) → write_answer (reach_of s.registers i) ≡ 0
    → is_command (reach_of s.registers i) v ≡ false
    → (write_of s i v).state
    ≡ state (changes s.registers (change (reach_of s.registers i) (stored_bits (reach_of s.registers i)) v ∷ []))
    s.latches
unfolding write_of written_registers written_latches
write_stores s i v a n =
    let c = reach_of s.registers i in
    let m = no_command (eqb c configuration) (eqb c chassis_clear) (is_on v 7) n in
    simp (eq-eqb (write_answer c) 0 a, m.0, m.1)

pub stored : (s : State) (i v : ℕ) → length s.registers ≡ cells → Stored s i v
stored s i v w a n =
    let c = reach_of s.registers i in
    let z : write_answer (reach_of s.registers i) ≡ 0 = sym (write_answer_law s i v) ∙ a in
    let hc : reach_of s.registers i < cells = answered_cell c z in
    rw (write_stores s i v z n) (stores s w c v hc, shows s w c v hc)

-- ---- 46h
merge_none : (o v : ℕ) → o < 256 → merge_of o 0 v ≡ o
unfolding merge_of
merge_none o v h = rw (and_zero_r v, or_zero_r) (and_mask o 8 ∙ mod-eq_of_lt h)

changes_46 : (s : State) (v : ℕ) → Whole s → written_registers s.registers chassis_clear v ≡ s.registers
unfolding written_registers changes
changes_46 s v w =
    rw (register_46.stored, merge_none (get_or s.registers chassis_clear 0) v (w.bytes chassis_clear))
    (set-get_or s.registers chassis_clear 0)

off_on : (n j : ℕ) → is_on n j ≡ true → is_off n j ≡ false
off_on n j e = ne_eqb (bit n j) 0 (λ z. absurd (omega (arith, bit_on n j e)))

off_off : (n j : ℕ) → is_on n j ≡ false → is_off n j ≡ true
off_off n j e = eq-eqb (bit n j) 0 (bit_off n j e)

latch_46 : (l : Latches) (v : ℕ) → written_latches l chassis_clear v
    ≡ record { chassis = l.chassis && is_off v 7; sensor1 = l.sensor1; remote = l.remote }
unfolding written_latches
latch_46 l v = go (is_on v 7) refl
  where
    go : (x : Bool) → is_on v 7 ≡ x → written_latches l chassis_clear v
        ≡ record { chassis = l.chassis && is_off v 7; sensor1 = l.sensor1; remote = l.remote }
    go true e = simp (e, off_on v 7 e, and-false)
    go false e = simp (e, off_off v 7 e, and-true)

pub cleared : (s : State) (v : ℕ) → Whole s → Cleared s v
unfolding write_of
cleared s v w = rw (register_46.cell, register_46.answer, changes_46 s v w, latch_46)

-- ---- reset
reset_at : (rs : List ℕ) (c : ℕ) → c < cells
    → get_or (reset_registers rs) c 0 ≡ choose (kept_at c) (get_or rs c 0) (power_on_at c)
unfolding reset_registers
reset_at = restored.reset_at power_on_at kept_at cells

pub reset_count : (rs : List ℕ) → length (reset_registers rs) ≡ cells
unfolding reset_registers
reset_count = restored.reset_count power_on_at kept_at cells

reset_state : (s : State) (v : ℕ) → is_on v 7 ≡ true
    → write_of s 0x40 v
    ≡ record {
      state =
          state (reset_registers s.registers) (Rattle.w83782d_latches.specs.Effects.reset_latches s.latches);
      answer = 0;
    }
unfolding write_of written_registers written_latches
reset_state s v e = rw (register_40.cell, register_40.answer) (simp e)

pub reset : (s : State) (v : ℕ) → Reset s v
reset s v e =
    rw (reset_state s v e) (
      refl,
      record {
        count = reset_count s.registers;
        kept = λ c h k. reset_at s.registers c h ∙ rw k;
        restored = λ c h k. reset_at s.registers c h ∙ rw k;
        latches = refl;
      },
    )

-- ---- a read
read_cells : (rs : List ℕ) (c k : ℕ) → c < length rs
    → get_or (read_registers rs c) k 0
    ≡ choose (eqb k c && (eqb c interrupt_status1 || eqb c interrupt_status2)) 0 (get_or rs k 0)
unfolding read_registers
read_cells rs c k h = go (eqb c interrupt_status1 || eqb c interrupt_status2) (ℕ_discrete k c)
  where
    go : (b : Bool) → Dec (k ≡ c) → get_or (choose b (set rs c 0) rs) k 0 ≡ choose (eqb k c && b) 0 (get_or rs k 0)
    go true (yes q) = rw (q, eq-eqb c c refl) (get_or-set_same rs c 0 0 h)
    go true (no n) = simp (ne_eqb k c n) (get_or-set_other rs c k 0 0 n)
    go false d = simp and-false

-- sensor 2 or 3 after a read of the cell c
abbrev after_read_law : List ℕ → ℕ → ℕ → Remote → Remote
after_read_law rs c n r = choose (releases rs c n) (released_of r) r

-- (past the end there is none, and `armed` takes its place on both sides)
set_remote : (rs : List Remote) (m n : ℕ) → get_or (set rs m (released_of (get_or rs m armed))) n armed
    ≡ choose (eqb n m) (released_of (get_or rs n armed)) (get_or rs n armed)
set_remote rs m n = go (ℕ_discrete n m) (dec_lt m (length rs))
  where
    go : Dec (n ≡ m) → Dec (m < length rs) → get_or (set rs m (released_of (get_or rs m armed))) n armed
        ≡ choose (eqb n m) (released_of (get_or rs n armed)) (get_or rs n armed)
    go (no k) d = simp (ne_eqb n m k) (get_or-set_other rs m n _ armed k)
    go (yes q) (yes h) = rw (q, eq-eqb m m refl) (get_or-set_same rs m _ armed h)
    go (yes q) (no h) =
        rw (
          q,
          eq-eqb m m refl,
          set_out rs m (released_of (get_or rs m armed)) (omega arith),
          get_or-eq_default rs armed {n = m} (omega arith),
        )

-- at most one of the two is released
either : (l : Latches) (x y : Bool) → (x ≡ true → y ≡ false) → (n : ℕ) → 2 ≤ n → n ≤ 3
    → remote_of (choose x (with_released l 2) (choose y (with_released l 3) l)) n
    ≡ choose (choose (eqb n 2) x y) (released_of (remote_of l n)) (remote_of l n)
either l true true o = absurd (true≢false (o refl))
either l true false o =
    both (λ n. remote_of (with_released l 2) n ≡ choose (choose (eqb n 2) true false) (released_of (remote_of l n))
    (remote_of l n)) (set_remote l.remote 0 0) (set_remote l.remote 0 1)
either l false true o =
    both (λ n. remote_of (with_released l 3) n ≡ choose (choose (eqb n 2) false true) (released_of (remote_of l n))
    (remote_of l n)) (set_remote l.remote 1 0) (set_remote l.remote 1 1)
either l false false o =
    both (λ n. remote_of l n
    ≡ choose (choose (eqb n 2) false false) (released_of (remote_of l n)) (remote_of l n)) refl refl

only_one : (rs : List ℕ) (c : ℕ) → releases rs c 2 ≡ true → releases rs c 3 ≡ false
only_one rs c e = rw (eqb-true c (bank_cell 2) (and_left (eqb c (bank_cell 2)) (is_interrupt rs 2) e))

which : (rs : List ℕ) (c n : ℕ) → 2 ≤ n → n ≤ 3 → choose (eqb n 2) (releases rs c 2) (releases rs c 3) ≡ releases rs c n
which rs c = both (λ n. choose (eqb n 2) (releases rs c 2) (releases rs c 3) ≡ releases rs c n) refl refl

read_remote : (rs : List ℕ) (l : Latches) (c n : ℕ) → 2 ≤ n → n ≤ 3
    → remote_of (read_latches rs l c) n ≡ after_read_law rs c n (remote_of l n)
unfolding read_latches
read_remote rs l c n h k =
    either l (releases rs c 2) (releases rs c 3) (only_one rs c) n h k
    ∙ ap (λ (b : Bool). choose b (released_of (remote_of l n)) (remote_of l n)) (which rs c n h k)

-- a release moves no mark
released_status : (b : Bool) (r : Remote) → (choose b (released_of r) r).status ≡ r.status
released_status true r = refl
released_status false r = refl

released_mark : (b : Bool) (r : Remote) → (choose b (released_of r) r).output.mark ≡ r.output.mark
released_mark true r = refl
released_mark false r = refl

released_asserted : (b : Bool) (r : Remote)
    → (choose b (released_of r) r).output.asserted ≡ choose b false r.output.asserted
released_asserted true r = refl
released_asserted false r = refl

read_chassis : (rs : List ℕ) (l : Latches) (c : ℕ)
    → ((read_latches rs l c).chassis ≡ l.chassis) × ((read_latches rs l c).sensor1 ≡ l.sensor1)
unfolding read_latches
read_chassis rs l c =
    choose_ind (λ (m : Latches). (m.chassis ≡ l.chassis) × (m.sensor1 ≡ l.sensor1)) (releases rs c 2) _ _
    (λ _. (refl, refl))
    (λ _. choose_ind (λ (m : Latches). (m.chassis ≡ l.chassis) × (m.sensor1 ≡ l.sensor1)) (releases rs c 3) _ _
    (λ _. (refl, refl)) (λ _. (refl, refl)))

pub read_state_law : (s : State) (i : ℕ) → present_at (reach_of s.registers i) ≡ true
    → read_of s i ≡ read
    (state (read_registers s.registers (reach_of s.registers i))
    (read_latches s.registers s.latches (reach_of s.registers i))) 0 (shown_in s (reach_of s.registers i))
unfolding read_of
read_state_law s i e = simp e

answered_present : (s : State) (i : ℕ) → (read_of s i).answer ≡ 0 → present_at (reach_of s.registers i) ≡ true
answered_present s i a = go (present_at (reach_of s.registers i)) refl
  where
    go : (b : Bool) → present_at (reach_of s.registers i) ≡ b → present_at (reach_of s.registers i) ≡ true
    go true e = e
    go false e = absurd (omega (arith, sym a ∙ read_answer s i ∙ ap (λ (b : Bool). choose b 0 1) e))

pub leaves : (s : State) (i : ℕ) → length s.registers ≡ cells → ReadLeaves s i
leaves s i w a =
    let c = reach_of s.registers i in
    let p : present_at (reach_of s.registers i) ≡ true = answered_present s i a in
    let h : reach_of s.registers i < cells = present_cell c p in
    rw (read_state_law s i p)
    (record {
      cells = λ k. read_cells s.registers c k (omega (arith, w));
      chassis = (read_chassis s.registers s.latches c).0;
      marks =
          record {
            sensor1 = (read_chassis s.registers s.latches c).1;
            status =
                λ n h k. ap (λ (r : Remote). r.status) (read_remote s.registers s.latches c n h k)
                ∙ released_status (releases s.registers c n) (remote_in s n);
            output =
                λ n h k. ap (λ (r : Remote). r.output.mark) (read_remote s.registers s.latches c n h k)
                ∙ released_mark (releases s.registers c n) (remote_in s n);
          };
      asserted =
          λ n h k. ap (λ (r : Remote). r.output.asserted) (read_remote s.registers s.latches c n h k)
          ∙ released_asserted (releases s.registers c n) (remote_in s n);
    })

-- ---- what a read shows: masks of the cell, bit by bit
masked : (x m j : ℕ) → bit (bit_and x m) j ≡ choose (is_on m j) (bit x j) 0
masked x m j =
    choose_ind (λ (y : ℕ). bit (bit_and x m) j ≡ y) (is_on m j) (bit x j) 0
    (λ e. and_bit x m j ∙ rw (bit_on m j e) (omega (arith, bit_lt x j)))
    (λ e. and_bit x m j ∙ rw (bit_off m j e) (omega arith))

mask_40 : (j : ℕ) → j < 8 → is_on 0b0111_1111 j ≡ not (eqb j 7)
unfolding bit
mask_40 = same_tests 8 (λ j. is_on 0b0111_1111 j) (λ j. not (eqb j 7)) tt

mask_47 : (j : ℕ) → j < 8 → is_on 0b1111_0000 j ≡ not (ltb j 4)
unfolding bit
mask_47 = same_tests 8 (λ j. is_on 0b1111_0000 j) (λ j. not (ltb j 4)) tt

-- the latch beside bits 5 and 3-0
latch_bit : Bool → ℕ → ℕ → Bool
latch_bit on j x =
    eqb (max (choose (is_on 0b0010_1111 j) x 0) (bit (choose on 0b0001_0000 0) j))
    (choose (eqb j 4) (choose on 1 0) (choose (eqb j 5 || ltb j 4) x 0))

latch_bits : (on : Bool) (j x : ℕ) → j < 8 → x < 2 → T (latch_bit on j x)
unfolding latch_bit bit
latch_bits true j x hj hx = every_at2 (latch_bit true) 8 2 tt j x hj hx
latch_bits false j x hj hx = every_at2 (latch_bit false) 8 2 tt j x hj hx

with_latch : (b : ℕ) (on : Bool) (j : ℕ) → j < 8
    → bit (with_chassis b on) j ≡ choose (eqb j 4) (choose on 1 0) (choose (eqb j 5 || ltb j 4) (bit b j) 0)
unfolding latch_bit
with_latch b on j hj =
    or_bit (bit_and b 0b0010_1111) (choose on 0b0001_0000 0) j
    ∙ ap (λ (x : ℕ). max x (bit (choose on 0b0001_0000 0) j)) (masked b 0b0010_1111 j)
    ∙ eqb→eq _ _ (latch_bits on j (bit b j) hj (bit_lt b j))

not_choose : (b : Bool) (x y : ℕ) → choose (not b) x y ≡ choose b y x
not_choose true x y = refl
not_choose false x y = refl

or_off : (a b : Bool) → (a || b) ≡ false → (a ≡ false) × (b ≡ false)
or_off true b e = absurd (true≢false e)
or_off false b e = (refl, e)

module _ (s : State) where
  shown_rest : (c : ℕ) → has_rule c ≡ false → shown_in s c ≡ cell_in s c
  unfolding shown_of
  shown_rest c e =
      let p7 =
      or_off (eqb c configuration || eqb c interrupt_status2 || eqb c real_time_status2 || eqb c chassis_clear
      || eqb c vid_fan_divisor || eqb c device_id || eqb c vendor_id) (eqb c chip_id) e in
      let p6 =
      or_off (eqb c configuration || eqb c interrupt_status2 || eqb c real_time_status2 || eqb c chassis_clear
      || eqb c vid_fan_divisor || eqb c device_id) (eqb c vendor_id) p7.0 in
      let p5 =
      or_off (eqb c configuration || eqb c interrupt_status2 || eqb c real_time_status2 || eqb c chassis_clear
      || eqb c vid_fan_divisor) (eqb c device_id) p6.0 in
      let p4 =
      or_off (eqb c configuration || eqb c interrupt_status2 || eqb c real_time_status2 || eqb c chassis_clear)
      (eqb c vid_fan_divisor) p5.0 in
      let p3 =
      or_off (eqb c configuration || eqb c interrupt_status2 || eqb c real_time_status2) (eqb c chassis_clear)
      p4.0 in
      let p2 = or_off (eqb c configuration || eqb c interrupt_status2) (eqb c real_time_status2) p3.0 in
      let p1 = or_off (eqb c configuration) (eqb c interrupt_status2) p2.0 in
      simp (p7.1, p6.1, p5.1, p4.1, p3.1, p2.1, p1.1, p1.0)

  pub shown : ShownBytes s
  unfolding shown_of
  shown =
      record {
        read = λ i a. ap (λ (r : Read). r.byte) (read_state_law s i (answered_present s i a));
        configuration =
            λ j h. masked (cell_in s configuration) 0b0111_1111 j ∙ rw (mask_40 j h) (not_choose (eqb j 7) _ _);
        status2 = λ j h. with_latch (cell_in s interrupt_status2) s.latches.chassis j h;
        real_time2 = λ j h. with_latch (cell_in s real_time_status2) s.latches.chassis j h;
        clear = refl;
        divisor = λ j h. masked (cell_in s vid_fan_divisor) 0b1111_0000 j ∙ rw (mask_47 j h) (not_choose (ltb j 4) _ _);
        device = refl;
        vendor = refl;
        chip = refl;
        other = shown_rest;
      }

-- ---- a chassis event
pub opened : (s : State) → OpenedClaims s (state s.registers (opened_latches s.latches))
opened s =
    record { registers = refl; chassis = refl; marks = same_marks s s.registers true; asserted = λ n h k. refl }
