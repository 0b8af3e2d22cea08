-- Which register an access reaches, and its answer: by arithmetic on the index, and for
-- answer 1 by one computed test over every bank and index. Assumes nothing.
use mathlib.Core.Path.{◌≡◌, ◌∙◌, ap, ap₂, sym, refl}
use mathlib.Core.Bool.{Bool, true, false, not, ◌&&◌, ◌||◌, beq, false≢true}
use mathlib.Core.List.{List}
use mathlib.Core.Logic.{◌≢◌, ◌⊎◌, inl, inr}
use Prim.Native.Nat.{ℕ, ◌+◌, ◌-◌, ◌%◌, ◌<◌, ◌≤◌}
use native.Mathlib.Nat.{mod-mod}
use native.Mathlib.Decide.{dec_lt}
use native.Mathlib.Omega.{arith}
use borrow.Author.Tests.{lt-ltb, le-ltb, le-leb, eqb-true, not-false}
use lib.Bits.{bit_and, bit_or, and_mask, mask_lt, and_mod, or_mod, and_zero_r, or_zero_l}
use lib.Dec.{T, eqb, eqb→eq, ltb, lit<}
use lib.ListN.{length, get_or}
use lib.Seq.{get_or-set_same}
use Rattle.bits.specs.Bits.{bit, choose, merge_of, changes}
use Rattle.bits.specs.Map.{among}
use Rattle.bits.proofs.BitLaws.{choose_ind}
use Rattle.bits.proofs.Every.{every_at, every_at2, beq_same}
use Rattle.w83782d_map.specs.Map.{cells, present_at, writable_at}
use Rattle.w83782d_map.specs.Cells.{bank_select}
use Rattle.w83782d_map.specs.Access.{write_answer}
use Rattle.w83782d_claims.proofs.bus.Named.{register_4_e}
use Rattle.w83782d_registers.specs.Registers.{cell_of, bank_of, reach_of}
use Rattle.w83782d_bus.specs.Bus.{State, written_registers, write_of, Written, read_of, Read}
use Rattle.w83782d_map.proofs.Cells.{present, present_rows, present_out}
use Rattle.w83782d_registers.proofs.Cases.{cell_alias, cell_any}
use Rattle.w83782d_claims.specs.BusClaims.{answers1, AccessAnswers, RefusedAccess, Alias}
use Rattle.w83782d_claims.specs.BusClaims.{Unbanked, BankSelected, AbsentBank, is_absent}

-- ---- answers
pub write_answer_law : (s : State) (i v : ℕ) → (write_of s i v).answer ≡ write_answer (reach_of s.registers i)
unfolding write_of
write_answer_law s i v =
    choose_ind (λ (w : Written). w.answer ≡ write_answer (reach_of s.registers i))
    (eqb (write_answer (reach_of s.registers i)) 0) _ _
    (λ e. sym (eqb-true (write_answer (reach_of s.registers i)) 0 e)) (λ _. refl)

pub read_answer : (s : State) (i : ℕ) → (read_of s i).answer ≡ choose (present_at (reach_of s.registers i)) 0 1
unfolding read_of
read_answer s i =
    choose_ind (λ (r : Read). r.answer ≡ choose (present_at (reach_of s.registers i)) 0 1)
    (present_at (reach_of s.registers i)) _ _
    (λ e. simp e) (λ e. simp e)

-- the cell that a bank and an index reach is no register exactly where answer 1 is listed
listed : ℕ → ℕ → Bool
listed b i = beq (not (ltb (cell_of b i) cells && present (cell_of b i))) (among answers1 b i)

listed_all : (b i : ℕ) → b < 8 → i < 256 → T (listed b i)
unfolding listed cell_of bit answers1
listed_all = every_at2 listed 8 256 tt

present_is : (c : ℕ) → (ltb c cells && present c) ≡ present_at c
present_is c = go (dec_lt c cells)
  where
    go : Dec (c < cells) → (ltb c cells && present c) ≡ present_at c
    go (yes h) = simp (lt-ltb c cells h) (present_rows c h)
    go (no n) = simp (le-ltb c cells (omega arith)) (present_out c (omega arith))

absent_listed : (b i : ℕ) → b < 8 → i < 256 → not (present_at (cell_of b i)) ≡ among answers1 b i
unfolding listed
absent_listed b i hb hi =
    ap not (sym (present_is (cell_of b i)))
    ∙ beq_same (not (ltb (cell_of b i) cells && present (cell_of b i))) (among answers1 b i) (listed_all b i hb hi)

bank_lt : (rs : List ℕ) → bank_of rs < 8
bank_lt rs = mask_lt (get_or rs bank_select 0) 3

-- the answers of a cell, by whether it is present and writable
write_1 : (c : ℕ) → eqb (write_answer c) 1 ≡ not (present_at c)
unfolding write_answer
write_1 c =
    choose_ind (λ (a : ℕ). eqb a 1 ≡ not (present_at c)) (present_at c) _ _
    (λ e. choose_ind (λ (a : ℕ). eqb a 1 ≡ not (present_at c)) (eqb (writable_at c) 0) _ _ (λ _. rw e) (λ _. rw e))
    (λ e. rw e)

write_2 : (c : ℕ) → eqb (write_answer c) 2 ≡ (present_at c && eqb (writable_at c) 0)
unfolding write_answer
write_2 c =
    choose_ind (λ (a : ℕ). eqb a 2 ≡ (present_at c && eqb (writable_at c) 0)) (present_at c) _ _
    (λ e. choose_ind (λ (a : ℕ). eqb a 2 ≡ (present_at c && eqb (writable_at c) 0)) (eqb (writable_at c) 0) _ _
    (λ f. rw (e, f)) (λ f. rw (e, f))) (λ e. rw e)

write_3 : (c : ℕ) → write_answer c < 3
unfolding write_answer
write_3 c =
    choose_ind (λ (a : ℕ). a < 3) (present_at c) _ _
    (λ _. choose_ind (λ (a : ℕ). a < 3) (eqb (writable_at c) 0) _ _ (λ _. lit< tt) (λ _. lit< tt)) (λ _. lit< tt)

read_1 : (p : Bool) → eqb (choose p 0 1) 1 ≡ not p
read_1 true = refl
read_1 false = refl

read_2 : (p : Bool) → choose p 0 1 < 2
read_2 true = lit< tt
read_2 false = lit< tt

pub write_below : (s : State) (i v : ℕ) → (write_of s i v).answer < 3
write_below s i v = rw (write_answer_law s i v) (write_3 (reach_of s.registers i))

pub read_below : (s : State) (i : ℕ) → (read_of s i).answer < 2
read_below s i = rw (read_answer s i) (read_2 (present_at (reach_of s.registers i)))

pub answers : (s : State) (i v : ℕ) → i < 256 → AccessAnswers s i v
answers s i v hi =
    let c = reach_of s.registers i in
    let l = absent_listed (bank_of s.registers) i (bank_lt s.registers) hi in
    record {
      write1 = ap (λ (a : ℕ). eqb a 1) (write_answer_law s i v) ∙ write_1 c ∙ l;
      read1 = ap (λ (a : ℕ). eqb a 1) (read_answer s i) ∙ read_1 (present_at c) ∙ l;
      write2 = ap (λ (a : ℕ). eqb a 2) (write_answer_law s i v) ∙ write_2 c;
      no_other_write = write_below s i v;
      no_other_read = read_below s i;
    }

-- ---- a refused access
pub refused : (s : State) (i v : ℕ) → RefusedAccess s i v
unfolding write_of read_of
refused s i v =
    let c = reach_of s.registers i in
    record {
      write =
          choose_ind (λ (w : Written). w.answer ≢ 0 → w.state ≡ s) (eqb (write_answer c) 0) _ _
          (λ _ n. absurd (n refl)) (λ _ n. refl);
      read =
          choose_ind (λ (r : Read). r.answer ≢ 0 → r.state ≡ s) (present_at c) _ _ (λ _ n. absurd (n refl))
          (λ _ n. refl);
      byte =
          choose_ind (λ (r : Read). r.answer ≢ 0 → r.byte ≡ 0) (present_at c) _ _ (λ _ n. absurd (n refl))
          (λ _ n. refl);
    }

-- ---- the cell of an index
cell_same : (b i : ℕ) → 0x20 ≤ i → i < 0x40 → cell_of b (i + 0x40) ≡ cell_of b i
cell_same b i h k =
    sym (cell_alias b (i + 0x40) (omega arith) (omega arith) (omega arith))
    ∙ omega arith
    ∙ cell_any b i h (omega arith) (omega arith) (omega arith)

pub alias : (s : State) (i v : ℕ) → Alias s i v
unfolding write_of read_of
alias s i v h k = (rw (cell_same (bank_of s.registers) i h k), rw (cell_same (bank_of s.registers) i h k))

cell_free : (b b' i : ℕ) → (i < 0x50) ⊎ (0x5F < i) → cell_of b i ≡ cell_of b' i
unfolding cell_of
cell_free b b' i (inl h) = simp (lt-ltb i 0x50 h)
cell_free b b' i (inr h) = simp (le-leb 0x60 i h)

pub unbanked : (i : ℕ) → Unbanked i
unbanked i h rs rs' = cell_free (bank_of rs) (bank_of rs') i h

-- ---- the bank
-- bits 2-0 of a merge by 87h are the byte's
merge_low : (o v : ℕ) → bit_and (merge_of o 0b1000_0111 v) 7 ≡ bit_and v 7
unfolding merge_of
merge_low o v =
    and_mask (merge_of o 0b1000_0111 v) 3
    ∙ or_mod (bit_and o 120) (bit_and v 135) 3
    ∙ ap₂ bit_or (and_mod o 120 3 ∙ and_zero_r (o % 8)) (and_mod v 135 3 ∙ and_mask (v % 8) 3 ∙ mod-mod v 8)
    ∙ or_zero_l (v % 8)
    ∙ sym (and_mask v 3)

written_4_e : (rs : List ℕ) (v : ℕ) → length rs ≡ cells → bank_of (written_registers rs bank_select v) ≡ bit_and v 7
unfolding written_registers changes
written_4_e rs v h =
    rw (register_4_e.stored, get_or-set_same rs bank_select (merge_of (get_or rs bank_select 0) 0b1000_0111 v) 0 (omega arith))
    (merge_low (get_or rs bank_select 0) v)

pub selected : (s : State) (v : ℕ) → length s.registers ≡ cells → BankSelected s v
unfolding write_of
selected s v w =
    record {
      accepted =
          write_answer_law s 0x4E v ∙ ap write_answer (register_4_e.cell (bank_of s.registers)) ∙ register_4_e.answer;
      selects = rw (register_4_e.cell, register_4_e.answer) (written_4_e s.registers v w);
    }

-- in an absent bank there is no cell from 50h to 5Fh
absent_cell : ℕ → ℕ → Bool
absent_cell b k = not (is_absent b) || eqb (cell_of b (0x50 + k)) cells

then : (a b : Bool) → T (not a || b) → a ≡ true → T b
then true b t e = t
then false b t e = absurd (false≢true e)

else : (a b : Bool) → T (a || not b) → a ≡ false → b ≡ false
else true b t e = absurd (false≢true (sym e))
else false true t e = absurd t
else false false t e = refl

absent_from : (b k : ℕ) → b < 8 → k < 16 → is_absent b ≡ true → cell_of b (0x50 + k) ≡ cells
unfolding absent_cell cell_of
absent_from b k hb hk e =
    eqb→eq (cell_of b (0x50 + k)) cells
    (then (is_absent b) (eqb (cell_of b (0x50 + k)) cells) (every_at2 absent_cell 8 16 tt b k hb hk) e)

absent_cell_law : (b i : ℕ) → b < 8 → is_absent b ≡ true → 0x50 ≤ i → i ≤ 0x5F → cell_of b i ≡ cells
absent_cell_law b i hb e h k =
    let n : 0x50 + (i - 0x50) ≡ i = omega arith in
    ap (cell_of b) (sym n) ∙ absent_from b (i - 0x50) hb (omega arith) e

answer_none : write_answer cells ≡ 1
unfolding write_answer present_at
answer_none = refl

present_none : present_at cells ≡ false
unfolding present_at
present_none = refl

-- and in every other one there is a register
other_cell : ℕ → Bool
other_cell b = is_absent b || not (among answers1 b (choose (eqb b 4) 0x59 0x56))

other_listed : (b : ℕ) → b < 8 → is_absent b ≡ false → among answers1 b (choose (eqb b 4) 0x59 0x56) ≡ false
unfolding other_cell answers1
other_listed b hb e = else (is_absent b) (among answers1 b (choose (eqb b 4) 0x59 0x56)) (every_at other_cell 8 tt b hb) e

other_index : (b : ℕ) → choose (eqb b 4) 0x59 0x56 < 256
other_index b = choose_ind (λ (i : ℕ). i < 256) (eqb b 4) 0x59 0x56 (λ _. lit< tt) (λ _. lit< tt)

other_present : (b : ℕ) → b < 8 → is_absent b ≡ false → present_at (cell_of b (choose (eqb b 4) 0x59 0x56)) ≡ true
other_present b hb e =
    not-false (present_at (cell_of b (choose (eqb b 4) 0x59 0x56)))
    (absent_listed b (choose (eqb b 4) 0x59 0x56) hb (other_index b) ∙ other_listed b hb e)

pub absent : (s : State) (i v : ℕ) → AbsentBank s i v
absent s i v =
    let b = bank_of s.registers in
    record {
      absent = λ e h k.
          let c : reach_of s.registers i ≡ cells = absent_cell_law b i (bank_lt s.registers) e h k in
          (write_answer_law s i v ∙ ap write_answer c ∙ answer_none, read_answer s i ∙ rw (c, present_none));
      others =
          λ e. read_answer s (choose (eqb b 4) 0x59 0x56)
          ∙ ap (λ (p : Bool). choose p 0 1) (other_present b (bank_lt s.registers) e);
    }
