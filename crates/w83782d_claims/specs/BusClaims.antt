-- What is claimed of bus accesses, reset and the chassis event, from every state, refused or not.
-- The definitions are those that the contracts cite (Map.antt, Access.antt, Registers.antt, Effects.antt, Bus.antt).
use Rattle.std.specs.Prelude.{◌≡◌, Bool, true, false, ◌&&◌, ◌||◌, List, [], ◌∷◌, ◌≢◌, ◌⊎◌, ℕ, ◌+◌, ◌<◌, ◌≤◌, eqb, ltb, length, get_or}
use Rattle.std.specs.Int.Bits.{bit_and}
use Rattle.bits.specs.Bits.{bit, is_on, choose}
use Rattle.bits.specs.Map.{any, bank, Span, span, among}
use Rattle.sensor.specs.Sensor.{armed}
use Rattle.sensor.specs.declared.Remote.{Remote}
use Rattle.sensor.specs.declared.Mark.TheVariants.{Armed}
use Rattle.w83782d_map.specs.Map.{cells, present_at, writable_at, power_on_at, kept_at}
use Rattle.w83782d_map.specs.Cells.{bank_select, chassis_clear, chip_id, configuration, device_id}
use Rattle.w83782d_map.specs.Cells.{interrupt_status1, interrupt_status2, real_time_status2, vendor_id, vid_fan_divisor}
use Rattle.w83782d_map.specs.Access.{stored_bits}
use Rattle.w83782d_registers.specs.Registers.{bank_of, reach_of, is_command, shown_of}
use Rattle.w83782d_latches.specs.Effects.{latches, remote_of, releases}
use Rattle.w83782d_bus.specs.Bus.{State, state, write_of, read_of}

-- ---- every state of the monitor: 112 cells, each a byte, and any latches
pub record Whole (s : State) : Type 0 where
  pub count : length s.registers ≡ cells
  pub bytes : (c : ℕ) → get_or s.registers c 0 < 256

abbrev pub is_off : ℕ → ℕ → Bool
is_off n j = eqb (bit n j) 0

abbrev pub cell_in : State → ℕ → ℕ
cell_in s k = get_or s.registers k 0

abbrev pub shown_in : State → ℕ → ℕ
shown_in s c = shown_of s.registers s.latches.chassis c

-- sensor 2 or 3
abbrev pub remote_in : State → ℕ → Remote
remote_in s n = remote_of s.latches n

-- ---- answers

-- A-1, span by span
unfoldable pub answers1 : List Span
answers1 =
    -- index below 20h or above 7Fh
    span any 0x00 0x1F
    ∷ span any 0x80 0xFF
    -- reserved index
    ∷ span any 0x3E 0x3F
    ∷ span any 0x45 0x45
    ∷ span any 0x7E 0x7F
    ∷ span (bank 0) 0x50 0x55
    ∷ span (bank 1) 0x57 0x5F
    ∷ span (bank 2) 0x57 0x5F
    ∷ span (bank 4) 0x50 0x58
    ∷ span (bank 4) 0x5B 0x5F
    -- absent bank
    ∷ span (bank 3) 0x50 0x5F
    ∷ span (bank 5) 0x50 0x5F
    ∷ span (bank 6) 0x50 0x5F
    ∷ span (bank 7) 0x50 0x5F
    ∷ []

-- the whole answer: 1 exactly where listed, before 2; a write is answered 2 exactly when the register exists and has no
-- writable bit; a read never
pub record AccessAnswers (s : State) (i v : ℕ) : Type 0 where
  pub write1 : eqb (write_of s i v).answer 1 ≡ among answers1 (bank_of s.registers) i
  pub read1 : eqb (read_of s i).answer 1 ≡ among answers1 (bank_of s.registers) i
  pub write2 : eqb (write_of s i v).answer 2
      ≡ (present_at (reach_of s.registers i) && eqb (writable_at (reach_of s.registers i)) 0)
  pub no_other_write : (write_of s i v).answer < 3
  pub no_other_read : (read_of s i).answer < 2

-- a refused access leaves the whole state, and shows 0
pub record RefusedAccess (s : State) (i v : ℕ) : Type 0 where
  pub write : (write_of s i v).answer ≢ 0 → (write_of s i v).state ≡ s
  pub read : (read_of s i).answer ≢ 0 → (read_of s i).state ≡ s
  pub byte : (read_of s i).answer ≢ 0 → (read_of s i).byte ≡ 0

-- ---- which register is reached

-- 60h-7Fh answers as 20h-3Fh in every respect
abbrev pub Alias : State → ℕ → ℕ → Type 0
Alias s i v = 0x20 ≤ i → i < 0x40 → (write_of s (i + 0x40) v ≡ write_of s i v) × (read_of s (i + 0x40) ≡ read_of s i)

-- for an index outside 50h-5Fh the cell that it reaches, and so its answer, does not depend on the state
abbrev pub Unbanked : ℕ → Type 0
Unbanked i = (i < 0x50) ⊎ (0x5F < i) → (rs rs' : List ℕ) → reach_of rs i ≡ reach_of rs' i

-- each bank can be selected, the absent ones too: a write of 4Eh is accepted, and the bank is then the byte's bits 2-0
pub record BankSelected (s : State) (v : ℕ) : Type 0 where
  pub accepted : (write_of s 0x4E v).answer ≡ 0
  pub selects : bank_of (write_of s 0x4E v).state.registers ≡ bit_and v 0b0000_0111

-- banks 3, 5, 6, 7
abbrev pub is_absent : ℕ → Bool
is_absent b = eqb b 3 || eqb b 5 || eqb b 6 || eqb b 7

-- in these all of 50h-5Fh answers 1, and in no other bank: 56h of banks 0 to 2 is a register, and 59h of bank 4
pub record AbsentBank (s : State) (i v : ℕ) : Type 0 where
  pub absent : is_absent (bank_of s.registers) ≡ true → 0x50 ≤ i → i ≤ 0x5F
      → ((write_of s i v).answer ≡ 1) × ((read_of s i).answer ≡ 1)
  pub others : is_absent (bank_of s.registers) ≡ false
      → (read_of s (choose (eqb (bank_of s.registers) 4) 0x59 0x56)).answer ≡ 0

-- ---- what stays: each latch and mark, by name
pub record SameMarks (s t : State) : Type 0 where
  pub sensor1 : t.latches.sensor1 ≡ s.latches.sensor1
  pub status : (n : ℕ) → 2 ≤ n → n ≤ 3 → (remote_in t n).status ≡ (remote_in s n).status
  pub output : (n : ℕ) → 2 ≤ n → n ≤ 3 → (remote_in t n).output.mark ≡ (remote_in s n).output.mark

pub record SameLatches (s t : State) : Type 0 where
  pub chassis : t.latches.chassis ≡ s.latches.chassis
  pub marks : SameMarks s t
  pub asserted : (n : ℕ) → 2 ≤ n → n ≤ 3 → (remote_in t n).output.asserted ≡ (remote_in s n).output.asserted

-- ---- an accepted write that is neither a reset nor a chassis clear, to the cell c
-- changes only its own register's writable bits (bit 7 of 40h and 46h, a command, is not
-- stored), gives each of those the byte's bit, and leaves each latch and mark
pub record Stores (s t : State) (c v : ℕ) : Type 0 where
  pub elsewhere : (k : ℕ) → k ≢ c → cell_in t k ≡ cell_in s k
  pub kept : (j : ℕ) → j < 8 → is_on (stored_bits c) j ≡ false → bit (cell_in t c) j ≡ bit (cell_in s c) j
  pub given : (j : ℕ) → j < 8 → is_on (stored_bits c) j ≡ true → bit (cell_in t c) j ≡ bit v j
  pub latches : SameLatches s t

-- in what reads show it changes only that register and, after 4Eh, 4Fh and which bank is reached
pub record Shows (s t : State) (c : ℕ) : Type 0 where
  pub bank : c ≢ bank_select → bank_of t.registers ≡ bank_of s.registers
  pub shown : (k : ℕ) → k ≢ c → (c ≡ bank_select → k ≢ vendor_id)
      → shown_in t k ≡ shown_in s k

abbrev pub Stored : State → ℕ → ℕ → Type 0
Stored s i v =
    (write_of s i v).answer ≡ 0 → is_command (reach_of s.registers i) v ≡ false
    → Stores s (write_of s i v).state (reach_of s.registers i) v
    × Shows s (write_of s i v).state (reach_of s.registers i)

-- the chassis clear changes only the latch, and a write of 46h without bit 7 nothing
abbrev pub Cleared : State → ℕ → Type 0
Cleared s v =
    write_of s 0x46 v
    ≡ record {
      state =
          state s.registers (latches (s.latches.chassis && is_off v 7) s.latches.sensor1 s.latches.remote);
      answer = 0;
    }

-- ---- reset, whatever the byte's other bits: the power-on value to everything but 48h,
-- the stored readings and the chassis latch
pub record Resets (s t : State) : Type 0 where
  pub count : length t.registers ≡ cells
  pub kept : (c : ℕ) → c < cells → kept_at c ≡ true → cell_in t c ≡ cell_in s c
  pub restored : (c : ℕ) → c < cells → kept_at c ≡ false → cell_in t c ≡ power_on_at c
  pub latches : t.latches ≡ latches s.latches.chassis Armed (armed ∷ armed ∷ [])

abbrev pub Reset : State → ℕ → Type 0
Reset s v = is_on v 7 ≡ true → ((write_of s 0x40 v).answer ≡ 0) × Resets s (write_of s 0x40 v).state

-- ---- a read changes nothing but 41h or 42h, cleared with the latch kept, and, in
-- interrupt mode, the OVT output of the sensor whose 50h was read
pub record Leaves (s t : State) (c : ℕ) : Type 0 where
  pub cells : (k : ℕ)
      → cell_in t k ≡ choose (eqb k c && (eqb c interrupt_status1 || eqb c interrupt_status2)) 0 (cell_in s k)
  pub chassis : t.latches.chassis ≡ s.latches.chassis
  pub marks : SameMarks s t
  pub asserted : (n : ℕ) → 2 ≤ n → n ≤ 3
      → (remote_in t n).output.asserted ≡ choose (releases s.registers c n) false (remote_in s n).output.asserted

abbrev pub ReadLeaves : State → ℕ → Type 0
ReadLeaves s i = (read_of s i).answer ≡ 0 → Leaves s (read_of s i).state (reach_of s.registers i)

-- ---- what a read shows, from every state

-- 42h and 5Ah: the cell's bits 5, 3-0 and the latch as bit 4
abbrev pub status_bit : State → ℕ → ℕ → ℕ
status_bit s c j =
    choose (eqb j 4) (choose s.latches.chassis 1 0) (choose (eqb j 5 || ltb j 4) (bit (cell_in s c) j) 0)

-- the registers of which a rule says what is shown
abbrev pub has_rule : ℕ → Bool
has_rule c =
    eqb c configuration || eqb c interrupt_status2 || eqb c real_time_status2 || eqb c chassis_clear || eqb c vid_fan_divisor
    || eqb c device_id
    || eqb c vendor_id
    || eqb c chip_id

pub record ShownBytes (s : State) : Type 0 where
  pub read : (i : ℕ) → (read_of s i).answer ≡ 0 → (read_of s i).byte ≡ shown_in s (reach_of s.registers i)
  -- 40h without bit 7
  pub configuration : (j : ℕ) → j < 8
      → bit (shown_in s configuration) j ≡ choose (eqb j 7) 0 (bit (cell_in s configuration) j)
  pub status2 : (j : ℕ) → j < 8 → bit (shown_in s interrupt_status2) j ≡ status_bit s interrupt_status2 j
  pub real_time2 : (j : ℕ) → j < 8 → bit (shown_in s real_time_status2) j ≡ status_bit s real_time_status2 j
  pub clear : shown_in s chassis_clear ≡ 0x00
  -- 47h without bits 3-0
  pub divisor : (j : ℕ) → j < 8 → bit (shown_in s vid_fan_divisor) j ≡ choose (ltb j 4) 0 (bit (cell_in s vid_fan_divisor) j)
  pub device : shown_in s device_id ≡ 0x02
  pub vendor : shown_in s vendor_id ≡ choose (is_on (cell_in s bank_select) 7) 0x5C 0xA3
  pub chip : shown_in s chip_id ≡ 0x30
  pub other : (c : ℕ) → has_rule c ≡ false → shown_in s c ≡ cell_in s c

-- ---- all of it, of one write, of one read and of a chassis event
pub record WriteClaims (s : State) (i v : ℕ) : Type 0 where
  pub answers : AccessAnswers s i v
  pub refused : RefusedAccess s i v
  pub alias : Alias s i v
  pub unbanked : Unbanked i
  pub selected : BankSelected s v
  pub absent : AbsentBank s i v
  pub stored : Stored s i v
  pub cleared : Cleared s v
  pub reset : Reset s v

pub record ReadClaims (s : State) (i : ℕ) : Type 0 where
  -- of both accesses at that index, whatever byte a write has
  pub answers : (v : ℕ) → AccessAnswers s i v
  pub refused : (v : ℕ) → RefusedAccess s i v
  pub alias : (v : ℕ) → Alias s i v
  pub leaves : ReadLeaves s i
  pub shown : ShownBytes s

-- a chassis event changes only the latch
pub record OpenedClaims (s t : State) : Type 0 where
  pub registers : t.registers ≡ s.registers
  pub chassis : t.latches.chassis ≡ true
  pub marks : SameMarks s t
  pub asserted : (n : ℕ) → 2 ≤ n → n ≤ 3 → (remote_in t n).output.asserted ≡ (remote_in s n).output.asserted
