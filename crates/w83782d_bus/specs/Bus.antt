-- The bus accesses, looks, power-on and reset on a state of registers and latches (rules A-1, A-2, A-8, M-4 to M-8,
-- I-1, I-7).
use Rattle.std.specs.Prelude.{Bool, ◌&&◌, ◌||◌, List, [], ◌∷◌, ℕ, Result, Ok, Err, eqb, set}
use Rattle.answers.specs.Answers as answers
use Rattle.answers.specs.declared.Refusal.{Refusal}
use Rattle.answers.specs.Refusals.{answer_of}
use Rattle.bits.specs.Bits.{choose, is_on, change, changes}
use Rattle.w83782d_map.specs.Map.{present_at, fits}
use Rattle.w83782d_map.specs.Cells.{configuration, interrupt_status1, interrupt_status2}
use Rattle.w83782d_map.specs.Access.{write_answer, stored_bits}
use Rattle.w83782d_registers.specs.Registers.{reach_of, power_on_registers, reset_registers, shown_of}
use Rattle.w83782d_latches.specs.declared.Latches.{Latches}
use Rattle.w83782d_latches.specs.Effects.{power_on_latches, written_latches, read_latches}
use Rattle.w83782d_bus.specs.declared.Outcome.{Outcome}

-- ---- the state
pub record State : Type 0 where
  pub registers : List ℕ
  pub latches : Latches

abbrev pub state : List ℕ → Latches → State
state rs l = record { registers = rs; latches = l }

-- ---- power-on and reset

abbrev pub power_on : State
power_on = state power_on_registers power_on_latches

-- ---- a write

-- M-4: each writable bit gets the byte's bit, every other keeps its value; M-8: a reset apart
unfoldable pub written_registers : List ℕ → ℕ → ℕ → List ℕ
written_registers rs c v =
    choose (eqb c configuration && is_on v 7) (reset_registers rs) (changes rs (change c (stored_bits c) v ∷ []))

pub record Written : Type 0 where
  pub state : State
  pub answer : ℕ

abbrev pub written : State → ℕ → Written
written s a = record { state = s; answer = a }

abbrev pub written_at : State → ℕ → ℕ → Written
written_at s c v =
    choose (eqb (write_answer c) 0)
    (written (state (written_registers s.registers c v) (written_latches s.latches c v)) 0)
    (written s (write_answer c))

unfoldable pub write_of : State → ℕ → ℕ → Written
write_of s i v = written_at s (reach_of s.registers i) v

-- ---- I-7, a look: what a read answers and shows, by the registers and the chassis latch alone
pub record Looked : Type 0 where
  pub answer : ℕ
  pub byte : ℕ

abbrev pub looked : ℕ → ℕ → Looked
looked a b = record { answer = a; byte = b }

unfoldable pub looked_of : List ℕ → Bool → ℕ → Looked
looked_of rs chassis i =
    choose (present_at (reach_of rs i)) (looked 0 (shown_of rs chassis (reach_of rs i))) (looked answers.absent 0)

pub record Read : Type 0 where
  pub state : State
  pub answer : ℕ
  pub byte : ℕ

abbrev pub read : State → ℕ → ℕ → Read
read s a b = record { state = s; answer = a; byte = b }

-- what a look gives, with the state that is left
abbrev pub leaving : State → Looked → Read
leaving s k = read s k.answer k.byte

-- a look leaves the state as it was
abbrev pub look_of : State → ℕ → Read
look_of s i = leaving s (looked_of s.registers s.latches.chassis i)

-- ---- a read is a look and an effect

-- I-1: reading 41h or 42h clears it; the chassis bit is the latch, and stays
unfoldable pub read_registers : List ℕ → ℕ → List ℕ
read_registers rs c = choose (eqb c interrupt_status1 || eqb c interrupt_status2) (set rs c 0) rs

abbrev pub read_at : State → ℕ → Read
read_at s c =
    choose (present_at c)
    (read (state (read_registers s.registers c) (read_latches s.registers s.latches c)) 0
    (shown_of s.registers s.latches.chassis c))
    (read s answers.absent 0)

unfoldable pub read_of : State → ℕ → Read
read_of s i = read_at s (reach_of s.registers i)

-- ---- in place: a slice that is not the registers' 112 cells is refused as 8, and stays. decision D-01
-- what the call gives where the slice fits, else 8 with the registers and these latches as they were
abbrev pub sized : List ℕ → Latches → Written → Written
sized rs l w = choose (fits rs) w (written (state rs l) answers.wrong_length)

abbrev pub sized_read : List ℕ → Latches → Read → Read
sized_read rs l r = choose (fits rs) r (read (state rs l) answers.wrong_length 0)

abbrev pub looked_in : List ℕ → Bool → ℕ → Looked
looked_in rs chassis i = choose (fits rs) (looked_of rs chassis i) (looked answers.wrong_length 0)

abbrev pub written_in : List ℕ → ℕ → ℕ → List ℕ
written_in rs c v = choose (fits rs) (written_registers rs c v) rs

abbrev pub read_in : List ℕ → ℕ → List ℕ
read_in rs c = choose (fits rs) (read_registers rs c) rs

-- the byte of an answer, 0 where the call is refused
abbrev pub byte_of : Result ℕ Refusal → ℕ
byte_of (Ok b) = b
byte_of (Err _) = 0

abbrev pub looked_as : Result ℕ Refusal → Looked
looked_as r = looked (answer_of r) (byte_of r)

-- what a function left in the slice, with what it returned
abbrev pub outcome_in : {A : Type 0} → List ℕ → Outcome A → Written
outcome_in rs o = written (state rs o.latches) (answer_of o.answer)

abbrev pub read_outcome_in : List ℕ → Outcome ℕ → Read
read_outcome_in rs o = read (state rs o.latches) (answer_of o.answer) (byte_of o.answer)
