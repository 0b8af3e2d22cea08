-- A small machine of two fans, no chip's, that crate `in_force`'s claim is held against: the fans' divisors share
-- a cell, one call is none that a plan knows, and one rewrites several cells. Cell 0 has start in bit 0 and reset
-- in bit 7, 1 and 2 the limits, 3 the divisors (fan 1 in bits 2-0, fan 2 in 6-4), 4 the real-time bits.
use Rattle.std.specs.Prelude.{Bool, ◌&&◌, List, [], ◌∷◌, ◌++◌, ℕ, suc, ◌-◌, eqb, ltb, get_or, set}
use Rattle.answers.specs.Answers as answers
use Rattle.bits.specs.Bits.{choose, bit, is_on, word, Change, change, changes, is_beyond}
use Rattle.bits.specs.declared.Bit.{Bit}
use Rattle.bits.specs.declared.Bit.TheVariants.{B0, B1, B2, B4, B5, B6}
use Rattle.bits.specs.Fields.{digits_of}
use Rattle.bits.specs.declared.fields.Place.{Place}
use Rattle.fan.specs.Count.{value_of}
use Rattle.fan.specs.Plan.{rings_at, plan_answer}
use Rattle.fan.specs.Search.{plan_of}
use Rattle.fan_settings.specs.Settings.{Fan, fan_at, limit_in, divisor_in, planned_registers}
use Rattle.in_force.specs.Chip as chip
use Rattle.in_force.specs.Chip.{Kind, reset, writing, planning, sampling, other, Chip}

pub record State : Type 0 where
  pub registers : List ℕ
  pub looks : ℕ

abbrev pub state : List ℕ → ℕ → State
state rs n = record { registers = rs; looks = n }

abbrev pub place : Bit → Place
place b = record { cell = 3; bit = b }

abbrev pub fan_of : ℕ → Fan
fan_of f = fan_at f (choose (eqb f 1) (place B0 ∷ place B1 ∷ place B2 ∷ []) (place B4 ∷ place B5 ∷ place B6 ∷ []))

-- the bits that a write stores
abbrev pub mask_at : ℕ → ℕ
mask_at k = choose (eqb k 0) 0x01 (choose (eqb k 3) 0x77 0xFF)

abbrev pub power_on : List ℕ
power_on = 1 ∷ 255 ∷ 255 ∷ 0 ∷ 0 ∷ []

-- ---- the calls
pub data Call : Type 0 where
  write : (cell value : ℕ) → Call
  look : Call
  sample : (first second : ℕ) → Call
  set_plan : (fan speed : ℕ) → Call
  -- both limits, and the three bits k of each divisor
  put_back : (first second k₁ k₂ : ℕ) → Call

abbrev pub count_of : ℕ → ℕ → ℕ → ℕ
count_of a b f = choose (eqb f 1) a b

abbrev pub is_reset : ℕ → ℕ → Bool
is_reset k v = eqb k 0 && is_on v 7

-- a fan is slow
abbrev pub slow : List ℕ → ℕ → ℕ → Bool
slow rs f u = rings_at (value_of (divisor_in rs (fan_of f))) (limit_in rs (fan_of f)) u

abbrev pub back : ℕ → ℕ → ℕ → ℕ → List Change
back a b k₁ k₂ = change 1 0xFF a ∷ change 2 0xFF b ∷ (digits_of (fan_of 1).places k₁ ++ digits_of (fan_of 2).places k₂)

abbrev pub registers_after : List ℕ → Call → List ℕ
registers_after rs (write k v) = choose (is_reset k v) power_on (changes rs (change k (mask_at k) v ∷ []))
registers_after rs look = rs
registers_after rs (sample a b) = set rs 4 (word (slow rs 1 a ∷ slow rs 2 b ∷ []))
registers_after rs (set_plan f w) = planned_registers rs (fan_of f) (plan_of w)
registers_after rs (put_back a b k₁ k₂) = changes rs (back a b k₁ k₂)

-- cells from 4 on are not written, and samples wait for start
abbrev pub answer_to : State → Call → ℕ
answer_to s (write k v) = choose (ltb k 4) 0 answers.read_only
answer_to s look = 0
answer_to s (sample a b) = choose (is_on (get_or s.registers 0 0) 0) 0 answers.stopped
answer_to s (set_plan f w) = choose (is_beyond 2 f) answers.no_channel (plan_answer (plan_of w))
answer_to s (put_back a b k₁ k₂) = 0

abbrev pub looks_after : ℕ → Call → ℕ
looks_after n look = suc n
looks_after n (write k v) = n
looks_after n (sample a b) = n
looks_after n (set_plan f w) = n
looks_after n (put_back a b k₁ k₂) = n

unfoldable pub after : State → Call → State
after s c = choose (eqb (answer_to s c) 0) (state (registers_after s.registers c) (looks_after s.looks c)) s

-- ---- the machine as a chip
abbrev pub kind_of : Call → Kind
kind_of (write k v) = choose (is_reset k v) reset (writing (change k 0xFF v ∷ []))
kind_of look = other
kind_of (sample a b) = sampling (count_of a b)
kind_of (set_plan f w) = planning f w
kind_of (put_back a b k₁ k₂) = writing (back a b k₁ k₂)

abbrev pub machine : Chip State Call
machine =
    record {
      cells = 5;
      fans = 2;
      fan = fan_of;
      registers = λ s. s.registers;
      instead = λ s rs. state rs s.looks;
      restored = λ rs. power_on;
      readings = λ s. get_or s.registers 4 0 ∷ [];
      real_time_bit = λ s f. bit (get_or s.registers 4 0) (f - 1);
      step = after;
      answer = answer_to;
      kind = kind_of;
    }

abbrev pub AlarmRings : Type 0
AlarmRings = chip.AlarmRings machine
