-- What an access to a cell answers and what a write to it stores (rules A-1, A-2, M-4, M-5).
use Rattle.std.specs.Prelude.{◌||◌, ℕ, eqb}
use Rattle.std.specs.Int.Bits.{bit_and}
use Rattle.answers.specs.Answers as answers
use Rattle.bits.specs.Bits.{choose}
use Rattle.w83782d_map.specs.Map.{present_at, writable_at}
use Rattle.w83782d_map.specs.Cells.{chassis_clear, configuration}

-- ---- answers: 1 before 2

-- A-1: no register there; A-2: no bit of it can be written
unfoldable pub write_answer : ℕ → ℕ
write_answer c = choose (present_at c) (choose (eqb (writable_at c) 0) answers.read_only 0) answers.absent

-- ---- the bits that a write stores

-- bit 7 of 40h and of 46h is a command: it is never stored. decision D-06
abbrev pub stored_bits : ℕ → ℕ
stored_bits c = choose (eqb c configuration || eqb c chassis_clear) (bit_and (writable_at c) 0b0111_1111) (writable_at c)
