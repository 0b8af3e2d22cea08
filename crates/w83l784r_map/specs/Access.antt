-- What a bus write to a cell answers and stores, and what a read shows of a cell (rules A-1, A-2, A-9).
use Rattle.std.specs.Prelude.{ℕ, eqb}
use Rattle.std.specs.Int.Bits.{bit_and}
use Rattle.answers.specs.Answers as answers
use Rattle.bits.specs.Bits.{choose}
use Rattle.w83l784r_map.specs.Map.{content_at, column_of, present_at, writable_at, power_on_at, offset_at, identity_at}
use Rattle.w83l784r_map.specs.Cells.{configuration}

-- ---- answers: 1 before 2 and 9

-- A-1: no register there; A-9: an offset, which commissioning alone sets; A-2: no bit of it can be written
unfoldable pub write_answer : ℕ → ℕ
write_answer c =
    choose (present_at c)
    (choose (offset_at c) answers.offset_locked
    (choose (eqb (writable_at c) 0) answers.read_only 0))
    answers.absent

-- ---- the bits that a write stores

-- bit 7 of 40h is a command: it is never stored
unfoldable pub stored_bits : ℕ → ℕ
stored_bits c = choose (eqb c configuration) (bit_and (writable_at c) 0b0111_1111) (writable_at c)

-- ---- what a read shows

-- the bits of the cell that a read shows; every other bit reads 0
unfoldable pub shown_bits : ℕ → ℕ
shown_bits c = column_of (λ r. r.shows) (content_at c)

-- the byte that is shown of a cell that holds a byte: an identity register shows its own always
unfoldable pub shown_byte : ℕ → ℕ → ℕ
shown_byte c byte = choose (identity_at c) (power_on_at c) (bit_and byte (shown_bits c))
