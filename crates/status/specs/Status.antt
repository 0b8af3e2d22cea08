-- Two status bytes and their masks: what the masks leave, the count of the set bits, what
-- an event leaves of a byte, and conditions that latch on crossings.
use Rattle.std.specs.Prelude.{Bool, not, ℕ, ◌+◌, ◌-◌, max, eqb}
use Rattle.std.specs.Int.Bits.{bit_and, bit_or, bit_xor}
use Rattle.std.specs.Int.Count.{ones}
use Rattle.bits.specs.Bits.{bit, is_on, choose}
use Rattle.status.specs.declared.StatusBits.{StatusBits}

-- the bits of a status byte that its mask leaves: a mask bit at 1 takes its status bit away
abbrev pub unmasked : ℕ → ℕ → ℕ
unmasked status mask = bit_and status (255 - mask)

-- a status byte before its mask, the first byte's before the second's
abbrev pub any_unmasked : ℕ → ℕ → ℕ → ℕ → Bool
any_unmasked s1 m1 s2 m2 = not (eqb (bit_or (unmasked s1 m1) (unmasked s2 m2)) 0)

abbrev pub alarm_count : ℕ → ℕ → ℕ
alarm_count s1 s2 = ones s1 + ones s2

-- ---- bits of both bytes, such as those that an event latches or clears
abbrev pub status_bits : ℕ → ℕ → StatusBits
status_bits a b = record { first = a; second = b }

abbrev pub no_bits : StatusBits
no_bits = status_bits 0 0

-- bit j of a status byte after an event, by what it was: as it was unless it is cleared, and set where it is latched
abbrev pub bit_after : ℕ → ℕ → ℕ → ℕ → ℕ
bit_after was cleared latched j = max (choose (is_on cleared j) 0 was) (bit latched j)

-- ---- crossings (C-14): of a byte of conditions, those of `crossing` where they differ from the byte before, and every
-- other as it is
unfoldable pub crossed_of : ℕ → ℕ → ℕ → ℕ
crossed_of before crossing now = bit_xor now (bit_and before crossing)
