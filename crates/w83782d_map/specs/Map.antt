-- The register map (rule M-1): a row for each row of the requirements paper, in its order, with the data
-- sheet's power-on values. Lay the paper beside it: each comment names the row that the lines under it carry.
use Rattle.std.specs.Prelude.{Bool, ◌&&◌, List, [], ◌∷◌, ℕ, ◌+◌, ◌-◌, ltb, eqb, length}
use Rattle.bits.specs.Bits.{choose}
use Rattle.bits.specs.Map.{any, bank, Span, span, Row, row, among, is_present, writable_bits, power_on_value}

-- writable: none, all
abbrev none : ℕ
none = 0x00

abbrev all : ℕ
all = 0xFF

-- First and last index, writable bits, power-on. A row from 50h up that names no bank is
-- in bank 0; what is in no row is reserved.
unfoldable pub rows : List Row
rows =
    -- 20h-26h: VCOREA, VINR0, +3.3, +5, +12, -12, -5; writable: none
    row any 0x20 0x26 none 0x00
    -- 27h: sensor 1; writable: none
    ∷ row any 0x27 0x27 none 0x00
    -- 28h-2Ah: fan 1 to 3 count; writable: none
    ∷ row any 0x28 0x2A none 0x00
    -- 2Bh-38h: high, low limit of each voltage in that order; writable: all; power-on: decision D-03
    ∷ row any 0x2B 0x38 all 0x00
    -- 39h, 3Ah: sensor 1 over limit, hysteresis; writable: all
    ∷ row any 0x39 0x3A all 0x00
    -- 3Bh-3Dh: fan 1 to 3 count limit; writable: all
    ∷ row any 0x3B 0x3D all 0x00
    -- 40h: configuration; writable: 7, 6, 3, 1, 0 (bit 7 is a command and not stored, D-06); power-on: decision D-02
    ∷ row any 0x40 0x40 0b1100_1011 0x01
    -- 41h, 42h: interrupt status; writable: none
    ∷ row any 0x41 0x42 none 0x00
    -- 43h, 44h: SMI mask; writable: all; 5-0
    ∷ row any 0x43 0x43 all 0x00
    ∷ row any 0x44 0x44 0b0011_1111 0x00
    -- 46h: chassis clear; writable: 7 (a command and not stored)
    ∷ row any 0x46 0x46 0b1000_0000 0x00
    -- 47h: fan 2 divisor 7-6, fan 1 divisor 5-4; writable: 7-4
    ∷ row any 0x47 0x47 0b1111_0000 0x50
    -- 48h: bus address; writable: 6-0
    ∷ row any 0x48 0x48 0b0111_1111 0x2D
    -- 49h, 4Fh, 58h: identity; writable: none; decision D-05
    ∷ row any 0x49 0x49 none 0x02
    ∷ row any 0x4F 0x4F none 0x00
    ∷ row (bank 0) 0x58 0x58 none 0x30
    -- 4Bh: fan 3 divisor 7-6, rest by section 7.15; writable: by section; decision D-04
    ∷ row any 0x4B 0x4B 0b1111_1100 0x44
    -- 4Ah, 4Ch, 4Dh, 56h, 57h: stored; writable: those its section names and doesn't call reserved; decision D-04
    ∷ row any 0x4A 0x4A all 0x01
    ∷ row any 0x4C 0x4C 0b0101_1100 0x01
    ∷ row any 0x4D 0x4D all 0x15
    ∷ row (bank 0) 0x56 0x56 all 0x00
    ∷ row (bank 0) 0x57 0x57 0b1011_1111 0x80
    -- 4Eh: bank, bit 7 selects the vendor byte; writable: 7, 2-0
    ∷ row any 0x4E 0x4E 0b1000_0111 0x80
    -- 59h: diodes; writable: 6-4
    ∷ row (bank 0) 0x59 0x59 0b0111_0000 0x70
    -- 5Ah, 5Bh, 5Eh, 5Fh: PWM duty; writable: all; decision D-05
    ∷ row (bank 0) 0x5A 0x5B all 0xFF
    ∷ row (bank 0) 0x5E 0x5F all 0xFF
    -- 5Ch: PWM clock; writable: 6-0
    ∷ row (bank 0) 0x5C 0x5C 0b0111_1111 0x11
    -- 5Dh: divisor top bits: fan 3, 2, 1 in 7, 6, 5; writable: 7-5, 3-0
    ∷ row (bank 0) 0x5D 0x5D 0b1110_1111 0x00
    -- bank 1, 2: 50h, 51h: sensor 2, 3 value; writable: none
    ∷ row (bank 1) 0x50 0x51 none 0x00
    ∷ row (bank 2) 0x50 0x51 none 0x00
    -- bank 1, 2: 52h: bit 1 OVT mode; writable: 4, 3, 1, 0
    ∷ row (bank 1) 0x52 0x52 0b0001_1011 0x00
    ∷ row (bank 2) 0x52 0x52 0b0001_1011 0x00
    -- bank 1, 2: 53h, 54h: hysteresis; writable: all; 7
    ∷ row (bank 1) 0x53 0x53 all 0x4B
    ∷ row (bank 1) 0x54 0x54 0b1000_0000 0x00
    ∷ row (bank 2) 0x53 0x53 all 0x4B
    ∷ row (bank 2) 0x54 0x54 0b1000_0000 0x00
    -- bank 1, 2: 55h, 56h: over limit; writable: all; 7
    ∷ row (bank 1) 0x55 0x55 all 0x50
    ∷ row (bank 1) 0x56 0x56 0b1000_0000 0x00
    ∷ row (bank 2) 0x55 0x55 all 0x50
    ∷ row (bank 2) 0x56 0x56 0b1000_0000 0x00
    -- bank 4: 59h, 5Ah: real-time status; writable: none
    ∷ row (bank 4) 0x59 0x5A none 0x00
    ∷ []

-- house, M-8: what a reset keeps: 48h and the stored readings
unfoldable pub kept_by_reset : List Span
kept_by_reset =
    span any 0x48 0x48
    ∷ span any 0x20 0x2A
    ∷ span (bank 1) 0x50 0x51
    ∷ span (bank 2) 0x50 0x51
    ∷ []

-- ---- cells: one for each index, bank 0 20h-5Fh, then banks 1, 2 and 4 from 50h up
abbrev pub cells : ℕ
cells = 112

-- the registers' slice has 112 cells
abbrev pub fits : List ℕ → Bool
fits rs = eqb (length rs) cells

-- the cell of an index, 20h to 4Fh in any bank or 50h to 5Fh in bank 0
abbrev pub at : ℕ → ℕ
at i = i - 0x20

-- the cell of an index from 50h up in a bank; an absent bank has none, so a number past the last
abbrev pub at_bank : ℕ → ℕ → ℕ
at_bank b i =
    choose (eqb b 0) (at i)
    (choose (eqb b 1) (64 + (i - 0x50))
    (choose (eqb b 2) (80 + (i - 0x50))
    (choose (eqb b 4) (96 + (i - 0x50))
    cells)))

-- and the bank and the index of a cell
abbrev pub bank_at : ℕ → ℕ
bank_at c = choose (ltb c 64) 0 (choose (ltb c 80) 1 (choose (ltb c 96) 2 4))

abbrev pub index_at : ℕ → ℕ
index_at c =
    choose (ltb c 64) (0x20 + c)
    (choose (ltb c 80) (0x50 + (c - 64)) (choose (ltb c 96) (0x50 + (c - 80)) (0x50 + (c - 96))))

-- ---- what the rows say of a cell
unfoldable pub present_at : ℕ → Bool
present_at c = ltb c cells && is_present rows (bank_at c) (index_at c)

unfoldable pub writable_at : ℕ → ℕ
writable_at c = writable_bits rows (bank_at c) (index_at c)

unfoldable pub power_on_at : ℕ → ℕ
power_on_at c = power_on_value rows (bank_at c) (index_at c)

unfoldable pub kept_at : ℕ → Bool
kept_at c = among kept_by_reset (bank_at c) (index_at c)
