-- The register map of the W83L784R (C-16): a row for each row of its table of registers, in its order. Lay the table
-- beside it: each comment names the row that the lines under it carry. "s." is a section of the data sheet (source
-- 002), K-nn the reading that decided where the data sheet is unclear (docs/DECISIONS.md).
use Rattle.std.specs.Prelude.{Bool, true, false, List, [], ◌∷◌, ℕ, ◌+◌, ◌-◌, ◌/◌, ◌%◌, ltb, get_or}
use Rattle.bits.specs.Bits.{choose}
use Rattle.bits.specs.Map.{Bank, bank, Span, span, Row, row, covers, among, first_says}

-- ---- devices, in the place of banks (K-29: the part has none): the main one, and the set of a sensor. Sensors 2 and 3
-- have a set each, and the two are alike
abbrev main : Bank
main = bank 0

abbrev sensor_set : Bank
sensor_set = bank 1

-- A row, and beside it the bits of the register that a read shows: a column of its own, as in the table, so that a row
-- is ticked off whole. That a register which takes a write shows exactly the bits that it stores is a law
-- (`stored_is`, proofs/Cells.antt).
pub record ShownRow : Type 0 where
  pub row : Row
  pub shows : ℕ

-- first and last index, writable bits, power-on, what a read shows: of the main device bytes, of a set words
abbrev byte_row : ℕ → ℕ → ℕ → ℕ → ℕ → ShownRow
byte_row f l w p s = record { row = row main f l w p; shows = s }

abbrev word_row : ℕ → ℕ → ℕ → ℕ → ShownRow
word_row i w p s = record { row = row sensor_set i i w p; shows = s }

-- writable: none, all; shows: all
abbrev none : ℕ
none = 0x00

abbrev all : ℕ
all = 0xFF

-- What is in no row is reserved. Bits that a section calls reserved can't be written and read 0 (K-04, K-07).
unfoldable pub rows : List ShownRow
rows =
    -- 20h: VIN1 (Vcore) code; writable: none; s. 8.1
    byte_row 0x20 0x20 none 0x00 all
    -- 21h: VIN3 (VBAT) code; writable: none; s. 8.1
    ∷ byte_row 0x21 0x21 none 0x00 all
    -- 22h: VIN2 (+3.3) code; writable: none; s. 8.1
    ∷ byte_row 0x22 0x22 none 0x00 all
    -- 23h: VCC (+5) code; writable: none; s. 8.1
    ∷ byte_row 0x23 0x23 none 0x00 all
    -- 27h: sensor 1; writable: none; s. 8.1, 6.4
    ∷ byte_row 0x27 0x27 none 0x00 all
    -- 28h, 29h: fan 1, 2 count; writable: none; s. 8.1, 6.5.1
    ∷ byte_row 0x28 0x29 none 0x00 all
    -- 2Bh, 2Ch: VIN1 high, low limit; writable: all; s. 8.1; power-on: K-32
    ∷ byte_row 0x2B 0x2C all 0x00 all
    -- 2Dh, 2Eh: VIN3 high, low limit; writable: all; s. 8.1
    ∷ byte_row 0x2D 0x2E all 0x00 all
    -- 2Fh, 30h: VIN2 high, low limit; writable: all; s. 8.1
    ∷ byte_row 0x2F 0x30 all 0x00 all
    -- 31h, 32h: VCC high, low limit; writable: all; s. 8.1
    ∷ byte_row 0x31 0x32 all 0x00 all
    -- 39h, 3Ah: sensor 1 over limit, hysteresis; writable: all; s. 8.1
    ∷ byte_row 0x39 0x3A all 0x00 all
    -- 3Bh, 3Ch: fan 1, 2 count limit; writable: all; s. 8.1
    ∷ byte_row 0x3B 0x3C all 0x00 all
    -- 40h: configuration; writable: 7, 3, 1, 0 (bit 7 is a command and not stored); s. 7.1, K-04, K-20
    ∷ byte_row 0x40 0x40 0b1000_1011 0x01 0b0000_1011
    -- 41h: interrupt status 1; writable: none; s. 7.2
    ∷ byte_row 0x41 0x41 none 0x00 0b1110_1111
    -- 42h: interrupt status 2; writable: none; target bits read 0; s. 7.3, K-31
    ∷ byte_row 0x42 0x42 none 0x00 0b0000_0011
    -- 43h: SMI mask 1; writable: 7-5, 3-0; s. 7.4, K-08
    ∷ byte_row 0x43 0x43 0b1110_1111 0x00 0b1110_1111
    -- 44h: SMI mask 2; writable: 3-0; s. 7.5
    ∷ byte_row 0x44 0x44 0b0000_1111 0x00 0b0000_1111
    -- 45h: real-time status 1; writable: none; s. 7.6
    ∷ byte_row 0x45 0x45 none 0x00 0b1110_1111
    -- 46h: real-time status 2; writable: none; target bits read 0 (house); s. 7.7, C-16
    ∷ byte_row 0x46 0x46 none 0x00 0b0000_0011
    -- 49h: fan 2 divisor 6-4, fan 1 divisor 2-0; writable: 6-4, 2-0; s. 7.9, K-01
    ∷ byte_row 0x49 0x49 0b0111_0111 0x11 0b0111_0111
    -- 4Ah: bus address; writable: 6-0; s. 7.10
    ∷ byte_row 0x4A 0x4A 0b0111_1111 0x2D 0b0111_1111
    -- 4Bh: sensor bus addresses and disable bits; writable: all; s. 7.11, K-09, K-30
    ∷ byte_row 0x4B 0x4B all 0x01 all
    -- 4Ch, 4Dh, 4Eh: vendor low, vendor high, chip; writable: none; s. 7.12 to 7.14
    ∷ byte_row 0x4C 0x4C none 0xA3 all
    ∷ byte_row 0x4D 0x4D none 0x5C all
    ∷ byte_row 0x4E 0x4E none 0x50 all
    -- 4Fh: ACPI step; writable: 6-0; s. 7.15
    ∷ byte_row 0x4F 0x4F 0b0111_1111 0x05 0b0111_1111
    -- 50h: OVT; writable: 5-0; s. 7.16
    ∷ byte_row 0x50 0x50 0b0011_1111 0x00 0b0011_1111
    -- 51h: SMI; writable: 3-0; s. 7.17
    ∷ byte_row 0x51 0x51 0b0000_1111 0x04 0b0000_1111
    -- 52h: GPO; writable: all; s. 7.18
    ∷ byte_row 0x52 0x52 all 0x00 all
    -- 53h: sensor types; writable: 3-0; s. 7.19
    ∷ byte_row 0x53 0x53 0b0000_1111 0x00 0b0000_1111
    -- 54h: misc control; writable: 5, 4, 2, 0; s. 7.20
    ∷ byte_row 0x54 0x54 0b0011_0101 0x00 0b0011_0101
    -- 55h: fault control; writable: 2-0; s. 7.21
    ∷ byte_row 0x55 0x55 0b0000_0111 0x00 0b0000_0111
    -- 56h, 57h: fan fault high, low; writable: all; s. 7.22, 7.23, K-27
    ∷ byte_row 0x56 0x56 all 0xFF all
    ∷ byte_row 0x57 0x57 all 0x00 all
    -- 58h, 59h: fan fault high, low; writable: all; s. 7.24, 7.25, K-27
    ∷ byte_row 0x58 0x58 all 0xFF all
    ∷ byte_row 0x59 0x59 all 0x00 all
    -- 5Ah, 5Bh: VBAT fault high, low; writable: all; s. 7.26, 7.27
    ∷ byte_row 0x5A 0x5A all 0xFF all
    ∷ byte_row 0x5B 0x5B all 0x00 all
    -- 80h, 82h: fan 1, 2 pre-scale; writable: all; s. 7.28, 7.30
    ∷ byte_row 0x80 0x80 all 0x01 all
    ∷ byte_row 0x82 0x82 all 0x01 all
    -- 81h, 83h: fan 1, 2 duty; writable: all; s. 7.29, 7.31
    ∷ byte_row 0x81 0x81 all 0xFF all
    ∷ byte_row 0x83 0x83 all 0xFF all
    -- 84h: fan configuration; writable: 5-0; s. 7.32, K-02
    ∷ byte_row 0x84 0x84 0b0011_1111 0x00 0b0011_1111
    -- 85h, 86h: target 1, 2; writable: all; s. 7.33, 7.34, K-03
    ∷ byte_row 0x85 0x86 all 0x00 all
    -- 87h: tolerances; writable: all; s. 7.35
    ∷ byte_row 0x87 0x87 all 0x11 all
    -- 88h, 89h: stop duty 1, 2; writable: all; s. 7.36, 7.37
    ∷ byte_row 0x88 0x89 all 0x01 all
    -- 8Ah, 8Bh: start-up duty 1, 2; writable: all; s. 7.38, 7.39
    ∷ byte_row 0x8A 0x8B all 0x01 all
    -- 8Ch, 8Dh: stop time 1, 2; writable: all; s. 7.40, 7.41
    ∷ byte_row 0x8C 0x8D all 0x3C all
    -- 8Eh, 8Fh: step times; writable: all; s. 7.42, 7.43, K-28
    ∷ byte_row 0x8E 0x8F all 0x0A all
    -- 90h, 91h, 92h: offset of sensor 1, 2, 3, a whole byte; writable: by commissioning only (house); s. 7.44 to 7.46,
    -- C-16, K-22, K-23
    ∷ byte_row 0x90 0x92 none 0x00 all
    -- the sets of sensors 2 and 3
    -- 00h: temperature; writable: none; s. 9.1, 10.1, K-24
    ∷ word_row 0x00 none 0x0000 0xFF80
    -- 01h: configuration, a byte; writable: 4, 3, 0; s. 9.2, 10.2, K-05, K-06
    ∷ word_row 0x01 0x0019 0x0000 0x0019
    -- 02h: hysteresis; writable: nine bits; s. 9.3, 10.3
    ∷ word_row 0x02 0xFF80 0x4B00 0xFF80
    -- 03h: over limit; writable: nine bits; s. 9.4, 10.4
    ∷ word_row 0x03 0xFF80 0x5000 0xFF80
    ∷ []

-- 4Ch, 4Dh, 4Eh: a read shows the power-on byte, whatever the cell holds
abbrev pub identity : Span
identity = span main 0x4C 0x4E

-- house: 90h, 91h, 92h: a bus write is refused as A-9
abbrev pub offsets : Span
offsets = span main 0x90 0x92

-- house: what a reset keeps: 4Ah, the stored readings, 00h of the sets among them, and the offsets (K-10)
unfoldable pub kept_by_reset : List Span
kept_by_reset =
    span main 0x4A 0x4A
    ∷ span main 0x20 0x23
    ∷ span main 0x27 0x29
    ∷ span sensor_set 0x00 0x00
    ∷ offsets
    ∷ []

-- ---- cells: the main device's 20h-5Fh and 80h-9Fh, one for each index, then eight for each set
abbrev pub cells : ℕ
cells = 112

-- the cell of an index of the main device, 20h to 5Fh or 80h to 9Fh
abbrev pub at : ℕ → ℕ
at i = i - 0x20

abbrev pub at_upper : ℕ → ℕ
at_upper i = i - 0x40

-- the byte that a cell holds: of which device (by its number above), at which index, and whether it is a word's high
-- byte; a register of one byte is the low byte of its word
pub record Content : Type 0 where
  pub device : ℕ
  pub index : ℕ
  pub is_high : Bool

abbrev byte_at : ℕ → Content
byte_at i = record { device = 0; index = i; is_high = false }

abbrev high : ℕ → Content
high i = record { device = 1; index = i; is_high = true }

abbrev low : ℕ → Content
low i = record { device = 1; index = i; is_high = false }

-- no register's: no row has this index
abbrev nothing : Content
nothing = byte_at 0x00

-- the first seven cells of a set; the eighth holds nothing
abbrev set_contents : List Content
set_contents = high 0x00 ∷ low 0x00 ∷ low 0x01 ∷ high 0x02 ∷ low 0x02 ∷ high 0x03 ∷ low 0x03 ∷ []

unfoldable pub content_at : ℕ → Content
content_at c =
    choose (ltb c 64) (byte_at (0x20 + c))
    (choose (ltb c 96) (byte_at (0x40 + c))
    (choose (ltb c 104) (get_or set_contents (c - 96) nothing)
    (choose (ltb c cells) (get_or set_contents (c - 104) nothing)
    nothing)))

-- ---- what the rows say of a cell
abbrev byte_of : Bool → ℕ → ℕ
byte_of true word = word / 256
byte_of false word = word % 256

-- what f says of the row of a cell's register, and the cell's byte of such a number
abbrev pub says_of : {A : Type 0} → (ShownRow → A) → A → Content → A
says_of f none k = first_says (λ r. r.row.span) f none rows k.device k.index

abbrev pub column_of : (ShownRow → ℕ) → Content → ℕ
column_of f k = byte_of k.is_high (says_of f 0 k)

unfoldable pub present_at : ℕ → Bool
present_at c = says_of (λ r. true) false (content_at c)

unfoldable pub writable_at : ℕ → ℕ
writable_at c = column_of (λ r. r.row.writable) (content_at c)

unfoldable pub power_on_at : ℕ → ℕ
power_on_at c = column_of (λ r. r.row.power_on) (content_at c)

unfoldable pub identity_at : ℕ → Bool
identity_at c = covers identity (content_at c).device (content_at c).index

unfoldable pub offset_at : ℕ → Bool
offset_at c = covers offsets (content_at c).device (content_at c).index

unfoldable pub kept_at : ℕ → Bool
kept_at c = among kept_by_reset (content_at c).device (content_at c).index
