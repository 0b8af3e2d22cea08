-- What the rows come to, by computing, beside lists and figures that are written out here: a wrong row, cell or rule
-- fails. The indexes are all 256 of the main device, and the two sets cell by cell. Assumes nothing.
use mathlib.Core.Path.{◌≡◌, refl}
use mathlib.Core.Bool.{Bool, not}
use mathlib.Core.List.{List, [], ◌∷◌, map}
use Prim.Native.Nat.{ℕ, zero, suc, ◌+◌, ◌-◌, ◌*◌, ◌<◌}
use lib.Dec.{ltb}
use Rattle.bits.specs.Bits.{choose, flag_of, merge_of}
use Rattle.bits.specs.Map.{any, Span, span, among, tabulate}
use Rattle.bits.proofs.Every.{same_below, same_tests}
use Rattle.w83l784r_map.specs.Map.{rows, kept_by_reset, cells, at, at_upper, content_at}
use Rattle.w83l784r_map.specs.Map.{present_at, writable_at, power_on_at, offset_at, identity_at, kept_at}
use Rattle.w83l784r_map.specs.Cells.{set_cell, offset_of, vendor_id_low, vendor_id_high, chip_id}
use Rattle.w83l784r_map.specs.Access.{write_answer, stored_bits, shown_bits, shown_byte}

-- the cell that an index of the main device reaches: 60h-7Fh are 20h-3Fh, and below 20h and from A0h on there is none
cell_of : ℕ → ℕ
cell_of i =
    choose (ltb i 0x20) cells
    (choose (ltb i 0x60) (at i)
    (choose (ltb i 0x80) (at (i - 0x40))
    (choose (ltb i 0xA0) (at_upper i)
    cells)))

abbrev answer_of : ℕ → ℕ
answer_of i = write_answer (cell_of i)

-- ---- what a write answers at each index, by the lists of the table
absent_indexes : List Span
absent_indexes =
    span any 0x00 0x1F ∷ span any 0x24 0x26 ∷ span any 0x2A 0x2A ∷ span any 0x33 0x38 ∷ span any 0x3D 0x3F
    ∷ span any 0x47 0x48 ∷ span any 0x5C 0x5F ∷ span any 0x64 0x66 ∷ span any 0x6A 0x6A ∷ span any 0x73 0x78
    ∷ span any 0x7D 0x7F ∷ span any 0x93 0xFF ∷ []

read_only_indexes : List Span
read_only_indexes =
    span any 0x20 0x23 ∷ span any 0x27 0x29 ∷ span any 0x60 0x63 ∷ span any 0x67 0x69 ∷ span any 0x41 0x42
    ∷ span any 0x45 0x46 ∷ span any 0x4C 0x4E ∷ []

locked_indexes : List Span
locked_indexes = span any 0x90 0x92 ∷ []

-- 1, 2 and 9 at these indexes, and at every other 0
abbrev listed : List Span → List Span → List Span → ℕ → ℕ
listed one two nine i = choose (among one 0 i) 1 (choose (among two 0 i) 2 (choose (among nine 0 i) 9 0))

answers : (i : ℕ) → i < 256 → answer_of i ≡ listed absent_indexes read_only_indexes locked_indexes i
unfolding absent_indexes read_only_indexes locked_indexes cell_of write_answer present_at writable_at offset_at content_at rows
answers = same_below 256 answer_of (listed absent_indexes read_only_indexes locked_indexes) tt

-- at how many numbers below n a test holds
count : (ℕ → Bool) → ℕ → ℕ
count f zero = 0
count f (suc n) = flag_of (f n) + count f n

-- so 83 of the 256 indexes exist, and 64 of the 96 cells of the main device are registers
indexes : count (λ i. not (among absent_indexes 0 i)) 256 ≡ 83
unfolding count absent_indexes
indexes = refl

registers : count present_at 96 ≡ 64
unfolding count present_at content_at rows
registers = refl

-- ---- what a reset keeps
kept_indexes : List Span
kept_indexes =
    span any 0x4A 0x4A ∷ span any 0x20 0x23 ∷ span any 0x27 0x29 ∷ span any 0x60 0x63 ∷ span any 0x67 0x69
    ∷ span any 0x90 0x92 ∷ []

kept_indexes_law : (i : ℕ) → i < 256 → kept_at (cell_of i) ≡ among kept_indexes 0 i
unfolding kept_indexes cell_of kept_at kept_by_reset content_at
kept_indexes_law = same_tests 256 (λ i. kept_at (cell_of i)) (among kept_indexes 0) tt

-- ---- some registers: stored, shown, power-on
abbrev said_of : ℕ → List ℕ
said_of c = stored_bits c ∷ shown_bits c ∷ power_on_at c ∷ []

some :
    map said_of (at 0x40 ∷ at 0x41 ∷ at 0x42 ∷ at 0x49 ∷ at 0x4A ∷ at 0x54 ∷ at 0x56 ∷ at_upper 0x87 ∷ at_upper 0x90 ∷ [])
    ≡ (0x0B ∷ 0x0B ∷ 0x01 ∷ []) ∷ (0x00 ∷ 0xEF ∷ 0x00 ∷ []) ∷ (0x00 ∷ 0x03 ∷ 0x00 ∷ []) ∷ (0x77 ∷ 0x77 ∷ 0x11 ∷ [])
    ∷ (0x7F ∷ 0x7F ∷ 0x2D ∷ []) ∷ (0x35 ∷ 0x35 ∷ 0x00 ∷ []) ∷ (0xFF ∷ 0xFF ∷ 0xFF ∷ []) ∷ (0xFF ∷ 0xFF ∷ 0x11 ∷ [])
    ∷ (0x00 ∷ 0xFF ∷ 0x00 ∷ []) ∷ []
unfolding stored_bits shown_bits power_on_at writable_at content_at rows
some = refl

-- FFh written to each register at power-on, as a read then shows it
abbrev after_ones : ℕ → ℕ
after_ones i = shown_byte (cell_of i) (merge_of (power_on_at (cell_of i)) (stored_bits (cell_of i)) 0xFF)

ones :
    map after_ones
    (0x40 ∷ 0x41 ∷ 0x43 ∷ 0x44 ∷ 0x49 ∷ 0x4A ∷ 0x4B ∷ 0x4C ∷ 0x4F ∷ 0x50 ∷ 0x51 ∷ 0x53 ∷ 0x54 ∷ 0x55 ∷ 0x84 ∷ 0x85
    ∷ 0x90 ∷ [])
    ≡ 0x0B ∷ 0x00 ∷ 0xEF ∷ 0x0F ∷ 0x77 ∷ 0x7F ∷ 0xFF ∷ 0xA3 ∷ 0x7F ∷ 0x3F ∷ 0x0F ∷ 0x0F ∷ 0x35 ∷ 0x07 ∷ 0x3F ∷ 0xFF
    ∷ 0x00 ∷ []
unfolding cell_of merge_of shown_byte shown_bits stored_bits power_on_at writable_at identity_at content_at rows
ones = refl

-- an identity register shows its byte, whatever its cell holds, and an offset the whole of its cell
identities : (byte : ℕ)
    → map (λ c. shown_byte c byte) (vendor_id_low ∷ vendor_id_high ∷ chip_id ∷ []) ≡ 0xA3 ∷ 0x5C ∷ 0x50 ∷ []
unfolding shown_byte power_on_at identity_at content_at rows
identities byte = refl

offset_shown : (byte : ℕ) → byte < 256 → shown_byte (offset_of 2) byte ≡ byte
unfolding shown_byte shown_bits identity_at content_at rows
offset_shown = same_below 256 (shown_byte (offset_of 2)) (λ byte. byte) tt

-- ---- the sets, cell by cell: 00h high, low, 01h, 02h high, low, 03h high, low, none
abbrev of_sets : (ℕ → ℕ) → List (List ℕ)
of_sets f = tabulate 8 (set_cell 2) f ∷ tabulate 8 (set_cell 3) f ∷ []

abbrev alike : List ℕ → List (List ℕ)
alike xs = xs ∷ xs ∷ []

set_answers : of_sets write_answer ≡ alike (2 ∷ 2 ∷ 0 ∷ 0 ∷ 0 ∷ 0 ∷ 0 ∷ 1 ∷ [])
unfolding write_answer present_at writable_at offset_at content_at rows
set_answers = refl

set_stored : of_sets stored_bits ≡ alike (0x00 ∷ 0x00 ∷ 0x19 ∷ 0xFF ∷ 0x80 ∷ 0xFF ∷ 0x80 ∷ 0x00 ∷ [])
unfolding stored_bits writable_at content_at rows
set_stored = refl

set_shown : of_sets shown_bits ≡ alike (0xFF ∷ 0x80 ∷ 0x19 ∷ 0xFF ∷ 0x80 ∷ 0xFF ∷ 0x80 ∷ 0x00 ∷ [])
unfolding shown_bits content_at rows
set_shown = refl

set_power_on : of_sets power_on_at ≡ alike (0x00 ∷ 0x00 ∷ 0x00 ∷ 0x4B ∷ 0x00 ∷ 0x50 ∷ 0x00 ∷ 0x00 ∷ [])
unfolding power_on_at content_at rows
set_power_on = refl

set_kept : of_sets (λ c. flag_of (kept_at c)) ≡ alike (1 ∷ 1 ∷ 0 ∷ 0 ∷ 0 ∷ 0 ∷ 0 ∷ 0 ∷ [])
unfolding kept_at kept_by_reset content_at
set_kept = refl

-- 03h as a word: 5000h at power-on, FF80h writable
word_of : (ℕ → ℕ) → ℕ
word_of f = f (set_cell 2 + 5) * 256 + f (set_cell 2 + 6)

over_limit_law : word_of power_on_at ∷ word_of writable_at ∷ [] ≡ 0x5000 ∷ 0xFF80 ∷ []
unfolding word_of power_on_at writable_at content_at rows
over_limit_law = refl
