-- Bytes as one number, the first lowest, and flags kept as bytes: a byte of 0 is off, any other on; written as 0 or 1.
use Rattle.std.specs.Prelude.{Bool, not, List, [], ◌∷◌, ◌++◌, ℕ, zero, suc, ◌+◌, ◌*◌, ◌/◌, ◌%◌, ◌<◌, eqb, leb, length, get_or}
use Rattle.std.proofs.lemmas.List.Edits.{sets}
use Rattle.bits.specs.Bits.{choose, flag_of}

abbrev pub joined : List ℕ → ℕ
joined [] = 0
joined (b ∷ bs) = joined bs * 256 + b

-- n bytes of a number, the lowest first
abbrev pub bytes_of : ℕ → ℕ → List ℕ
bytes_of zero w = []
bytes_of (suc n) w = w % 256 ∷ bytes_of n (w / 256)

-- each of them below 256
abbrev pub AreBytes : List ℕ → Type 0
AreBytes [] = Unit {0}
AreBytes (b ∷ bs) = (b < 256) × AreBytes bs

abbrev pub is_set : ℕ → Bool
is_set b = not (eqb b 0)

-- each byte of a list by a function
abbrev pub each_byte : (ℕ → ℕ) → List ℕ → List ℕ
each_byte f [] = []
each_byte f (b ∷ bs) = f b ∷ each_byte f bs

-- a byte as its flag is written
abbrev pub normal : ℕ → ℕ
normal b = flag_of (is_set b)

-- eight bytes as their flags are written
unfoldable pub flags_of : ℕ → ℕ
flags_of w = joined (each_byte normal (bytes_of 8 w))

-- ---- bytes of a slice from a place on
abbrev pub four_from : List ℕ → ℕ → List ℕ
four_from s at = get_or s at 0 ∷ get_or s (at + 1) 0 ∷ get_or s (at + 2) 0 ∷ get_or s (at + 3) 0 ∷ []

abbrev pub eight_from : List ℕ → ℕ → List ℕ
eight_from s at = four_from s at ++ four_from s (at + 4)

-- eight flags of a slice as they are written; all off in a slice that has not so many bytes
unfoldable pub flags_at : List ℕ → ℕ → ℕ
flags_at s at = choose (leb (at + 8) (length s)) (joined (each_byte normal (eight_from s at))) 0

-- eight bytes stored in a slice; one that has not so many stays
unfoldable pub put_eight : List ℕ → ℕ → ℕ → List ℕ
put_eight s at w = choose (leb (at + 8) (length s)) (sets s at (bytes_of 8 w)) s
