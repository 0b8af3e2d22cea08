-- What is claimed of merges and changes, whatever the masks.
use Rattle.std.specs.Prelude.{◌≡◌, false, List, [], ◌∷◌, ℕ, ◌<◌, get_or}
use Rattle.bits.specs.Bits.{bit, is_on, choose, merge_of, Change, changes, touches}

-- a merge takes the mask's bits from the byte and keeps every other bit
abbrev pub MergeTakes : Type 0
MergeTakes =
    (old mask byte j : ℕ) → mask < 256 → j < 8
    → bit (merge_of old mask byte) j ≡ choose (is_on mask j) (bit byte j) (bit old j)

-- each mask of the changes is a byte
abbrev pub Masks : List Change → Type 0
Masks [] = Unit {0}
Masks (c ∷ cs) = (c.mask < 256) × Masks cs

-- changes keep every bit of every cell that none of them replaces
abbrev pub ChangesKeep : Type 0
ChangesKeep = (rs : List ℕ) (cs : List Change) (k j : ℕ) → Masks cs → j < 8 → touches cs k j ≡ false
    → bit (get_or (changes rs cs) k 0) j ≡ bit (get_or rs k 0) j
