-- Characters in a buffer: put as far as it goes.
use Rattle.std.specs.Prelude.{ℕ, ◌+◌, ◌≤◌, min, ◌≡◌, List, [], ◌∷◌, length}
use Prim.Native.Char.{code}
use Prim.Native.String.{String, [] as noText, ◌∷◌ as ◌before◌}
use Rattle.std.proofs.lemmas.List.Edits.{sets}

-- the bytes of a quoted text, which has ASCII characters alone
abbrev pub ascii : String → List ℕ
ascii noText = []
ascii (c before s) = code c ∷ ascii s

-- the last place that there is
abbrev pub last_place : ℕ
last_place = 18446744073709551615

-- the word w is put into the buffer o from a place on, as far as the buffer goes: p is what it holds then, and next the
-- place after the word, which may be past the buffer's end
pub record Put (o : List ℕ) (at : ℕ) (w : List ℕ) (p : List ℕ) (next : ℕ) : Type 0 where
  pub bytes : p ≡ sets o at w
  pub place : next ≡ min (at + length w) last_place
  pub sized : length o ≤ last_place
