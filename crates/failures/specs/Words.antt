-- An error in the system's words alone.
use Rattle.std.specs.Prelude.{◌≡◌, ◌⊎◌, List, ◌++◌, ℕ, ◌<◌, ◌≤◌, length, take, drop}
use Rattle.text.specs.Text.{ascii}

-- what std puts between those words and the error's number
abbrev pub mark : List ℕ
mark = ascii " (os error "

abbrev pub HasMark : List ℕ → ℕ → Type 0
HasMark text i = (rest : List ℕ) × (drop i text ≡ mark ++ rest)

-- a text without the mark as it is, and of another what comes before its first mark
abbrev pub IsWithoutNumber : List ℕ → List ℕ → Type 0
IsWithoutNumber text words =
    ((words ≡ text) × ((i : ℕ) → i ≤ length text → HasMark text i → ⊥))
    ⊎ ((i : ℕ) × (words ≡ take i text) × HasMark text i × ((j : ℕ) → j < i → HasMark text j → ⊥))
