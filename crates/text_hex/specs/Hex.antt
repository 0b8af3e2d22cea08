-- A byte as two digits of base 16, and what the digits mean.
use Rattle.std.specs.Prelude.{ℕ, ◌+◌, ◌-◌, ◌*◌, ◌/◌, ◌%◌, ◌<◌, ◌≡◌, Bool, true, ◌&&◌, ◌||◌, List, [], ◌∷◌, ltb, leb}
use Prim.Native.Char.{code}
use Rattle.bits.specs.Bits.{choose}

-- ---- with the letters from a given one on

unfoldable pub hex_digit : ℕ → ℕ → ℕ
hex_digit letter n = choose (ltb (n % 16) 10) (48 + n % 16) (letter + (n % 16 - 10))

unfoldable pub hex_with : ℕ → ℕ → List ℕ
hex_with letter n = hex_digit letter (n / 16) ∷ hex_digit letter n ∷ []

abbrev pub capital : ℕ
capital = code "A"

abbrev pub small : ℕ
small = code "a"

abbrev pub hex : ℕ → List ℕ
hex = hex_with capital

abbrev pub small_hex : ℕ → List ℕ
small_hex = hex_with small

-- "0" to "9", or one of six letters
abbrev pub is_hex_digit : ℕ → ℕ → Bool
is_hex_digit letter c = (leb 48 c && leb c 57) || (leb letter c && leb c (letter + 5))

-- what such a digit is worth
abbrev pub worth : ℕ → ℕ → ℕ
worth letter c = choose (ltb c 58) (c - 48) (10 + (c - letter))

-- what is claimed of a byte's two digits: they are digits of base 16 with these letters, and give the byte
pub record Hexes (letter : ℕ) : Type 0 where
  pub digits : (n : ℕ) → n < 256
      → (is_hex_digit letter (hex_digit letter (n / 16)) && is_hex_digit letter (hex_digit letter n)) ≡ true
  pub means : (n : ℕ) → n < 256
      → 16 * worth letter (hex_digit letter (n / 16)) + worth letter (hex_digit letter n) ≡ n
