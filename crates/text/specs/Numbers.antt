-- Numbers as characters, and what the characters mean.
use Rattle.std.specs.Prelude.{ℕ, zero, suc, ◌+◌, ◌-◌, ◌*◌, ◌/◌, ◌%◌, ◌^◌, ◌≤◌, ◌<◌, ◌≡◌, List, [], ◌∷◌, ◌++◌, eqb, ltb, length, ℤ, pos, negsuc}
use Rattle.bits.specs.Bits.{choose}
use Rattle.text.specs.Text.{ascii}

-- ---- digits

-- the last digit of n, "0" to "9"
abbrev pub digit : ℕ → ℕ
digit n = 48 + n % 10

-- 30h to 39h each
abbrev pub Digits : List ℕ → Type 0
Digits [] = Unit {0}
Digits (d ∷ ds) = ((48 ≤ d) × (d ≤ 57)) × Digits ds

-- what digits mean: the number that they give behind the number v
unfoldable pub value_after : ℕ → List ℕ → ℕ
value_after v [] = v
value_after v (d ∷ ds) = value_after (10 * v + (d - 48)) ds

abbrev pub value : List ℕ → ℕ
value = value_after 0

-- ---- a number, without leading zeros

-- the digits of n, no more than k before the last
unfoldable pub spell : ℕ → ℕ → List ℕ
spell zero n = digit n ∷ []
spell (suc k) n = choose (ltb n 10) (digit n ∷ []) (spell k (n / 10) ++ (digit n ∷ []))

-- n has no more than n digits before its last
unfoldable pub decimal : ℕ → List ℕ
decimal n = spell n n

-- the same behind a space
unfoldable pub spaced : ℕ → List ℕ
spaced n = ascii " " ++ decimal n

-- a first character, which is "0" only where it is the only one
abbrev pub NoLeadingZero : List ℕ → Type 0
NoLeadingZero [] = ⊥
NoLeadingZero (d ∷ ds) = d ≡ 48 → ds ≡ []

-- what is claimed of decimal: digits without a leading zero whose value is the number; and no others have that value
pub record Decimals : Type 0 where
  pub digits : (n : ℕ) → Digits (decimal n)
  pub shortest : (n : ℕ) → NoLeadingZero (decimal n)
  pub means : (n : ℕ) → value (decimal n) ≡ n
  pub only : (ds : List ℕ) → Digits ds → NoLeadingZero ds → decimal (value ds) ≡ ds

-- ---- digits after a point

-- the last k digits of n, with zeros in front where it has fewer
unfoldable pub last_digits : ℕ → ℕ → List ℕ
last_digits zero n = []
last_digits (suc k) n = last_digits k (n / 10) ++ (digit n ∷ [])

-- n with its last k digits behind a point
unfoldable pub pointed : ℕ → ℕ → List ℕ
pointed k n = decimal (n / 10 ^ k) ++ (ascii "." ++ last_digits k n)

-- the same, with no point where there are no digits behind it
unfoldable pub places : ℕ → ℕ → List ℕ
places zero n = decimal n
places (suc k) n = pointed (suc k) n

-- what is claimed of places: before the point is the whole number, and after it are k
-- digits, which are what that leaves
pub record Places : Type 0 where
  pub none : (n : ℕ) → places 0 n ≡ decimal n
  pub point : (k n : ℕ) → 0 < k → places k n ≡ decimal (n / 10 ^ k) ++ (ascii "." ++ last_digits k n)
  pub count : (k n : ℕ) → length (last_digits k n) ≡ k
  pub digits : (k n : ℕ) → Digits (last_digits k n)
  pub means : (k n : ℕ) → value (last_digits k n) ≡ n % 10 ^ k

-- ---- with a sign

abbrev pub magnitude_of : ℤ → ℕ
magnitude_of (pos n) = n
magnitude_of (negsuc n) = suc n

-- a number below 0 is its magnitude's characters behind "-"
abbrev pub with_sign : (ℕ → List ℕ) → ℤ → List ℕ
with_sign f (pos n) = f n
with_sign f (negsuc n) = ascii "-" ++ f (suc n)

unfoldable pub signed : ℤ → List ℕ
signed = with_sign decimal

-- what characters mean that may have a sign
abbrev pub negated : ℕ → ℤ
negated zero = pos 0
negated (suc n) = negsuc n

abbrev pub signed_value : List ℕ → ℤ
signed_value [] = pos 0
signed_value (c ∷ cs) = choose (eqb c 45) (negated (value cs)) (pos (value (c ∷ cs)))

-- what is claimed of signed: its value is the number, and from 0 up there is no sign
pub record Signs : Type 0 where
  pub plain : (n : ℕ) → Digits (signed (pos n))
  pub means : (z : ℤ) → signed_value (signed z) ≡ z

unfoldable pub signed_places : ℕ → ℤ → List ℕ
signed_places k = with_sign (places k)
