-- A register map as a paper's rows, and what the rows say of an index of a bank.
use Rattle.std.specs.Prelude.{Bool, true, false, ◌&&◌, ◌||◌, List, [], ◌∷◌, ℕ, zero, suc, leb, eqb, get_or}
use Rattle.bits.specs.Bits.{choose}

-- where a row lies: in one bank, or in any (its indexes ignore the bank)
pub data Bank : Type 0 where
  any : Bank
  bank : ℕ → Bank

pub record Span : Type 0 where
  pub bank : Bank
  pub first : ℕ
  pub last : ℕ

abbrev pub span : Bank → ℕ → ℕ → Span
span b f l = record { bank = b; first = f; last = l }

-- a row: where it lies, its writable bits (a mask), its power-on value
pub record Row : Type 0 where
  pub span : Span
  pub writable : ℕ
  pub power_on : ℕ

abbrev pub row : Bank → ℕ → ℕ → ℕ → ℕ → Row
row b f l w p = record { span = span b f l; writable = w; power_on = p }

abbrev pub in_bank : Bank → ℕ → Bool
in_bank any b = true
in_bank (bank n) b = eqb n b

abbrev pub covers : Span → ℕ → ℕ → Bool
covers s b i = in_bank s.bank b && leb s.first i && leb i s.last

abbrev pub among : List Span → ℕ → ℕ → Bool
among [] b i = false
among (s ∷ ss) b i = covers s b i || among ss b i

-- what f says of the first row that covers an index of a bank, and `none` where no row does. The rows may be of any
-- type, also one with more columns than `Row`, that tells where each lies
abbrev pub first_says : {R A : Type 0} → (R → Span) → (R → A) → A → List R → ℕ → ℕ → A
first_says lies f none [] b i = none
first_says lies f none (r ∷ rs) b i = choose (covers (lies r) b i) (f r) (first_says lies f none rs b i)

abbrev pub row_says : {A : Type 0} → (Row → A) → A → List Row → ℕ → ℕ → A
row_says = first_says (λ r. r.span)

abbrev pub is_present : List Row → ℕ → ℕ → Bool
is_present = row_says (λ r. true) false

abbrev pub writable_bits : List Row → ℕ → ℕ → ℕ
writable_bits = row_says (λ r. r.writable) 0

abbrev pub power_on_value : List Row → ℕ → ℕ → ℕ
power_on_value = row_says (λ r. r.power_on) 0

-- f at the n numbers from i up
abbrev pub tabulate : ℕ → ℕ → (ℕ → ℕ) → List ℕ
tabulate zero i f = []
tabulate (suc n) i f = f i ∷ tabulate n (suc i) f

-- ---- power-on and reset of n cells, by the power-on value of each and by those that a reset keeps

abbrev pub power_on_cells : ℕ → (ℕ → ℕ) → List ℕ
power_on_cells n power_on = tabulate n 0 power_on

abbrev pub reset_cells : ℕ → (ℕ → ℕ) → (ℕ → Bool) → List ℕ → List ℕ
reset_cells n power_on kept rs = tabulate n 0 (λ c. choose (kept c) (get_or rs c 0) (power_on c))

-- both by one loop: a reset keeps some cells
abbrev pub restored_cell : (ℕ → ℕ) → (ℕ → Bool) → Bool → ℕ → ℕ → ℕ
restored_cell power_on kept true c old = choose (kept c) old (power_on c)
restored_cell power_on kept false c old = power_on c

abbrev pub restored_cells : ℕ → (ℕ → ℕ) → (ℕ → Bool) → Bool → List ℕ → List ℕ
restored_cells n power_on kept keep rs = tabulate n 0 (λ c. restored_cell power_on kept keep c (get_or rs c 0))
