-- A fan's settings in the registers, wherever they are, and setting a plan (rule P-5).
use Rattle.std.specs.Prelude.{Bool, false, not, ◌&&◌, ◌||◌, List, [], ◌∷◌, ℕ, eqb, ltb, length, get_or, Option, Some, None}
use Rattle.answers.specs.Answers as answers
use Rattle.bits.specs.Bits.{choose, is_beyond, Change, change, changes}
use Rattle.bits.specs.Fields.{digits_of, distinct, apart, inside}
use Rattle.bits.specs.declared.fields.Place.{Place}
use Rattle.fan.specs.Count.{exponent_of}
use Rattle.fan.specs.Divisors.{divisor_at}
use Rattle.fan.specs.declared.Divisor.{Divisor}
use Rattle.fan.specs.Plan.{answer_for}
use Rattle.fan.specs.declared.Plan.{Plan}

-- a fan: the cell of its limit, and where its divisor's three bits lie, lowest first
pub record Fan : Type 0 where
  pub limit : ℕ
  pub places : List Place

abbrev pub fan_at : ℕ → List Place → Fan
fan_at c ps = record { limit = c; places = ps }

-- ---- what is set
abbrev pub limit_in : List ℕ → Fan → ℕ
limit_in rs f = get_or rs f.limit 0

abbrev pub divisor_in : List ℕ → Fan → Divisor
divisor_in rs f = divisor_at rs f.places

-- ---- P-5: that fan's limit and three divisor bits, and nothing else
abbrev pub settings : Fan → Divisor → ℕ → List Change
settings f d l = change f.limit 0xFF l ∷ digits_of f.places (exponent_of d)

abbrev pub planned_registers : List ℕ → Fan → Option Plan → List ℕ
planned_registers rs f (Some p) = changes rs (settings f p.divisor p.limit)
planned_registers rs f None = rs

-- of n fans: A-7 before A-6
abbrev pub set_answer : ℕ → ℕ → ℕ → ℕ
set_answer n f w = choose (is_beyond n f) answers.no_channel (answer_for w)

-- ---- which settings those may be

-- some place of a field lies in cell c
unfoldable pub has_cell : List Place → ℕ → Bool
has_cell [] c = false
has_cell (p ∷ ps) c = eqb c p.cell || has_cell ps c

-- among n cells: one for the limit, and three bits elsewhere
unfoldable pub is_sound : ℕ → Fan → Bool
is_sound n f =
    ltb f.limit n
    && (inside n f.places
    && (distinct f.places && (eqb (length f.places) 3 && not (has_cell f.places f.limit))))

-- setting the first leaves the second
unfoldable pub is_apart : Fan → Fan → Bool
is_apart f g =
    not (eqb f.limit g.limit)
    && (not (has_cell f.places g.limit) && (not (has_cell g.places f.limit) && apart f.places g.places))
