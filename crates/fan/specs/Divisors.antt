-- A divisor's three bits in the registers, wherever they are (rules S-2, P-5).
use Rattle.std.specs.Prelude.{◌≡◌, true, false, List, ℕ, ◌<◌, get_or, length}
use Rattle.bits.specs.Bits.{bit}
use Rattle.bits.specs.Fields.{gather_of, replace_of, is_in, distinct, apart, inside}
use Rattle.bits.specs.declared.fields.Place.{Place}
use Rattle.fan.specs.declared.Divisor.{Divisor}
use Rattle.fan.specs.Count.{exponent_of, from_bits}

-- S-2: the divisor now set, its bits gathered lowest first
unfoldable pub divisor_at : List ℕ → List Place → Divisor
divisor_at rs ps = from_bits (gather_of rs ps)

-- P-5: the three bits given, and nothing else
unfoldable pub with_divisor : List ℕ → List Place → Divisor → List ℕ
with_divisor rs ps d = replace_of rs ps (exponent_of d)

-- what holds of every divisor field, over where its bits lie
pub record Fields : Type 0 where
  -- the divisor that was put is the divisor that is gathered
  pub given : (rs : List ℕ) (ps : List Place) (d : Divisor) → length ps ≡ 3 → distinct ps ≡ true
      → inside (length rs) ps ≡ true
      → divisor_at (with_divisor rs ps d) ps ≡ d
  -- no bit of any cell changes but the field's
  pub kept : (rs : List ℕ) (ps : List Place) (d : Divisor) (k j : ℕ) → j < 8 → is_in ps k j ≡ false
      → bit (get_or (with_divisor rs ps d) k 0) j ≡ bit (get_or rs k 0) j
  -- so another fan's divisor stays
  pub others : (rs : List ℕ) (ps qs : List Place) (d : Divisor) → apart ps qs ≡ true
      → divisor_at (with_divisor rs ps d) qs ≡ divisor_at rs qs
