-- A divisor's bits at a list of places: the laws of `bits` on fields, and the eight divisors by their three bits.
-- Assumes nothing.
use mathlib.Core.Path.{◌≡◌, ap, ◌∙◌}
use mathlib.Core.Bool.{true}
use mathlib.Core.List.{List}
use Prim.Native.Nat.{ℕ, ◌%◌, ◌^◌}
use native.Mathlib.Nat.{mod-eq_of_lt}
use lib.ListN.{length}
use Rattle.bits.specs.Fields.{gather_of, replace_of, distinct, inside}
use Rattle.bits.specs.declared.fields.Place.{Place}
use Rattle.bits.proofs.fields.FieldLaws.{gather_gives_back, replace_keeps, other_stays}
use Rattle.fan.specs.declared.Divisor.{Divisor}
use Rattle.fan.specs.Count.{exponent_of, from_bits}
use Rattle.fan.specs.Divisors.{divisor_at, with_divisor, Fields}
use Rattle.fan.proofs.Divisors.{exponent_lt, from_exponent}

gathered : (rs : List ℕ) (ps : List Place) (d : Divisor) → length ps ≡ 3 → distinct ps ≡ true
    → inside (length rs) ps ≡ true
    → gather_of (replace_of rs ps (exponent_of d)) ps ≡ exponent_of d
gathered rs ps d e s i =
    gather_gives_back rs ps (exponent_of d) s i ∙ ap (λ (n : ℕ). exponent_of d % 2 ^ n) e ∙ mod-eq_of_lt (exponent_lt d)

pub fields : Fields
unfolding divisor_at with_divisor
fields =
    record {
      given = λ rs ps d e s i. ap from_bits (gathered rs ps d e s i) ∙ from_exponent d;
      kept = λ rs ps d k j h n. replace_keeps rs ps (exponent_of d) k j h n;
      others = λ rs ps qs d a. ap from_bits (other_stays rs ps qs (exponent_of d) a);
    }

-- the functions, by what they call
pub gathered_at : (rs : List ℕ) (ps : List Place) (n : ℕ) (d : Divisor) → n ≡ gather_of rs ps
    → (d ≡ from_bits n) × (exponent_of d ≡ n % 8) → d ≡ divisor_at rs ps
unfolding divisor_at
gathered_at rs ps n d e f = f.0 ∙ ap from_bits e

pub put_at : (rs ts : List ℕ) (ps : List Place) (n : ℕ) (d : Divisor) → n ≡ exponent_of d → ts ≡ replace_of rs ps n
    → ts ≡ with_divisor rs ps d
unfolding with_divisor
put_at rs ts ps n d e f = f ∙ ap (replace_of rs ps) e
