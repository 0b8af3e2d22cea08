-- The OVT outputs as they are read, and what is claimed of that (rules O-1 to O-5, A-7).
use Rattle.std.specs.Prelude.{◌≡◌, Bool, ◌||◌, ℕ, Result, Ok, Err, eqb}
use Rattle.answers.specs.declared.Refusal.{Refusal}
use Rattle.answers.specs.declared.Refusal.TheVariants.{NoChannel}
use Rattle.answers.specs.Refusals.{answer_of}
use Rattle.bits.specs.Bits.{choose}
use Rattle.w83782d_latches.specs.Effects.{remote_of}
use Rattle.w83782d_latches.specs.declared.Latches.{Latches}

-- sensors 2 and 3 have an output
abbrev pub has_ovt : ℕ → Bool
has_ovt n = eqb n 2 || eqb n 3

-- whether the output of sensor 2 or 3 is asserted
abbrev pub asserted_at : Latches → ℕ → Bool
asserted_at l n = (remote_of l n).output.asserted

-- a sensor without an output is refused, as a temperature sensor is. decision D-22
unfoldable pub ovt_of : Latches → ℕ → Result Bool Refusal
ovt_of l n = choose (has_ovt n) (Ok (asserted_at l n)) (Err NoChannel)

-- 7 exactly for a sensor other than 2 and 3
pub record OvtClaims : Type 0 where
  pub answer : (l : Latches) (n : ℕ) → answer_of (ovt_of l n) ≡ choose (has_ovt n) 0 7
