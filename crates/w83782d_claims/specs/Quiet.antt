-- Quiet calls: all but an accepted sample and a reset. They leave the fans' real-time bits (`leaves`: SampleClaims.antt).
use Rattle.std.specs.Prelude.{◌≡◌, Bool, true, false, not, ◌&&◌, List, [], ◌∷◌, ◌++◌, ◌↔◌, ℕ, eqb}
use Rattle.bits.specs.Bits.{is_on}
use Rattle.w83782d_layout.specs.declared.samples.Sample.{Sample}
use Rattle.w83782d_bus.specs.Bus.{State}
use Rattle.w83782d_sample.specs.Sample.{sample_of}
use Rattle.w83782d_claims.specs.Alarm.{Call, write, read, look, sample, chassis, set_plan, answer_to, is_reset}
use Rattle.w83782d_claims.specs.Alarm.{state_after}

abbrev pub is_quiet : State → Call → Bool
is_quiet s (write i v) = not (is_reset i v)
is_quiet s (read i) = true
is_quiet s (look i) = true
is_quiet s (sample x) = not (eqb (sample_of s x).answer 0)
is_quiet s chassis = true
is_quiet s (set_plan f w) = true

-- each call of a list, where it is made
abbrev pub are_quiet : State → List Call → Bool
are_quiet s [] = true
are_quiet s (c ∷ cs) = is_quiet s c && are_quiet (answer_to s c).state cs

-- which calls these are, and which lists
pub record QuietCalls (s : State) : Type 0 where
  pub writes : (i v : ℕ) → (is_quiet s (write i v) ≡ false) ↔ ((i ≡ 0x40) × (is_on v 7 ≡ true))
  pub reads : (i : ℕ) → is_quiet s (read i) ≡ true
  pub looks : (i : ℕ) → is_quiet s (look i) ≡ true
  pub samples : (x : Sample) → (is_quiet s (sample x) ≡ false) ↔ ((sample_of s x).answer ≡ 0)
  pub opened : is_quiet s chassis ≡ true
  pub plans : (f w : ℕ) → is_quiet s (set_plan f w) ≡ true
  pub none : are_quiet s [] ≡ true
  pub more : (cs : List Call) (c : Call) → are_quiet s (cs ++ c ∷ []) ≡ (are_quiet s cs && is_quiet (state_after s cs) c)
