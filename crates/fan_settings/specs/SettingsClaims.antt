-- What is claimed of setting a plan, on registers (rule P-5; fan, Plan.antt).
use Rattle.std.specs.Prelude.{◌≡◌, false, List, ℕ, ◌<◌, eqb, get_or}
use Rattle.bits.specs.Bits.{bit}
use Rattle.bits.specs.Fields.{is_in}
use Rattle.fan.specs.Count.{value_of}
use Rattle.fan.specs.declared.Divisor.{Divisor}
use Rattle.fan.specs.Plan.{some_plan, IsPlan}
use Rattle.fan.specs.Search.{plan_of}
use Rattle.fan_settings.specs.Settings.{Fan, limit_in, divisor_in}

-- the registers ts have the plan for w (P-2) on a fan, and differ from rs in nothing else
pub record PlanSet (rs ts : List ℕ) (f : Fan) (w : ℕ) : Type 0 where
  pub divisor : Divisor
  pub limit : ℕ
  pub planned : plan_of w ≡ some_plan divisor limit
  pub is_plan : IsPlan w (value_of divisor) limit
  -- gathering gives back the plan's divisor and limit
  pub divisor_set : divisor_in ts f ≡ divisor
  pub limit_set : limit_in ts f ≡ limit
  -- and no bit but that fan's limit and divisor changes
  pub kept : (c j : ℕ) → j < 8 → eqb c f.limit ≡ false → is_in f.places c j ≡ false
      → bit (get_or ts c 0) j ≡ bit (get_or rs c 0) j
