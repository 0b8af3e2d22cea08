-- The plan, computed. `Plan` says what a plan is and that there is one only; this is how
-- it is found, so that figures compute.
use Rattle.std.specs.Prelude.{ℕ, zero, suc, ◌-◌, ◌*◌, ◌/◌, min, ltb, Option, None}
use Rattle.bits.specs.Bits.{choose}
use Rattle.fan.specs.declared.planner.Choice.{Choice}
use Rattle.fan.specs.declared.Plan.{Plan}
use Rattle.fan.specs.declared.Divisor.{Divisor}
use Rattle.fan.specs.Count.{per_minute, value_of, from_bits}
use Rattle.fan.specs.Plan.{some_plan, is_no_speed}

-- a divisor with the most counts of it that stay within k, at most 255
abbrev pub choice_at : ℕ → Divisor → Choice
choice_at k d = record { divisor = d; counts = min 255 (k / value_of d) }

-- the undivided count from which a choice rings
abbrev pub product_of : Choice → ℕ
product_of c = c.counts * value_of c.divisor

-- another divisor only for a larger product, so that the smaller stays of equals
unfoldable pub better : ℕ → Choice → Divisor → Choice
better k best d = choose (ltb (product_of best) (product_of (choice_at k d))) (choice_at k d) best

-- the best choice of the divisors up to exponent e
unfoldable pub best_to : ℕ → ℕ → Choice
best_to k zero = choice_at k (from_bits 0)
best_to k (suc e) = better k (best_to k e) (from_bits (suc e))

-- a limit is one below the counts
abbrev pub planned_by : Choice → Option Plan
planned_by c = some_plan c.divisor (c.counts - 1)

-- none for 0 and above 1,350,000, and otherwise the best of the eight
unfoldable pub plan_of : ℕ → Option Plan
plan_of w = choose (is_no_speed w) None (planned_by (best_to (per_minute / w) 7))
