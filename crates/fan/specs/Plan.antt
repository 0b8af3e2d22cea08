-- What a plan is, and what is claimed of it (rules P-1 to P-3, P-8).
use Rattle.std.specs.Prelude.{ℕ, ◌+◌, ◌*◌, ◌/◌, ◌≤◌, ◌≡◌, Bool, true, ◌||◌, eqb, leb, ltb, Option, Some, None}
use Rattle.answers.specs.Answers as answers
use Rattle.bits.specs.Bits.{choose}
use Rattle.fan.specs.declared.Divisor.{Divisor}
use Rattle.fan.specs.declared.Plan.{Plan}
use Rattle.fan.specs.Count.{per_minute, value_of, IsDivisor, stored_of, count_of, over_limit}

-- the plan of a divisor and a limit
abbrev pub some_plan : Divisor → ℕ → Option Plan
some_plan d l = Some (record { divisor = d; limit = l })

-- the answer: a plan is accepted, none is A-6
abbrev pub plan_answer : Option Plan → ℕ
plan_answer (Some p) = 0
plan_answer None = answers.bad_speed

-- the divisor d of a plan; of none 0
abbrev pub plan_divisor : Option Plan → ℕ
plan_divisor (Some p) = value_of p.divisor
plan_divisor None = 0

-- the limit L of a plan; of none 0
abbrev pub plan_limit : Option Plan → ℕ
plan_limit (Some p) = p.limit
plan_limit None = 0

-- (L+1)d, the least u that a divisor d and a limit L from 0 to 254 ring for
abbrev pub rings_from : ℕ → ℕ → ℕ
rings_from d l = (l + 1) * d

-- P-2: K = 1,350,000 / w rounded down
abbrev pub asked : ℕ → ℕ
asked w = per_minute / w

pub record IsPlan (w d l : ℕ) : Type 0 where
  -- P-1
  pub divisor : IsDivisor d
  pub limit : l ≤ 254
  -- P-2: the largest (L+1)d not above K
  pub within : rings_from d l ≤ asked w
  pub largest : (e m : ℕ) → IsDivisor e → m ≤ 254 → rings_from e m ≤ asked w → rings_from e m ≤ rings_from d l
  -- P-2: of equals the smallest d
  pub smallest : (e m : ℕ) → IsDivisor e → m ≤ 254 → rings_from e m ≡ rings_from d l → d ≤ e

-- A-6: 0, or above 1,350,000
abbrev pub is_no_speed : ℕ → Bool
is_no_speed w = eqb w 0 || ltb per_minute w

-- it is answered 6, any other is accepted
abbrev pub answer_for : ℕ → ℕ
answer_for w = choose (is_no_speed w) answers.bad_speed 0

-- the planner's answer to w: refused exactly when the table says so, and otherwise the plan
pub record IsPlanned (w : ℕ) (p : Option Plan) : Type 0 where
  pub answer : plan_answer p ≡ answer_for w
  pub plan : plan_answer p ≡ 0 → IsPlan w (plan_divisor p) (plan_limit p)

-- P-8: a divisor and a limit ring for u when its stored count is above the limit
abbrev pub rings_at : ℕ → ℕ → ℕ → Bool
rings_at d l u = over_limit (stored_of u d) l

-- P-3: from (L+1)d on
abbrev pub plan_rings : ℕ → ℕ → ℕ → Bool
plan_rings d l u = leb (rings_from d l) u

-- rings at every speed a/b up to w
abbrev pub Covers : ℕ → ℕ → ℕ → Type 0
Covers d l w = (a b : ℕ) → 1 ≤ b → a ≤ w * b → rings_at d l (count_of a b) ≡ true

-- what holds of every plan
pub record Plans : Type 0 where
  -- no speed has two answers
  pub unique : (w : ℕ) (p q : Option Plan) → IsPlanned w p → IsPlanned w q → p ≡ q
  -- a plan rings as its sentence says
  pub exact : (w d l : ℕ) → IsPlan w d l → (u : ℕ) → rings_at d l u ≡ plan_rings d l u
  -- a plan for w rings at every speed up to w
  pub covers : (w d l : ℕ) → IsPlan w d l → Covers d l w
  -- what rings at all those speeds rings at every speed where the plan rings
  pub least : (w d l : ℕ) → IsPlan w d l → (e m : ℕ) → IsDivisor e → m ≤ 255 → Covers e m w
      → (a b : ℕ) → 1 ≤ b → rings_at d l (count_of a b) ≡ true → rings_at e m (count_of a b) ≡ true
