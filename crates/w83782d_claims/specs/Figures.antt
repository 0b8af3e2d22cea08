-- The marked figures of document 01, "Figures to try", as one table, about the definitions that the contracts cite.
use Rattle.std.specs.Prelude.{ℕ, ◌≡◌, List, [], ◌∷◌, map, ℤ, pos, neg_ℤ, length}
use Rattle.fan.specs.Plan.{plan_answer, plan_divisor, plan_limit}
use Rattle.fan.specs.Search.{plan_of}
use Rattle.fan.specs.Speed.{speed_answer, speed_value, count_speed}
use Rattle.analog.specs.Readings.{reading_answer, reading_value, millivolts_of}

-- what is asked: a plan for w rpm, the speed of a count and a divisor, the millivolts of
-- a channel, a code and two resistors
pub data Question : Type 0 where
  plan : ℕ → Question
  speed : ℕ → ℕ → Question
  volts : ℕ → ℕ → ℕ → ℕ → Question

-- a reply: the number of the answer table, and the values
pub record Reply : Type 0 where
  pub answer : ℕ
  pub values : List ℤ

pub record Figure : Type 0 where
  pub question : Question
  pub reply : Reply

-- the channels of the figures
abbrev pub plus5 : ℕ
plus5 = 3

abbrev pub plus12 : ℕ
plus12 = 4

abbrev pub minus12 : ℕ
minus12 = 5

abbrev pub reply_to : Question → Reply
reply_to (plan w) =
    record { answer = plan_answer (plan_of w); values = pos (plan_divisor (plan_of w)) ∷ pos (plan_limit (plan_of w)) ∷ [] }
reply_to (speed count d) =
    record { answer = speed_answer (count_speed count d); values = pos (speed_value (count_speed count d)) ∷ [] }
reply_to (volts channel c r5 r6) =
    record {
      answer = reading_answer (millivolts_of channel c r5 r6);
      values = reading_value (millivolts_of channel c r5 r6) ∷ [];
    }

infix 4 ◌⇒◌
abbrev pub ◌⇒◌ : Question → Reply → Figure
q ⇒ t = record { question = q; reply = t }

-- a plan of d and L, no plan, and one number
abbrev pub plan_is : ℕ → ℕ → Reply
plan_is d l = record { answer = 0; values = pos d ∷ pos l ∷ [] }

abbrev pub no_plan : Reply
no_plan = record { answer = 6; values = pos 0 ∷ pos 0 ∷ [] }

abbrev pub number_is : ℤ → Reply
number_is z = record { answer = 0; values = z ∷ [] }

abbrev pub figures : List Figure
figures =
    (plan 4400 ⇒ plan_is 2 152)
    ∷ (plan 1350000 ⇒ plan_is 1 0)
    ∷ (plan 1 ⇒ plan_is 128 254)
    ∷ (plan 42 ⇒ plan_is 128 250)
    ∷ (plan 5295 ⇒ plan_is 1 253)
    ∷ (plan 2641 ⇒ plan_is 2 254)
    ∷ (plan 0 ⇒ no_plan)
    ∷ (plan 1350001 ⇒ no_plan)
    ∷ (speed 153 2 ⇒ number_is (pos 44118))
    ∷ (volts plus5 186 0 0 ⇒ number_is (pos 5000))
    ∷ (volts plus12 197 0 0 ⇒ number_is (pos 11978))
    ∷ (volts minus12 35 232 56 ⇒ number_is (neg_ℤ (pos 12034)))
    ∷ (volts minus12 182 232 56 ⇒ number_is (pos 62))
    ∷ []

-- all thirteen, and the reply to every question of the table is what the table says
abbrev pub Figures : Type 0
Figures =
    (length figures ≡ 13)
    × (map (λ (f : Figure). reply_to f.question) figures ≡ map (λ (f : Figure). f.reply) figures)
