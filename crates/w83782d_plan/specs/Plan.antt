-- Setting a plan on a state (rule P-5).
use Rattle.std.specs.Prelude.{ℕ}
use Rattle.answers.specs.Answers as answers
use Rattle.bits.specs.Bits.{choose, is_beyond}
use Rattle.fan_settings.specs.Settings.{Fan, fan_at, planned_registers}
use Rattle.fan.specs.Plan.{plan_answer}
use Rattle.fan.specs.Search.{plan_of}
use Rattle.w83782d_bus.specs.Bus.{State, state, Written, written}
use Rattle.w83782d_map.specs.Cells.{fan_limit}
use Rattle.w83782d_store.specs.Stored.{divisor_places}

-- how many fans, and where the limit and the three divisor bits of each are
abbrev pub fans : ℕ
fans = 3

abbrev pub fan_of : ℕ → Fan
fan_of f = fan_at (fan_limit f) (divisor_places f)

-- whatever bank is selected, and whether or not samples are stopped; A-7 before A-6, refused with the state as it was
unfoldable pub set_plan_of : State → ℕ → ℕ → Written
set_plan_of s f w =
    choose (is_beyond fans f) (written s answers.no_channel)
    (written (state (planned_registers s.registers (fan_of f) (plan_of w)) s.latches) (plan_answer (plan_of w)))
