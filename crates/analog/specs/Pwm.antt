-- PWM duty (rule R-3).
use Rattle.std.specs.Prelude.{ℕ, eqb}
use Rattle.bits.specs.Bits.{choose}

-- R-3: on for x of 256 parts, FFh for all of them
abbrev pub pwm_parts : ℕ → ℕ
pwm_parts x = choose (eqb x 255) 256 x
