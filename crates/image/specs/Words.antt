-- Values packed into one word for C: an answer number in the high bits, what it carries below.
use Rattle.std.specs.Prelude.{ℕ, ◌+◌, ◌*◌, ◌^◌, ◌<◌, Option, Result, Ok, Err}
use Rattle.answers.specs.Refusals.{refusal_number}
use Rattle.answers.specs.declared.Refusal.{Refusal}
use Rattle.fan.specs.declared.Plan.{Plan}
use Rattle.fan.specs.Plan.{plan_answer, plan_divisor, plan_limit}
use Rattle.fan.specs.declared.Divisor.{Divisor}
use Rattle.fan.specs.Count.{value_of}
use Rattle.fan.specs.Speed.{count_speed}
use Rattle.fan.specs.declared.Speed.{Speed}
use Rattle.fan.specs.declared.Speed.TheVariants as speed
use Rattle.image.specs.Image.{read_word}

-- answer * 256 + byte; refused with byte 0
abbrev pub answer_word : Result ℕ Refusal → ℕ
answer_word (Ok byte) = read_word 0 byte
answer_word (Err r) = read_word (refusal_number r) 0

-- answer * 65536 + what it carries, 16 bits; refused with none
abbrev pub wide_word : Result ℕ Refusal → ℕ
wide_word (Ok n) = n
wide_word (Err r) = refusal_number r * 65536

-- answer * 65536 + divisor * 256 + limit
abbrev pub plan_word : Option Plan → ℕ
plan_word p = plan_answer p * 65536 + plan_divisor p * 256 + plan_limit p

-- the top byte: 0 a number, 1 too fast, 2 too slow, 80h + answer when refused; the number below it
abbrev pub top_byte : ℕ → ℕ
top_byte b = b * 2 ^ 24

abbrev pub refused_word : ℕ → ℕ
refused_word answer = top_byte (0x80 + answer)

abbrev pub speed_word : Speed → ℕ
speed_word (speed.Tenths n) = n
speed_word speed.TooFast = top_byte 1
speed_word speed.TooSlow = top_byte 2
speed_word (speed.Refused r) = refused_word (refusal_number r)

-- what is claimed of a number's word: it is below every other kind's
pub record SpeedWords : Type 0 where
  pub numbers : (n : ℕ) (d : Divisor) → 0 < n → n < 255 → speed_word (count_speed n (value_of d)) < top_byte 1
