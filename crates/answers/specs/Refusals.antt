-- A refusal's number, and that of an answer: 0 where the call is accepted (A-0).
use Rattle.std.specs.Prelude.{ℕ, Result, Ok, Err}
use Rattle.answers.specs.Answers as answers
use Rattle.answers.specs.declared.Refusal.{Refusal}
use Rattle.answers.specs.declared.Refusal.TheVariants.{Absent, ReadOnly, BadTemperature, Stopped, BadRecord}
use Rattle.answers.specs.declared.Refusal.TheVariants.{BadSpeed, NoChannel, WrongLength, OffsetLocked, DayFull}

abbrev pub refusal_number : Refusal → ℕ
refusal_number Absent = answers.absent
refusal_number ReadOnly = answers.read_only
refusal_number BadTemperature = answers.bad_temperature
refusal_number Stopped = answers.stopped
refusal_number BadRecord = answers.bad_record
refusal_number BadSpeed = answers.bad_speed
refusal_number NoChannel = answers.no_channel
refusal_number WrongLength = answers.wrong_length
refusal_number OffsetLocked = answers.offset_locked
refusal_number DayFull = answers.day_full

abbrev pub answer_of : {A : Type 0} → Result A Refusal → ℕ
answer_of (Ok _) = 0
answer_of (Err r) = refusal_number r
