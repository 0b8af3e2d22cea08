-- No refusal has the number of an accepted call, and no two have one number: so an answer's number says what it is.
-- Each is read off case by case; the second by going back from a number to its refusal. Assumes nothing.
use Rattle.std.specs.Prelude.{ℕ, zero, suc, ◌≡◌, ◌≢◌}
use native.Mathlib.Omega.{arith}
use mathlib.Core.Path.{refl, sym, ◌∙◌, ap}
use Rattle.answers.specs.declared.Refusal.{Refusal}
use Rattle.answers.specs.declared.Refusal.TheVariants.{Absent, ReadOnly, BadTemperature, Stopped, BadRecord}
use Rattle.answers.specs.declared.Refusal.TheVariants.{BadSpeed, NoChannel, WrongLength, OffsetLocked, DayFull}
use Rattle.answers.specs.Refusals.{refusal_number}

-- the refusal of a number; of any other DayFull
abbrev refusal_at : ℕ → Refusal
refusal_at (suc zero) = Absent
refusal_at (suc (suc zero)) = ReadOnly
refusal_at (suc (suc (suc zero))) = BadTemperature
refusal_at (suc (suc (suc (suc zero)))) = Stopped
refusal_at (suc (suc (suc (suc (suc zero))))) = BadRecord
refusal_at (suc (suc (suc (suc (suc (suc zero)))))) = BadSpeed
refusal_at (suc (suc (suc (suc (suc (suc (suc zero))))))) = NoChannel
refusal_at (suc (suc (suc (suc (suc (suc (suc (suc zero)))))))) = WrongLength
refusal_at (suc (suc (suc (suc (suc (suc (suc (suc (suc zero))))))))) = OffsetLocked
refusal_at _ = DayFull

at_number : (r : Refusal) → refusal_at (refusal_number r) ≡ r
at_number Absent = refl
at_number ReadOnly = refl
at_number BadTemperature = refl
at_number Stopped = refl
at_number BadRecord = refl
at_number BadSpeed = refl
at_number NoChannel = refl
at_number WrongLength = refl
at_number OffsetLocked = refl
at_number DayFull = refl

pub one_refusal : (r s : Refusal) → refusal_number r ≡ refusal_number s → r ≡ s
one_refusal r s e = sym (at_number r) ∙ ap refusal_at e ∙ at_number s

pub is_refused : (r : Refusal) → refusal_number r ≢ 0
is_refused Absent = omega arith
is_refused ReadOnly = omega arith
is_refused BadTemperature = omega arith
is_refused Stopped = omega arith
is_refused BadRecord = omega arith
is_refused BadSpeed = omega arith
is_refused NoChannel = omega arith
is_refused WrongLength = omega arith
is_refused OffsetLocked = omega arith
is_refused DayFull = omega arith
