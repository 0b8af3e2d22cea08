-- What bounds the products of a rail, and when a channel is refused, row by row.
-- Assumes nothing.
use Prim.Native.Nat.{ℕ, zero, suc, ◌+◌, ◌*◌, ◌≤◌, ◌<◌}
use native.Mathlib.Nat.{mul-le-mul}
use native.Mathlib.Omega.{arith}
use mathlib.Core.Path.{◌≡◌, refl}
use mathlib.Core.Bool.{Bool, true, false, not, ◌&&◌}
use borrow.Author.Tests.{lt-ltb}
use Rattle.bits.specs.Bits.{choose}
use Rattle.std.specs.Prelude.{None}
use Rattle.analog.specs.Readings.{reading, reading_answer, is_resistor}
use Rattle.analog.specs.Readings.{rail_of, millivolts_of, answer_for, VoltageAnswers}

pub rail_le : (c a b : ℕ) → c < 256 → a ≤ 1000 → b ≤ 1000 → 16 * c * (a + b) ≤ 8160000
rail_le c a b h p q = mul-le-mul {n₂ = 4080} {m₂ = 2000} (omega arith) (omega arith)

-- a rail is refused exactly when a resistor is
rail_answer : (c r5 r6 : ℕ) → reading_answer (rail_of c r5 r6) ≡ choose (not (is_resistor r5 && is_resistor r6)) 7 0
unfolding rail_of
rail_answer c r5 r6 = go (is_resistor r5 && is_resistor r6)
  where
    go : (t : Bool)
        → reading_answer (choose t (reading (16 * c * (r5 + r6)) (3600 * r5) r6) None) ≡ choose (not t) 7 0
    go true = refl
    go false = refl

exactly : (channel c r5 r6 : ℕ) → reading_answer (millivolts_of channel c r5 r6) ≡ answer_for channel r5 r6
unfolding millivolts_of
exactly zero c r5 r6 = refl
exactly (suc zero) c r5 r6 = refl
exactly (suc (suc zero)) c r5 r6 = refl
exactly (suc (suc (suc zero))) c r5 r6 = refl
exactly (suc (suc (suc (suc zero)))) c r5 r6 = refl
exactly (suc (suc (suc (suc (suc zero))))) c r5 r6 = rail_answer c r5 r6
exactly (suc (suc (suc (suc (suc (suc zero)))))) c r5 r6 = rail_answer c r5 r6
exactly (suc (suc (suc (suc (suc (suc (suc k))))))) c r5 r6 =
    simp (lt-ltb 6 (suc (suc (suc (suc (suc (suc (suc k))))))) (omega arith))

pub answers_hold : VoltageAnswers
answers_hold = record { exactly = exactly }
