-- A number's word: below 2^24, where the kind begins, as the number is.
-- Assumes nothing.
use Prim.Native.Nat.{ℕ, ◌<◌}
use native.Mathlib.Omega.{arith}
use Rattle.fan.specs.declared.Divisor.{Divisor}
use Rattle.fan.proofs.Speeds.{speed_claims}
use Rattle.image.specs.Words.{SpeedWords}

pub speed_words : SpeedWords
speed_words = record {
  numbers = λ (n : ℕ) (d : Divisor) (h : 0 < n) (k : n < 255).
      let is = speed_claims.numbers n d h k in
      rw is.number (omega (arith, is.most, speed_claims.bits));
}
