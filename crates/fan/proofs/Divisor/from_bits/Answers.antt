-- Each arm has the low three bits as a number, at which the list of the eight computes;
-- the last arm is what is left, 7. Assumes nothing.
use native.Mathlib.Omega.{arith}
use Prim.Native.Nat.{◌%◌}
use mathlib.Core.Path.{◌≡◌}
use Rattle.fan.specs.Count.{from_bits}
use Rattle.fan.proofs.Divisors.{bits_of}
use Rattle.fan.proofs.Divisor.from_bits.Goals as goal

pub returns-in-0 : goal.returns-in-0
unfolding from_bits
returns-in-0 c = bits_of _ (rw c.in-0.is)

pub returns-in-1 : goal.returns-in-1
unfolding from_bits
returns-in-1 c = bits_of _ (rw c.in-1.is)

pub returns-in-2 : goal.returns-in-2
unfolding from_bits
returns-in-2 c = bits_of _ (rw c.in-2.is)

pub returns-in-3 : goal.returns-in-3
unfolding from_bits
returns-in-3 c = bits_of _ (rw c.in-3.is)

pub returns-in-4 : goal.returns-in-4
unfolding from_bits
returns-in-4 c = bits_of _ (rw c.in-4.is)

pub returns-in-5 : goal.returns-in-5
unfolding from_bits
returns-in-5 c = bits_of _ (rw c.in-5.is)

pub returns-in-6 : goal.returns-in-6
unfolding from_bits
returns-in-6 c = bits_of _ (rw c.in-6.is)

pub returns-in_default : goal.returns-in_default
unfolding from_bits
returns-in_default c = let left : c.args.bits % 8 ≡ 7 = omega arith in bits_of _ (rw left)
