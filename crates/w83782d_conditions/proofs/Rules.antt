-- Sensors 2 and 3, over the number: neither is sensor 1. Assumes nothing.
use mathlib.Core.Path.{◌≡◌}
use mathlib.Core.Bool.{false}
use Prim.Native.Nat.{ℕ, ◌≤◌}
use native.Mathlib.Omega.{arith}
use borrow.Author.Tests.{ne_eqb}
use lib.Dec.{eqb}

pub not_one : (n : ℕ) → 2 ≤ n → eqb n 1 ≡ false
not_one n h = ne_eqb n 1 (λ e. omega arith)
