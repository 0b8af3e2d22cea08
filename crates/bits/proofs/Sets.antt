-- A set of numbers given as two words of bits: none from 128 on, and below what a test says by computing both.
-- Assumes nothing.
use mathlib.Core.Path.{◌≡◌, sym, ◌∙◌}
use mathlib.Core.Bool.{Bool, false, beq}
use Prim.Native.Nat.{ℕ, ◌≤◌}
use native.Mathlib.Omega.{arith}
use borrow.Author.Tests.{le-ltb}
use lib.Dec.{T}
use Rattle.bits.specs.Bits.{in_set}
use Rattle.bits.proofs.Every.{every, same_tests, by_bound}

pub in_none : (l h n : ℕ) → 128 ≤ n → false ≡ in_set l h n
in_none l h n k = simp (le-ltb n 64 (omega arith), le-ltb n 128 k)

-- a set is what a test says: by computing both below 128, and the test says no from there on
pub set_is : (l h : ℕ) (f : ℕ → Bool) → T (every (λ n. beq (in_set l h n) (f n)) 128)
    → ((n : ℕ) → 128 ≤ n → false ≡ f n) → (n : ℕ) → in_set l h n ≡ f n
set_is l h f t none n = by_bound 128 n (same_tests 128 (in_set l h) f t n) (λ k. sym (in_none l h n k) ∙ none n k)
