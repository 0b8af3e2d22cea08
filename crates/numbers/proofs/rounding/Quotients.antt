-- What nearest with halves up means, as a quotient rounded down lies within one divisor; and how large it gets.
-- Assumes nothing.
use Rattle.std.proofs.Common.{◌≡◌, ℕ, ◌+◌, ◌*◌, ◌/◌, ◌<◌, ◌≤◌, sym, ap, ◌∙◌, subst, mul_assoc, suc-mul, mul_comm, div-lt_iff_lt-mul, pos_of_ne-zero, div-le_self, le-mul_of_pos_right, div-mul-le_self, add-one, arith}
use native.Mathlib.Nat.{lt-mul-div-succ}
use native.Mathlib.Nat.{div-zero}
use Rattle.numbers.specs.Rounding.{nearest, Nearest}

-- 2 q d is q times 2 d
doubled : (q d : ℕ) → 2 * q * d ≡ q * (2 * d)
doubled q d = ap (λ (x : ℕ). x * d) (mul_comm 2 q) ∙ mul_assoc q 2 d

pub nearest_holds : Nearest
unfolding nearest
nearest_holds n d h =
    record {
      below =
          subst (λ (x : ℕ). 2 * n + d < x) (mul_comm (2 * d) (nearest n d + 1) ∙ sym (doubled (nearest n d + 1) d))
          (lt-mul-div-succ (2 * n + d) {b = 2 * d} (omega arith));
      at_least = rw doubled (div-mul-le_self (2 * n + d) (2 * d));
    }

pub nearest_le : (n d : ℕ) → nearest n d ≤ 2 * n + d
unfolding nearest
nearest_le n d = div-le_self (2 * n + d) (2 * d)

pub by_zero : (n d : ℕ) → d ≡ 0 → 0 ≡ nearest n d
unfolding nearest
by_zero n d e = sym (ap (λ (x : ℕ). (2 * n + x) / (2 * x)) e ∙ div-zero (2 * n + 0))

-- a quotient by at least 1 is at most the number
nearest_within : (n d : ℕ) → 0 < d → (2 * n + d) / (2 * d) ≤ n
nearest_within n d h =
    let more : n ≤ n * d = le-mul_of_pos_right n h in
    let one : (n + 1) * d ≡ n * d + d = ap (λ (x : ℕ). x * d) (add-one n) ∙ suc-mul n d in
    let twice : (n + 1) * (2 * d) ≡ 2 * ((n + 1) * d) =
    sym (mul_assoc (n + 1) 2 d) ∙ ap (λ (x : ℕ). x * d) (mul_comm (n + 1) 2) ∙ mul_assoc 2 (n + 1) d in
    let less : 2 * n + d < (n + 1) * (2 * d) = rw twice (omega arith) in
    let below : (2 * n + d) / (2 * d) < n + 1 =
    (div-lt_iff_lt-mul {k = 2 * d} {x = 2 * n + d} {y = n + 1} (omega arith)).1 less in
    omega arith

pub within : (n d m : ℕ) → (d ≡ 0 → ⊥) → n < m → (2 * n + d) / (2 * d) < m
within n d m z h = omega (arith, nearest_within n d (pos_of_ne-zero z))
