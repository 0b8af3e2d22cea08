-- The computed test: a Bool test at every number below n, true by computing, and the fact at each that follows.
-- Assumes nothing.
use mathlib.Core.Path.{◌≡◌, subst, sym, refl}
use mathlib.Core.Bool.{Bool, true, false, beq}
use mathlib.Core.Logic.{⊎_elim}
use Prim.Native.Nat.{ℕ, zero, suc, ◌<◌, ◌≤◌}
use native.Mathlib.Decide.{dec_lt}
use native.Mathlib.Omega.{arith}
use native.Mathlib.Nat.{not-suc-le-zero, eq-or-lt_of_le, le_of_suc-le-suc}
use lib.Dec.{T, eqb, eqb→eq, ltb, ltb→lt}

abbrev pub both : Bool → Bool → Bool
both true b = b
both false b = false

pub both_left : (a b : Bool) → T (both a b) → T a
both_left true b t = tt
both_left false b t = t

pub both_right : (a b : Bool) → T (both a b) → T b
both_right true b t = t
both_right false b t = absurd t

-- the test f passes at each number below n
abbrev pub every : (ℕ → Bool) → ℕ → Bool
every f zero = true
every f (suc n) = both (f n) (every f n)

pub every_at : (f : ℕ → Bool) (n : ℕ) → T (every f n) → (k : ℕ) → k < n → T (f k)
every_at f zero t k h = absurd (not-suc-le-zero h)
every_at f (suc n) t k h =
    ⊎_elim (λ e. subst (λ (m : ℕ). T (f m)) (sym e) (both_left (f n) (every f n) t))
    (λ l. every_at f n (both_right (f n) (every f n) t) k l) (eq-or-lt_of_le (le_of_suc-le-suc h))

pub every_at2 : (f : ℕ → ℕ → Bool) (n m : ℕ) → T (every (λ a. every (f a) m) n) → (a b : ℕ) → a < n → b < m → T (f a b)
every_at2 f n m t a b ha hb = every_at (f a) m (every_at (λ x. every (f x) m) n t a ha) b hb

-- by a number below n, or from n on
pub by_bound : {A : Type 0} (n k : ℕ) → (k < n → A) → (n ≤ k → A) → A
by_bound {A} n k below beyond = go (dec_lt k n)
  where
    go : Dec (k < n) → A
    go (yes h) = below h
    go (no m) = beyond (omega arith)

-- two functions agree below n, by computing both
pub same_below : (n : ℕ) (f g : ℕ → ℕ) → T (every (λ k. eqb (f k) (g k)) n) → (k : ℕ) → k < n → f k ≡ g k
same_below n f g t k h = eqb→eq (f k) (g k) (every_at (λ x. eqb (f x) (g x)) n t k h)

pub less_below : (n : ℕ) (f g : ℕ → ℕ) → T (every (λ k. ltb (f k) (g k)) n) → (k : ℕ) → k < n → f k < g k
less_below n f g t k h = ltb→lt (f k) (g k) (every_at (λ x. ltb (f x) (g x)) n t k h)

pub same_below2 : (n m : ℕ) (f g : ℕ → ℕ → ℕ) → T (every (λ a. every (λ b. eqb (f a b) (g a b)) m) n) → (a b : ℕ)
    → a < n → b < m → f a b ≡ g a b
same_below2 n m f g t a b ha hb = eqb→eq (f a b) (g a b) (every_at2 (λ x y. eqb (f x y) (g x y)) n m t a b ha hb)

-- two tests that agree by computing
pub beq_same : (a b : Bool) → T (beq a b) → a ≡ b
beq_same true true t = refl
beq_same true false t = absurd t
beq_same false true t = absurd t
beq_same false false t = refl

pub same_tests : (n : ℕ) (f g : ℕ → Bool) → T (every (λ k. beq (f k) (g k)) n) → (k : ℕ) → k < n → f k ≡ g k
same_tests n f g t k h = beq_same (f k) (g k) (every_at (λ x. beq (f x) (g x)) n t k h)
