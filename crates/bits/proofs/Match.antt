-- A match on a number, arm by arm: an arm's value is the definition's where a test says so at each of its keys, and the
-- last arm's where a test says so at each number below a bound that is no key. Assumes nothing.
use mathlib.Core.Path.{◌≡◌, subst, sym}
use mathlib.Core.Bool.{Bool, true, false, ◌||◌}
use mathlib.Core.List.{List, [], ◌∷◌}
use mathlib.Core.Logic.{◌⊎◌, inl, inr, ⊎_elim}
use Prim.Native.Nat.{ℕ, ◌<◌, ◌≤◌}
use lib.Dec.{T, eqb, eqb→eq}
use types.Run.{OneOf}
use Rattle.bits.proofs.Every.{both, both_left, both_right, every, every_at, by_bound}

-- the value v at each of the keys
abbrev pub all_keys : (ℕ → ℕ) → ℕ → List ℕ → Bool
all_keys f v [] = true
all_keys f v (k ∷ ks) = both (eqb v (f k)) (all_keys f v ks)

at_key : (f : ℕ → ℕ) (v k x : ℕ) → T (eqb v (f k)) → x ≡ k → v ≡ f x
at_key f v k x t e = subst (λ (y : ℕ). v ≡ f y) (sym e) (eqb→eq v (f k) t)

pub arm : (f : ℕ → ℕ) (v : ℕ) (ks : List ℕ) → T (all_keys f v ks) → (x : ℕ) → OneOf ks x → v ≡ f x
arm f v [] t x h = absurd h
arm f v (k ∷ []) t x h = at_key f v k x (both_left (eqb v (f k)) true t) h
arm f v (k ∷ k' ∷ ks) t x h =
    ⊎_elim (at_key f v k x (both_left (eqb v (f k)) (all_keys f v (k' ∷ ks)) t))
    (arm f v (k' ∷ ks) (both_right (eqb v (f k)) (all_keys f v (k' ∷ ks)) t) x) h

-- x is none of the keys of the arms, the last arm's first
abbrev pub NoKey : List (List ℕ) → ℕ → Type 0
NoKey [] x = Unit {0}
NoKey (ks ∷ kss) x = NoKey kss x × (OneOf ks x → ⊥)

abbrev pub is_key : List ℕ → ℕ → Bool
is_key [] x = false
is_key (k ∷ ks) x = eqb x k || is_key ks x

abbrev pub is_some : List (List ℕ) → ℕ → Bool
is_some [] x = false
is_some (ks ∷ kss) x = is_key ks x || is_some kss x

pub or_either : (a b : Bool) → T (a || b) → T a ⊎ T b
or_either true b t = inl tt
or_either false b t = inr t

no_key : (ks : List ℕ) (x : ℕ) → (OneOf ks x → ⊥) → T (is_key ks x) → ⊥
no_key [] x n t = t
no_key (k ∷ []) x n t = ⊎_elim (λ e. n (eqb→eq x k e)) (λ e. e) (or_either (eqb x k) false t)
no_key (k ∷ k' ∷ ks) x n t =
    ⊎_elim (λ e. n (inl (eqb→eq x k e))) (no_key (k' ∷ ks) x (λ h. n (inr h)))
    (or_either (eqb x k) (is_key (k' ∷ ks) x) t)

no_some : (kss : List (List ℕ)) (x : ℕ) → NoKey kss x → T (is_some kss x) → ⊥
no_some [] x n t = t
no_some (ks ∷ kss) x n t = ⊎_elim (no_key ks x n.1) (no_some kss x n.0) (or_either (is_key ks x) (is_some kss x) t)

-- v at each number below n that is no key
abbrev pub elsewhere : (ℕ → ℕ) → ℕ → List (List ℕ) → ℕ → Bool
elsewhere f v kss n = every (λ x. is_some kss x || eqb v (f x)) n

pub last_arm : (f : ℕ → ℕ) (v : ℕ) (kss : List (List ℕ)) (n : ℕ) → T (elsewhere f v kss n) → (x : ℕ) → x < n
    → NoKey kss x → v ≡ f x
last_arm f v kss n t x h m =
    ⊎_elim (λ s. absurd (no_some kss x m s)) (eqb→eq v (f x))
    (or_either (is_some kss x) (eqb v (f x)) (every_at (λ x. is_some kss x || eqb v (f x)) n t x h))

-- v at each number that is no key, where it is v from n on
pub rest_arm : (f : ℕ → ℕ) (v : ℕ) (kss : List (List ℕ)) (n : ℕ) → T (elsewhere f v kss n)
    → ((x : ℕ) → n ≤ x → v ≡ f x) → (x : ℕ) → NoKey kss x → v ≡ f x
rest_arm f v kss n t beyond x m = by_bound n x (λ h. last_arm f v kss n t x h m) (beyond x)
