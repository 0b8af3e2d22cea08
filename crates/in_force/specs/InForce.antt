-- How long a plan is in force over a list of calls, for any machine (rules P-6, P-7).
-- It is computed from the calls and their answers alone, never from the registers. decision D-49
use Rattle.std.specs.Prelude.{◌≡◌, Bool, true, false, not, ◌&&◌, ◌||◌, ◌≢◌, ℕ, eqb}
use mathlib.Core.List.{List, [], ◌∷◌, ◌++◌, foldl}
use Rattle.std.specs.Int.Bits.{bit_and}
use Rattle.bits.specs.Bits.{choose, Change}

-- ---- a rewrite, of the bits that setting a plan gave

-- two changes give a bit of one cell different values
abbrev pub differ : Change → Change → Bool
differ c e =
    eqb e.cell c.cell
    && not (eqb (bit_and e.byte (bit_and c.mask e.mask)) (bit_and c.byte (bit_and c.mask e.mask)))

abbrev pub rewrites : List Change → Change → Bool
rewrites [] e = false
rewrites (c ∷ cs) e = differ c e || rewrites cs e

-- a rewrite: one of the changes that a call makes gives a bit of the fan's limit or
-- divisor another value than the plan's
abbrev pub rewritten : List Change → List Change → Bool
rewritten cs [] = false
rewritten cs (e ∷ es) = rewrites cs e || rewritten cs es

-- ---- in force: from the call that sets it, answered 0, until a reset, a rewrite or the next accepted plan on that fan
pub data Force (P : Type 0) : Type 0 where
  none : Force P
  plan : P → Force P

-- a machine with states S, calls C and plans P, as one fan sees it
pub record Machine (S C P : Type 0) : Type 0 where
  pub step : S → C → S
  pub answer : S → C → ℕ
  -- the plan on this fan that a call sets where it is accepted; of every other call none
  pub sets : C → Force P
  -- a call that, accepted, is a reset or a rewrite
  pub ends : P → C → Bool

-- a reset or a rewrite ends it
abbrev pub outlasting : {S C P : Type 0} → Machine S C P → Force P → C → Force P
outlasting M none c = none
outlasting M (plan p) c = choose (M.ends p c) none (plan p)

-- the next accepted plan on the fan takes its place
abbrev pub replaced_by : {P : Type 0} → Force P → Force P → Force P
replaced_by old none = old
replaced_by old (plan p) = plan p

-- what is in force after a call that was answered a: a refused call ends nothing
abbrev pub after_call : {S C P : Type 0} → Machine S C P → Force P → C → ℕ → Force P
after_call M p c a = choose (eqb a 0) (replaced_by (outlasting M p c) (M.sets c)) p

-- ---- lists of calls

-- what a call finds: a state, and the plan then in force
pub record Found (S P : Type 0) : Type 0 where
  pub state : S
  pub force : Force P

abbrev pub found : {S P : Type 0} → S → Force P → Found S P
found s p = record { state = s; force = p }

-- and what it leaves to the next call
abbrev pub next : {S C P : Type 0} → Machine S C P → Found S P → C → Found S P
next M x c = found (M.step x.state c) (after_call M x.force c (M.answer x.state c))

-- what a list of calls leaves, each of which finds what the one before it left
abbrev pub after_all : {S C P : Type 0} → Machine S C P → Found S P → List C → Found S P
after_all M x cs = foldl (next M) x cs

-- what that comes to, call by call
pub record InForce {S C P : Type 0} (M : Machine S C P) : Type 0 where
  -- an accepted plan on the fan is in force, whatever was before
  pub set : (s : S) (p : Force P) (q : P) (c : C) → M.answer s c ≡ 0 → M.sets c ≡ plan q
      → (next M (found s p) c).force ≡ plan q
  -- any other accepted call ends the plan exactly if it is a reset or a rewrite, and puts none in force
  pub ended : (s : S) (p : P) (c : C) → M.answer s c ≡ 0 → M.sets c ≡ none → M.ends p c ≡ true
      → (next M (found s (plan p)) c).force ≡ none
  pub kept : (s : S) (p : P) (c : C) → M.answer s c ≡ 0 → M.sets c ≡ none → M.ends p c ≡ false
      → (next M (found s (plan p)) c).force ≡ plan p
  pub nothing : (s : S) (c : C) → M.answer s c ≡ 0 → M.sets c ≡ none → (next M (found s none) c).force ≡ none
  -- a refused call ends nothing
  pub refused : (s : S) (p : Force P) (c : C) → M.answer s c ≢ 0 → (next M (found s p) c).force ≡ p
  -- each call finds what the one before it left, plan and state
  pub first : (x : Found S P) → after_all M x [] ≡ x
  pub each : (x : Found S P) (before : List C) (c : C)
      → after_all M x (before ++ c ∷ []) ≡ next M (after_all M x before) c
  pub state : (x : Found S P) (cs : List C) → (after_all M x cs).state ≡ foldl M.step x.state cs

-- ---- what a machine must have
-- `Fit` is true of every state that calls can find, `Has s p` where the fan's limit and divisor in s are the plan's
pub record Laws {S C P : Type 0} (M : Machine S C P) (Fit : S → Type 0) (Has : S → P → Type 0) : Type 0 where
  pub fit : (s : S) (c : C) → Fit s → Fit (M.step s c)
  pub refused : (s : S) (c : C) → M.answer s c ≢ 0 → M.step s c ≡ s
  pub set : (s : S) (c : C) (p : P) → Fit s → M.answer s c ≡ 0 → M.sets c ≡ plan p → Has (M.step s c) p
  pub kept : (s : S) (c : C) (p : P) → Fit s → Has s p → M.answer s c ≡ 0 → M.sets c ≡ none → M.ends p c ≡ false
      → Has (M.step s c) p

-- the plan in force, if there is one, is in the state
abbrev pub InState : {S P : Type 0} → (S → P → Type 0) → S → Force P → Type 0
InState Has s none = Unit {0}
InState Has s (plan p) = Has s p

abbrev pub HasForce : {S P : Type 0} → (S → P → Type 0) → Found S P → Type 0
HasForce Has x = InState Has x.state x.force

-- then what follows of one call that finds such a plan is true of each call of every
-- list, from every state and every plan in it
abbrev pub Lists : Type 1
Lists =
    (S C P : Type 0) (M : Machine S C P) (Fit : S → Type 0) (Has : S → P → Type 0) (Claim : Found S P → C → Type 0)
    → Laws M Fit Has
    → ((x : Found S P) (c : C) → Fit x.state → HasForce Has x → Claim x c)
    → (x : Found S P) → Fit x.state → HasForce Has x → (before : List C) (c : C) → Claim (after_all M x before) c
