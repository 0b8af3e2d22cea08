-- Looks (rule I-7): what a read answers and shows, without its effect; and lists of calls with looks among them.
use Rattle.std.specs.Prelude.{◌≡◌, Bool, true, false, List, [], ◌∷◌, ◌++◌, ◌≢◌, ℕ}
use Rattle.bits.specs.Bits.{choose}
use Rattle.w83782d_bus.specs.Bus.{State, look_of, read_of}
use Rattle.w83782d_claims.specs.Alarm.{Call, write, read, look, sample, chassis, set_plan, answer_to, state_after}

abbrev pub is_look : Call → Bool
is_look (write i v) = false
is_look (read i) = false
is_look (look i) = true
is_look (sample x) = false
is_look chassis = false
is_look (set_plan f w) = false

abbrev pub without_looks : List Call → List Call
without_looks [] = []
without_looks (c ∷ cs) = choose (is_look c) (without_looks cs) (c ∷ without_looks cs)

pub record LookClaims : Type 0 where
  -- from every state it answers and shows what a read does, and leaves the state
  pub answer : (s : State) (i : ℕ) → (look_of s i).answer ≡ (read_of s i).answer
  pub byte : (s : State) (i : ℕ) → (look_of s i).byte ≡ (read_of s i).byte
  pub leaves : (s : State) (i : ℕ) → (look_of s i).state ≡ s
  -- looks are left out of a list wherever they are, and nothing else is
  pub dropped : (i : ℕ) (cs : List Call) → without_looks (look i ∷ cs) ≡ without_looks cs
  pub kept : (c : Call) (cs : List Call) → ((i : ℕ) → c ≢ look i) → without_looks (c ∷ cs) ≡ c ∷ without_looks cs
  pub none : without_looks [] ≡ []
  -- so every other call of a list has its place in the list without looks
  pub in_place : (cs ds : List Call) (c : Call) → ((i : ℕ) → c ≢ look i)
      → without_looks (cs ++ c ∷ ds) ≡ without_looks cs ++ c ∷ without_looks ds
  -- and there it is answered the same, and a read shows the same: without looks the calls before leave the same state
  pub states : (s : State) (cs : List Call) → state_after s (without_looks cs) ≡ state_after s cs
  pub answers : (s : State) (cs : List Call) (c : Call)
      → answer_to (state_after s (without_looks cs)) c ≡ answer_to (state_after s cs) c
  pub reads : (s : State) (cs : List Call) (i : ℕ)
      → read_of (state_after s (without_looks cs)) i ≡ read_of (state_after s cs) i
