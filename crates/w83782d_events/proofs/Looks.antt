-- A look is answered as a read is, and leaves the state: so nothing in a list depends on it.
-- Assumes nothing.
use mathlib.Core.Path.{◌≡◌, refl, ap}
use mathlib.Core.Bool.{Bool, true, false}
use mathlib.Core.List.{List, [], ◌∷◌, ◌++◌}
use mathlib.Core.Logic.{◌≢◌}
use Prim.Native.Nat.{ℕ}
use Rattle.bits.specs.Bits.{choose}
use Rattle.w83782d_map.specs.Map.{present_at}
use Rattle.w83782d_registers.specs.Registers.{reach_of}
use Rattle.w83782d_bus.specs.Bus.{State, looked, looked_of, look_of, read as read_out, read_of}
use Rattle.w83782d_claims.specs.Alarm.{Call, write, read, look, sample, chassis, set_plan, answer_to}
use Rattle.w83782d_claims.specs.Alarm.{state_after}
use Rattle.w83782d_events.specs.Looks.{is_look, without_looks, LookClaims}

dropped : (i : ℕ) (cs : List Call) → without_looks (look i ∷ cs) ≡ without_looks cs
dropped i cs = refl

kept : (c : Call) (cs : List Call) → ((i : ℕ) → c ≢ look i) → without_looks (c ∷ cs) ≡ c ∷ without_looks cs
kept (write i v) cs n = refl
kept (read i) cs n = refl
kept (look i) cs n = absurd (n i refl)
kept (sample x) cs n = refl
kept chassis cs n = refl
kept (set_plan f w) cs n = refl

in_place_law : (cs ds : List Call) (c : Call) → ((i : ℕ) → c ≢ look i)
    → without_looks (cs ++ c ∷ ds) ≡ without_looks cs ++ c ∷ without_looks ds
in_place_law [] ds c n = kept c ds n
in_place_law (x ∷ cs) ds c n = rw (in_place_law cs ds c n) (go (is_look x))
  where
    go : (b : Bool)
        → choose b (without_looks cs ++ c ∷ without_looks ds) (x ∷ (without_looks cs ++ c ∷ without_looks ds))
        ≡ choose b (without_looks cs) (x ∷ without_looks cs) ++ c ∷ without_looks ds
    go true = refl
    go false = refl

after_all_law : (s : State) (cs : List Call) → state_after s (without_looks cs) ≡ state_after s cs
after_all_law s [] = refl
after_all_law s (write i v ∷ cs) = after_all_law (answer_to s (write i v)).state cs
after_all_law s (read i ∷ cs) = after_all_law (answer_to s (read i)).state cs
after_all_law s (look i ∷ cs) = after_all_law s cs
after_all_law s (sample x ∷ cs) = after_all_law (answer_to s (sample x)).state cs
after_all_law s (chassis ∷ cs) = after_all_law (answer_to s chassis).state cs
after_all_law s (set_plan f w ∷ cs) = after_all_law (answer_to s (set_plan f w)).state cs

-- a look and a read, where there is a register and where there is none
same : (s : State) (i : ℕ) → ((look_of s i).answer ≡ (read_of s i).answer) × ((look_of s i).byte ≡ (read_of s i).byte)
unfolding read_of looked_of
same s i = go (present_at (reach_of s.registers i)) _ _
  where
    go : (p : Bool) (t : State) (b : ℕ)
        → ((choose p (looked 0 b) (looked 1 0)).answer ≡ (choose p (read_out t 0 b) (read_out s 1 0)).answer)
        × ((choose p (looked 0 b) (looked 1 0)).byte ≡ (choose p (read_out t 0 b) (read_out s 1 0)).byte)
    go true t b = (refl, refl)
    go false t b = (refl, refl)

pub look_claims : LookClaims
look_claims =
    record {
      answer = λ s i. (same s i).0;
      byte = λ s i. (same s i).1;
      leaves = λ s i. refl;
      dropped = dropped;
      kept = kept;
      none = refl;
      in_place = in_place_law;
      states = after_all_law;
      answers = λ s cs c. ap (λ (t : State). answer_to t c) (after_all_law s cs);
      reads = λ s cs i. ap (λ (t : State). read_of t i) (after_all_law s cs);
    }
