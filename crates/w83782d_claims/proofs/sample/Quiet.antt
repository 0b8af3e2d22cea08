-- Quiet calls leave the fans' real-time bits: each call by its kind, and a list by induction.
-- Assumes nothing.
use mathlib.Core.Path.{◌≡◌, refl, ap, ◌∙◌}
use mathlib.Core.Bool.{Bool, true, false, not, ◌&&◌}
use mathlib.Core.List.{List, [], ◌∷◌, ◌++◌}
use mathlib.Core.Logic.{◌≢◌}
use Prim.Native.Nat.{ℕ}
use native.Mathlib.Omega.{arith}
use borrow.Author.Tests.{eq-eqb, eqb-true, eqb-false, not-true, not-false}
use lib.Dec.{eqb}
use lib.ListN.{get_or}
use Rattle.bits.specs.Bits.{bit, choose}
use Rattle.bits.proofs.ChangeLaws.{and_left, and_right}
use Rattle.fan_settings.proofs.Settings.{put}
use Rattle.w83782d_map.specs.Map.{rows, present_at, writable_at}
use Rattle.w83782d_map.specs.Cells.{interrupt_status1, interrupt_status2, real_time_status1, real_time_status2}
use Rattle.w83782d_map.specs.Access.{write_answer}
use Rattle.w83782d_bus.specs.Bus.{State, state, Written}
use Rattle.w83782d_sample.specs.Sample.{fan_bit, sample_of}
use Rattle.w83782d_plan.specs.Plan.{fan_of}
use Rattle.w83782d_plan.proofs.settings.Cases.{set_view}
use Rattle.w83782d_claims.specs.BusClaims.{cell_in}
use Rattle.w83782d_claims.specs.SampleClaims.{fan_real_time_bit}
use Rattle.w83782d_claims.specs.Alarm.{Call, write, read, look, sample, chassis, set_plan, answer_to, is_reset}
use Rattle.w83782d_claims.specs.Alarm.{readings_of, state_after}
use Rattle.w83782d_claims.specs.Quiet.{is_quiet, are_quiet, QuietCalls}
use Rattle.w83782d_claims.proofs.sample.Stores.{refused_state}
use Rattle.w83782d_claims.proofs.alarm.CallKinds.{is_reset_law, reset_bit, reset_index}
use Rattle.w83782d_claims.proofs.alarm.Stores.{read_leaves, write_leaves}
use Rattle.w83782d_claims.proofs.alarm.Ringing.{waits}

-- ---- 59h or 5Ah: not written, not cleared by a read, no part of a plan
abbrev byte_cell : Bool → ℕ
byte_cell second = choose second real_time_status2 real_time_status1

not_written : (b : Bool) → write_answer (byte_cell b) ≢ 0
unfolding write_answer present_at writable_at rows
not_written true = λ e. omega arith
not_written false = λ e. omega arith

not_first : (b : Bool) → byte_cell b ≢ interrupt_status1
not_first true = λ e. omega arith
not_first false = λ e. omega arith

not_second : (b : Bool) → byte_cell b ≢ interrupt_status2
not_second true = λ e. omega arith
not_second false = λ e. omega arith

-- they are the last two of the readings that wait for a sample
waiting : (s t : State) → readings_of t ≡ readings_of s → (b : Bool) → cell_in t (byte_cell b) ≡ cell_in s (byte_cell b)
waiting s t e true = ap (λ (rs : List ℕ). get_or rs 4 0) e
waiting s t e false = ap (λ (rs : List ℕ). get_or rs 3 0) e

one_leaves : (s : State) (c : Call) → is_quiet s c ≡ true → (b : Bool)
    → cell_in (answer_to s c).state (byte_cell b) ≡ cell_in s (byte_cell b)
one_leaves s (write i v) q b = write_leaves s i v (not-true (is_reset i v) q) (byte_cell b) (not_written b)
one_leaves s (read i) q b = read_leaves s i (byte_cell b) (not_first b) (not_second b)
one_leaves s (look i) q b = refl
one_leaves s (sample x) q b =
    ap (λ (t : State). cell_in t (byte_cell b))
    (refused_state s x (eqb-false (sample_of s x).answer 0 (not-true (eqb (sample_of s x).answer 0) q)))
one_leaves s chassis q b = refl
one_leaves s (set_plan f w) q b =
    set_view (λ (x : Written). cell_in x.state (byte_cell b) ≡ cell_in s (byte_cell b)) s f w (λ _ _. refl)
    (λ d l h k _. waiting s (state (put s.registers (fan_of f) d l) s.latches) (waits s f h k d l) b)

all_leave : (cs : List Call) (s : State) → are_quiet s cs ≡ true → (b : Bool)
    → cell_in (state_after s cs) (byte_cell b) ≡ cell_in s (byte_cell b)
all_leave [] s q b = refl
all_leave (c ∷ cs) s q b =
    all_leave cs (answer_to s c).state (and_right (is_quiet s c) _ q) b
    ∙ one_leaves s c (and_left (is_quiet s c) _ q) b

pub leaves : (cs : List Call) (s : State) → are_quiet s cs ≡ true → (f : ℕ)
    → fan_real_time_bit (state_after s cs) f ≡ fan_real_time_bit s f
leaves cs s q f = ap (λ (n : ℕ). bit n (fan_bit f)) (all_leave cs s q (eqb f 3))

-- ---- which calls and lists these are
and_last : (a b c : Bool) → (a && (b && c)) ≡ ((a && b) && c)
and_last true b c = refl
and_last false b c = refl

and_none : (a : Bool) → (a && true) ≡ a
and_none true = refl
and_none false = refl

more : (cs : List Call) (s : State) (c : Call)
    → are_quiet s (cs ++ c ∷ []) ≡ (are_quiet s cs && is_quiet (state_after s cs) c)
more [] s c = and_none (is_quiet s c)
more (d ∷ cs) s c = ap (λ (b : Bool). is_quiet s d && b) (more cs (answer_to s d).state c) ∙ and_last (is_quiet s d) _ _

pub quiet_calls : (s : State) → QuietCalls s
quiet_calls s =
    record {
      writes = λ i v. (
        λ e. (reset_index i v (not-false (is_reset i v) e), reset_bit i v (not-false (is_reset i v) e)),
        λ h. ap not (ap (λ (k : ℕ). is_reset k v) h.0 ∙ is_reset_law v h.1),
      );
      reads = λ i. refl;
      looks = λ i. refl;
      samples = λ x. (
        λ e. eqb-true (sample_of s x).answer 0 (not-false (eqb (sample_of s x).answer 0) e),
        λ a. ap not (eq-eqb (sample_of s x).answer 0 a),
      );
      opened = refl;
      plans = λ f w. refl;
      none = refl;
      more = λ cs c. more cs s c;
    }
