-- Demand 3, whole, for any chip: an alarm speed asked for is an alarm that rings (rule P-9).
-- It is one claim about every list of calls. Laws.antt says what a chip must have for it.
use Rattle.std.specs.Prelude.{◌≡◌, Bool, true, false, List, ◌≢◌, ◌↔◌, ℕ, ◌*◌, ◌≤◌, eqb, length, Option, Some, None}
use Rattle.bits.specs.Bits.{choose, flag_of, Change, changes}
use Rattle.fan.specs.Count.{per_minute, value_of, count_of}
use Rattle.fan.specs.declared.Divisor.{Divisor}
use Rattle.fan.specs.Plan.{plan_rings, rings_at}
use Rattle.fan.specs.Search.{plan_of}
use Rattle.fan.specs.declared.Plan.{Plan}
use Rattle.fan_settings.specs.Settings.{Fan, limit_in, divisor_in, settings}
use Rattle.fan_settings.specs.SettingsClaims.{PlanSet}
use Rattle.in_force.specs.InForce.{Force, none, plan, Machine, Found, found, next, after_all, InForce, rewritten}

-- ---- what a call is to a plan in force
pub data Kind : Type 0 where
  -- by 40h bit 7
  reset : Kind
  -- bits given to cells: by a bus write those of its byte, by a call that writes several registers those of each
  writing : List Change → Kind
  -- a speed asked for, on a fan
  planning : (fan speed : ℕ) → Kind
  -- a sample, with the undivided count of each fan
  sampling : (undivided : ℕ → ℕ) → Kind
  -- a call that is none of these
  other : Kind

-- a chip with states S and calls C
pub record Chip (S C : Type 0) : Type 0 where
  -- how many registers a state has, and how many fans, counted from 1, with where the settings of each are
  pub cells : ℕ
  pub fans : ℕ
  pub fan : ℕ → Fan
  pub registers : S → List ℕ
  -- the state with other registers, and what a reset leaves in them
  pub instead : S → List ℕ → S
  pub restored : List ℕ → List ℕ
  -- stored counts and real-time bits, and a fan's real-time bit as the bus shows it
  pub readings : S → List ℕ
  pub real_time_bit : S → ℕ → ℕ
  -- the state after a call, its answer, and what the call is
  pub step : S → C → S
  pub answer : S → C → ℕ
  pub kind : C → Kind

-- an alarm that was set: the speed asked for, and its plan, a divisor d and a limit L
pub record Alarm : Type 0 where
  pub speed : ℕ
  pub divisor : Divisor
  pub limit : ℕ

abbrev pub alarm : ℕ → Divisor → ℕ → Alarm
alarm w d l = record { speed = w; divisor = d; limit = l }

abbrev pub alarm_for : ℕ → Option Plan → Force Alarm
alarm_for w (Some p) = plan (alarm w p.divisor p.limit)
alarm_for w None = none

-- every state of a chip: so many cells, whatever they hold, and anything besides
abbrev pub Whole : {S C : Type 0} → Chip S C → S → Type 0
Whole K s = length (K.registers s) ≡ K.cells

-- the chip, as its fan f sees it
module _ {S C : Type 0} (K : Chip S C) (f : ℕ) where
  -- the plan on this fan that a call sets where it is accepted
  abbrev pub sets : Kind → Force Alarm
  sets (planning g w) = choose (eqb g f) (alarm_for w (plan_of w)) none
  sets reset = none
  sets (writing es) = none
  sets (sampling u) = none
  sets other = none

  -- a reset or a rewrite: by the call and the plan alone, never by the registers. decision D-49
  abbrev pub ends : Alarm → Kind → Bool
  ends p reset = true
  ends p (writing es) = rewritten (settings (K.fan f) p.divisor p.limit) es
  ends p (planning g w) = false
  ends p (sampling u) = false
  ends p other = false

  -- InForce.antt says how long a plan is in force
  abbrev pub watched : Machine S C Alarm
  watched =
      record { step = K.step; answer = K.answer; sets = λ c. sets (K.kind c); ends = λ p c. ends p (K.kind c) }

  -- the plan in force after a call
  abbrev pub force_after : S → Force Alarm → C → Force Alarm
  force_after s p c = (next watched (found s p) c).force

  -- ---- ringing

  -- the call is a sample with the count n for this fan
  abbrev pub Counts : ℕ → Kind → Type 0
  Counts n (sampling u) = u f ≡ n
  Counts n reset = ⊥
  Counts n (writing es) = ⊥
  Counts n (planning g w) = ⊥
  Counts n other = ⊥

  -- a divisor and a limit set instead of those that the fan has. decision D-29
  abbrev pub with_instead : S → Divisor → ℕ → S
  with_instead s d l = K.instead s (changes (K.registers s) (settings (K.fan f) d l))

  -- a divisor and a limit ring at a/b rpm: set instead, every accepted sample with that
  -- speed's count leaves the real-time bit 1
  abbrev pub RingsAt : Divisor → ℕ → ℕ → ℕ → Type 0
  RingsAt d l a b =
      (s : S) → Whole K s → (c : C) → Counts (count_of a b) (K.kind c) → K.answer (with_instead s d l) c ≡ 0
      → K.real_time_bit (K.step (with_instead s d l) c) f ≡ 1

  -- ---- the claim

  -- asking for 1 to 1,350,000 rpm
  pub record SetsPlan (s : S) (c : C) (w : ℕ) : Type 0 where
    pub answer : K.answer s c ≡ 0
    -- it sets the plan (d, L) for that speed (P-2), and changes no register bit but that fan's limit and divisor
    pub set : PlanSet (K.registers s) (K.registers (K.step s c)) (K.fan f) w
    -- nor anything besides the registers
    pub alone : K.step s c ≡ K.instead s (K.registers (K.step s c))
    -- stored counts and real-time bits wait for the next sample
    pub waits : K.readings (K.step s c) ≡ K.readings s
    -- any divisor and limit that ring at every speed a/b up to the one asked ring at every speed where the plan rings
    pub least : (e : Divisor) (k : ℕ) → k ≤ 255 → ((a b : ℕ) → 1 ≤ b → a ≤ w * b → RingsAt e k a b)
        → (a b : ℕ) → 1 ≤ b → RingsAt set.divisor set.limit a b → RingsAt e k a b
    -- to ring at a speed is to have its stored count above the limit: no more, and no less
    pub rings_means : (e : Divisor) (k a b : ℕ) → k ≤ 255
        → RingsAt e k a b ↔ (rings_at (value_of e) k (count_of a b) ≡ true)
    -- it is in force from here on, whatever was before
    pub in_force : (p : Force Alarm) → force_after s p c ≡ plan (alarm w set.divisor set.limit)

  -- a sample with the count u that is accepted while a plan is in force
  pub record Rings (s : S) (p : Alarm) (c : C) (u : ℕ) : Type 0 where
    -- the real-time bit is 1 exactly when u is at least (L+1)d
    pub exactly : K.real_time_bit (K.step s c) f ≡ flag_of (plan_rings (value_of p.divisor) p.limit u)
    -- so at a steady speed a/b at or below the one asked the bit is 1
    pub steady : (a b : ℕ) → 1 ≤ b → a ≤ p.speed * b → u ≡ count_of a b → K.real_time_bit (K.step s c) f ≡ 1

  -- a reset restores the registers, and no plan outlasts it
  pub record Restores (s : S) (p : Force Alarm) (c : C) : Type 0 where
    pub registers : K.registers (K.step s c) ≡ K.restored (K.registers s)
    pub ended : force_after s p c ≡ none

  -- the fan's limit and divisor are the plan's
  pub record HasPlan (s : S) (p : Alarm) : Type 0 where
    pub limit : limit_in (K.registers s) (K.fan f) ≡ p.limit
    pub divisor : divisor_in (K.registers s) (K.fan f) ≡ p.divisor

  -- what a call does by its kind, that finds this plan or none in force
  abbrev pub Does : S → Force Alarm → C → Kind → Type 0
  Does s p c (planning g w) = g ≡ f → 1 ≤ w → w ≤ per_minute → SetsPlan s c w
  Does s (plan p) c (sampling u) = K.answer s c ≡ 0 → Rings s p c (u f)
  Does s none c (sampling u) = Unit {0}
  Does s p c reset = K.answer s c ≡ 0 → Restores s p c
  Does s p c (writing es) = Unit {0}
  Does s p c other = Unit {0}

  -- no plan ends too soon or too late: an accepted call that is no reset and sets no plan on this fan leaves the
  -- plan in force exactly if it leaves the fan the plan's limit and divisor; and where none is in force, none comes
  abbrev pub Stays : S → Force Alarm → C → Type 0
  Stays s none c = force_after s none c ≡ none
  Stays s (plan p) c = (force_after s (plan p) c ≡ plan p) ↔ HasPlan (K.step s c) p

  -- what is claimed of one call, by the state that it finds and the plan then in force
  pub record ClaimAt (x : Found S Alarm) (c : C) : Type 0 where
    pub does : Does x.state x.force c (K.kind c)
    pub stays : K.answer x.state c ≡ 0 → K.kind c ≢ reset → sets (K.kind c) ≡ none → Stays x.state x.force c
    -- a refused call changes no state and ends nothing
    pub refused : K.answer x.state c ≢ 0 → next watched x c ≡ x

-- of every fan, every state to start from and every list of calls, at each of its calls:
-- `before` are the calls before it
pub record AlarmRings {S C : Type 0} (K : Chip S C) : Type 0 where
  pub at_each : (f : ℕ) → 1 ≤ f → f ≤ K.fans → (s : S) → Whole K s → (before : List C) (c : C)
      → ClaimAt K f (after_all (watched K f) (found s none) before) c
  -- by what in force is: from the call that sets a plan until a reset, a rewrite or the next plan, over every list
  pub in_force : (f : ℕ) → InForce (watched K f)
