-- The definitions of Sample.antt by their cases, over plain variables: what each branch
-- of the code knows gives what it ensures. Assumes nothing.
use mathlib.Core.Path.{◌≡◌, refl, ap, ap₂, sym, ◌∙◌}
use mathlib.Core.Bool.{Bool, true, false, xor}
use mathlib.Core.List.{List, [], ◌∷◌}
use Prim.Native.Nat.{ℕ, zero, suc, ◌<◌, ◌≤◌, max}
use native.Mathlib.Omega.{arith}
use borrow.Author.Tests.{eq-eqb, ne_eqb}
use lib.Bits.{bit_or, or_lt}
use lib.Dec.{eqb, lit<, lit≤}
use lib.ListN.{get_or, length}
use Rattle.std.specs.Prelude.{Ok}
use Rattle.answers.specs.declared.Refusal.{Refusal}
use Rattle.answers.specs.Refusals.{refusal_number}
use Rattle.answers.proofs.Refusals.{is_refused}
use Rattle.bits.specs.Bits.{bit, is_on, choose, flag_of, word}
use Rattle.bits.proofs.BitLaws.{or_bit, same_byte}
use Rattle.bits.proofs.Flags.{word_bit}
use Rattle.sensor.specs.Sensor.{armed, status_of}
use Rattle.sensor.specs.declared.Status.{Status}
use Rattle.status.specs.Status.{status_bits, crossed_of}
use Rattle.status.specs.declared.StatusBits.{StatusBits}
use Rattle.status.proofs.Crossings.{crosses, crossed_lt}
use Rattle.w83782d_layout.specs.declared.samples.Sample.{Sample}
use Rattle.w83782d_latches.specs.declared.Latches.{Latches}
use Rattle.w83782d_latches.specs.Effects.{remote_of}
use Rattle.w83782d_map.specs.Map.{cells}
use Rattle.w83782d_map.specs.Cells.{real_time_status1, real_time_status2}
use Rattle.w83782d_bus.specs.declared.Outcome.{Outcome}
use Rattle.w83782d_bus.specs.Bus.{state, sized, outcome_in}
use Rattle.w83782d_store.specs.Stored.{stored_readings, sample_answer}
use Rattle.w83782d_store.specs.StoredParts.{stored_in}
use Rattle.w83782d_store.proofs.Rules.{stored_in_law}
use Rattle.w83782d_sample.specs.declared.Step.{Step}
use Rattle.w83782d_sample.specs.declared.Evaluation.{Evaluation}
use Rattle.w83782d_conditions.specs.declared.RemoteComparison.{RemoteComparison}
use Rattle.w83782d_conditions.specs.declared.Compared.{Compared}
use Rattle.w83782d_conditions.specs.Conditions.{is_outside, is_above, is_slow, comparison_of}
use Rattle.w83782d_conditions.specs.Conditions.{remote_comparison_of, compared_of}
use Rattle.w83782d_conditions.specs.ConditionParts.{compared_in}
use Rattle.w83782d_conditions.proofs.Rules.{not_one}
use Rattle.w83782d_sample.specs.Sample.{status_at, output_at, was_slow, remote_after, status_registers}
use Rattle.w83782d_sample.specs.Sample.{stepped_latches, sample_of, latched_of}
use Rattle.w83782d_sample.specs.SampleParts.{remote_step, Evaluates, with_status, refused_of, bits_of, latched_in}

-- ---- the steps
-- what is found, of registers of 112 cells, and the steps in the numbers of the definition
found : (rs : List ℕ) → length rs ≡ cells → (c : Compared) → c ≡ compared_in rs → c ≡ compared_of rs
found rs h c e = e ∙ simp (eq-eqb (length rs) cells h)

module _ (rs : List ℕ) (l : Latches) where
  status_1 : (st : Status) → st ≡ status_of (comparison_of rs 1).mode l.sensor1 (comparison_of rs 1).above
      (comparison_of rs 1).below → st ≡ status_at rs l 1
  unfolding comparison_of status_at
  status_1 st e = e

  -- sensors 2 and 3, over the number
  module _ (n : ℕ) (h : 2 ≤ n) (x : Step)
      (e : x ≡ remote_step (remote_comparison_of rs n) (remote_of l n)) where
    latched_n : x.latched ≡ (status_at rs l n).latched
    unfolding remote_step status_at remote_comparison_of comparison_of
    latched_n = simp (e, not_one n h)

    remote_n : x.remote ≡ remote_after rs l n
    unfolding remote_step status_at output_at remote_comparison_of comparison_of
    remote_n = simp (e, not_one n h)

-- ---- the bytes: the sensors' bits joined to those of rails and fans, bit by bit
flag_le : (b : Bool) → flag_of b < 2
flag_le true = lit< tt
flag_le false = lit< tt

byte_of : (a b c d e f g h : Bool) → word (a ∷ b ∷ c ∷ d ∷ e ∷ f ∷ g ∷ h ∷ []) < 256
unfolding word
byte_of a b c d e f g h =
    omega (arith, flag_le a, flag_le b, flag_le c, flag_le d, flag_le e, flag_le f, flag_le g, flag_le h)

off_right : (b : Bool) → max (flag_of b) 0 ≡ flag_of b
off_right true = refl
off_right false = refl

off_left : (b : Bool) → max 0 (flag_of b) ≡ flag_of b
off_left true = refl
off_left false = refl

joined : (a b c d e f g h : Bool) → bit_or (word (a ∷ b ∷ c ∷ d ∷ false ∷ false ∷ g ∷ h ∷ []))
    (word (false ∷ false ∷ false ∷ false ∷ e ∷ f ∷ false ∷ false ∷ []))
    ≡ word (a ∷ b ∷ c ∷ d ∷ e ∷ f ∷ g ∷ h ∷ [])
joined a b c d e f g h =
    let x = word (a ∷ b ∷ c ∷ d ∷ false ∷ false ∷ g ∷ h ∷ []) in
    let y = word (false ∷ false ∷ false ∷ false ∷ e ∷ f ∷ false ∷ false ∷ []) in
    same_byte (bit_or x y) (word (a ∷ b ∷ c ∷ d ∷ e ∷ f ∷ g ∷ h ∷ []))
    (or_lt 8 x y (byte_of a b c d false false g h) (byte_of false false false false e f false false))
    (byte_of a b c d e f g h)
    (λ j hj.
    or_bit x y j
    ∙ ap₂ max (word_bit (a ∷ b ∷ c ∷ d ∷ false ∷ false ∷ g ∷ h ∷ []) j)
    (word_bit (false ∷ false ∷ false ∷ false ∷ e ∷ f ∷ false ∷ false ∷ []) j)
    ∙ at j hj
    ∙ sym (word_bit (a ∷ b ∷ c ∷ d ∷ e ∷ f ∷ g ∷ h ∷ []) j))
  where
    at : (j : ℕ) → j < 8
        → max (flag_of (get_or (a ∷ b ∷ c ∷ d ∷ false ∷ false ∷ g ∷ h ∷ []) j false))
        (flag_of (get_or (false ∷ false ∷ false ∷ false ∷ e ∷ f ∷ false ∷ false ∷ []) j false))
        ≡ flag_of (get_or (a ∷ b ∷ c ∷ d ∷ e ∷ f ∷ g ∷ h ∷ []) j false)
    at zero k = off_right a
    at (suc zero) k = off_right b
    at (suc (suc zero)) k = off_right c
    at (suc (suc (suc zero))) k = off_right d
    at (suc (suc (suc (suc zero)))) k = off_left e
    at (suc (suc (suc (suc (suc zero))))) k = off_left f
    at (suc (suc (suc (suc (suc (suc zero)))))) k = off_right g
    at (suc (suc (suc (suc (suc (suc (suc zero))))))) k = off_right h
    at (suc (suc (suc (suc (suc (suc (suc (suc j)))))))) k = absurd (omega arith)

-- ---- fans on crossings: flags, those of `crossing` compared with the bits of a byte; over `crossing`
on_flag : (b : Bool) → eqb (flag_of b) 1 ≡ b
on_flag true = refl
on_flag false = refl

abbrev eight : (ℕ → Bool) → List Bool
eight f = f 0 ∷ f 1 ∷ f 2 ∷ f 3 ∷ f 4 ∷ f 5 ∷ f 6 ∷ f 7 ∷ []

eight_at : (f : ℕ → Bool) (j : ℕ) → j < 8 → get_or (eight f) j false ≡ f j
eight_at f zero k = refl
eight_at f (suc zero) k = refl
eight_at f (suc (suc zero)) k = refl
eight_at f (suc (suc (suc zero))) k = refl
eight_at f (suc (suc (suc (suc zero)))) k = refl
eight_at f (suc (suc (suc (suc (suc zero))))) k = refl
eight_at f (suc (suc (suc (suc (suc (suc zero)))))) k = refl
eight_at f (suc (suc (suc (suc (suc (suc (suc zero))))))) k = refl
eight_at f (suc (suc (suc (suc (suc (suc (suc (suc j)))))))) k = absurd (omega arith)

module _ (before crossing : ℕ) (bs : List Bool) where
  abbrev against : ℕ → Bool
  against j = choose (is_on crossing j) (xor (get_or bs j false) (is_on before j)) (get_or bs j false)

  crossed_bit : (j : ℕ) → j < 8 → bit (crossed_of before crossing (word bs)) j ≡ bit (word (eight against)) j
  crossed_bit j h =
      crosses before crossing (word bs) j
      ∙ ap (λ (b : Bool). flag_of (choose (is_on crossing j) (xor b (is_on before j)) b))
      (ap (λ (n : ℕ). eqb n 1) (word_bit bs j) ∙ on_flag (get_or bs j false))
      ∙ ap flag_of (sym (eight_at against j h))
      ∙ sym (word_bit (eight against) j)

  crossed_word : crossing < 256 → word bs < 256 → crossed_of before crossing (word bs) ≡ word (eight against)
  crossed_word h k =
      same_byte (crossed_of before crossing (word bs)) (word (eight against)) (crossed_lt before crossing (word bs) h k)
      (byte_of _ _ _ _ _ _ _ _) crossed_bit

module _ (rs : List ℕ) (a b c d : Bool) where
  crossed_1 : (g h : Bool)
      → crossed_of (get_or rs real_time_status1 0) 0b1100_0000 (word (a ∷ b ∷ c ∷ d ∷ false ∷ false ∷ g ∷ h ∷ []))
      ≡ word (a ∷ b ∷ c ∷ d ∷ false ∷ false ∷ xor g (was_slow rs 1) ∷ xor h (was_slow rs 2) ∷ [])
  unfolding was_slow bit
  crossed_1 g h =
      crossed_word (get_or rs real_time_status1 0) 0b1100_0000 (a ∷ b ∷ c ∷ d ∷ false ∷ false ∷ g ∷ h ∷ []) (lit< tt)
      (byte_of a b c d false false g h)

  crossed_2 : crossed_of (get_or rs real_time_status2 0) 0b0000_1000
      (word (a ∷ b ∷ c ∷ d ∷ false ∷ false ∷ false ∷ false ∷ []))
      ≡ word (a ∷ b ∷ c ∷ xor d (was_slow rs 3) ∷ false ∷ false ∷ false ∷ false ∷ [])
  unfolding was_slow bit
  crossed_2 =
      crossed_word (get_or rs real_time_status2 0) 0b0000_1000 (a ∷ b ∷ c ∷ d ∷ false ∷ false ∷ false ∷ false ∷ [])
      (lit< tt) (byte_of a b c d false false false false)

-- high flags that are off
short : (a b c d e f : Bool) → word (a ∷ b ∷ c ∷ d ∷ e ∷ f ∷ false ∷ false ∷ []) ≡ word (a ∷ b ∷ c ∷ d ∷ e ∷ f ∷ [])
unfolding word
short a b c d e f = refl

evaluation_of : (rs : List ℕ) (l : Latches) (one : Status) (two three : Step) (w1 w2 r1 r2 x1 x2 l1 l2 : ℕ)
    → one ≡ status_of (comparison_of rs 1).mode l.sensor1 (comparison_of rs 1).above (comparison_of rs 1).below
    → two ≡ remote_step (remote_comparison_of rs 2) (get_or l.remote 0 armed)
    → three ≡ remote_step (remote_comparison_of rs 3) (get_or l.remote 1 armed)
    → w1 ≡ word (is_outside rs 0 ∷ is_outside rs 1 ∷ is_outside rs 2 ∷ is_outside rs 3 ∷ false ∷ false ∷ is_slow rs 1
    ∷ is_slow rs 2 ∷ [])
    → w2 ≡ word (is_outside rs 4 ∷ is_outside rs 5 ∷ is_outside rs 6 ∷ is_slow rs 3 ∷ false ∷ false ∷ false ∷ false
    ∷ [])
    → r1 ≡ word (false ∷ false ∷ false ∷ false ∷ is_above rs 1 ∷ is_above rs 2 ∷ false ∷ false ∷ [])
    → r2 ≡ word (false ∷ false ∷ false ∷ false ∷ false ∷ is_above rs 3 ∷ false ∷ false ∷ [])
    → x1 ≡ crossed_of (get_or rs real_time_status1 0) 0b1100_0000 w1
    → x2 ≡ crossed_of (get_or rs real_time_status2 0) 0b0000_1000 w2
    → l1 ≡ word (false ∷ false ∷ false ∷ false ∷ one.latched ∷ two.latched ∷ false ∷ false ∷ [])
    → l2 ≡ word (false ∷ false ∷ false ∷ false ∷ false ∷ three.latched ∷ false ∷ false ∷ [])
    → Evaluates rs l
    (record {
      real = status_bits (bit_or w1 r1) (bit_or w2 r2);
      latched = status_bits (bit_or x1 l1) (bit_or x2 l2);
      latches =
          record { chassis = l.chassis; sensor1 = one.mark; remote = two.remote ∷ three.remote ∷ [] };
    })
unfolding stepped_latches
evaluation_of rs l one two three w1 w2 r1 r2 x1 x2 l1 l2 e1 e2 e3 d1 d2 f1 f2 y1 y2 g1 g2 =
    record {
      real =
          ap₂ status_bits (ap₂ bit_or d1 f1 ∙ joined _ _ _ _ _ _ _ _)
          (ap₂ bit_or d2 f2 ∙ joined _ _ _ _ false _ false false ∙ short _ _ _ _ _ _);
      latched =
          ap₂ status_bits
          (ap₂ bit_or (y1 ∙ ap (crossed_of _ 0b1100_0000) d1 ∙ crossed_1 rs _ _ _ _ _ _) g1
          ∙ joined _ _ _ _ one.latched two.latched _ _
          ∙ simp (status_1 rs l one e1, latched_n rs l 2 (lit≤ tt) two e2))
          (ap₂ bit_or (y2 ∙ ap (crossed_of _ 0b0000_1000) d2 ∙ crossed_2 rs _ _ _ _) g2
          ∙ joined _ _ _ _ false three.latched false false
          ∙ simp (latched_n rs l 3 (lit≤ tt) three e3) (short _ _ _ _ _ _));
      latches = simp (status_1 rs l one e1, remote_n rs l 2 (lit≤ tt) two e2, remote_n rs l 3 (lit≤ tt) three e3);
    }

pub evaluation : (rs : List ℕ) (l : Latches) (c : Compared) (d : RemoteComparison) (one : Status) (two three : Step)
    (r1 r2 x1 x2 l1 l2 : ℕ) → length rs ≡ cells → c ≡ compared_in rs
    → one ≡ status_of c.sensor1.mode l.sensor1 c.sensor1.above c.sensor1.below
    → two ≡ remote_step (get_or c.remote 0 d) (get_or l.remote 0 armed)
    → three ≡ remote_step (get_or c.remote 1 d) (get_or l.remote 1 armed)
    → r1 ≡ word (false ∷ false ∷ false ∷ false ∷ c.sensor1.above ∷ (get_or c.remote 0 d).status.above ∷ false ∷ false
    ∷ [])
    → r2 ≡ word (false ∷ false ∷ false ∷ false ∷ false ∷ (get_or c.remote 1 d).status.above ∷ false ∷ false ∷ [])
    → x1 ≡ crossed_of (get_or rs real_time_status1 0) 0b1100_0000 c.first
    → x2 ≡ crossed_of (get_or rs real_time_status2 0) 0b0000_1000 c.second
    → l1 ≡ word (false ∷ false ∷ false ∷ false ∷ one.latched ∷ two.latched ∷ false ∷ false ∷ [])
    → l2 ≡ word (false ∷ false ∷ false ∷ false ∷ false ∷ three.latched ∷ false ∷ false ∷ [])
    → Evaluates rs l
    (record {
      real = status_bits (bit_or c.first r1) (bit_or c.second r2);
      latched = status_bits (bit_or x1 l1) (bit_or x2 l2);
      latches =
          record { chassis = l.chassis; sensor1 = one.mark; remote = two.remote ∷ three.remote ∷ [] };
    })
unfolding compared_of remote_comparison_of comparison_of
evaluation rs l c d one two three r1 r2 x1 x2 l1 l2 h e e1 e2 e3 f1 f2 y1 y2 g1 g2 =
    let k = found rs h c e in
    rw k (evaluation_of rs l one two three _ _ r1 r2 x1 x2 l1 l2 (rw k at e1) (rw k at e2) (rw k at e3) refl refl
    (rw k at f1) (rw k at f2) (rw k at y1) (rw k at y2) g1 g2)

-- ---- four stores are the list of status_stores
pub status_set : (rs : List ℕ) (l : Latches) (j : Evaluation) → Evaluates rs l j
    → with_status rs j.real j.latched ≡ status_registers rs l
unfolding with_status status_registers
status_set rs l j e = rw (e.real, e.latched)

-- ---- the sample, on cells that are those of the slice
module _ (rs qs : List ℕ) (l : Latches) (x : Sample) (h : length rs ≡ cells) (c : qs ≡ rs) where
  -- what it left and what it returned
  abbrev IsSampled : List ℕ → Outcome StatusBits → Type 0
  IsSampled ts o = (outcome_in ts o ≡ sized rs l (sample_of (state rs l) x)) × (bits_of o.answer ≡ latched_in rs l x)

  pub sample_refused : (r : Refusal) (o : Outcome StatusBits) → refusal_number r ≡ sample_answer qs x
      → o ≡ refused_of l r → IsSampled qs o
  unfolding sample_of latched_of
  sample_refused r o e f =
      let n = ne_eqb (refusal_number r) 0 (is_refused r) in
      let a : refusal_number r ≡ sample_answer rs x = rw c at e in
      rw (f, c) (simp (eq-eqb (length rs) cells h, ← a, n), simp (eq-eqb (length rs) cells h, ← a, n))

  pub sample_accepted : (ts us : List ℕ) (j : Evaluation) → 0 ≡ sample_answer qs x → ts ≡ stored_in qs x
      → Evaluates ts l j → us ≡ with_status ts j.real j.latched
      → IsSampled us (record { latches = j.latches; answer = Ok j.latched })
  unfolding sample_of latched_of
  sample_accepted ts us j e f g k =
      let a : 0 ≡ sample_answer rs x = rw c at e in
      let q : ts ≡ stored_readings rs x = rw c at f ∙ sym (stored_in_law rs x h) in
      let r : us ≡ status_registers ts l = k ∙ status_set ts l j g in (
        simp (eq-eqb (length rs) cells h, ← a, ← q, ← g.latches, ← r),
        simp (eq-eqb (length rs) cells h, ← a, ← q, ← g.latched),
      )
