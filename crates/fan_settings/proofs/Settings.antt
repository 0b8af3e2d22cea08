-- A plan set: its limit and its divisor's bits are in the registers, and what is another fan's or nobody's stays.
-- Each law is over where a fan's settings lie. Assumes nothing.
use Rattle.std.specs.Prelude.{Option, Some, None}
use mathlib.Core.Path.{◌≡◌, refl, sym, ap, ap₂, subst, ◌∙◌}
use mathlib.Core.Bool.{Bool, true, false, not, ◌||◌, ◌&&◌}
use mathlib.Core.List.{List, [], ◌∷◌}
use mathlib.Core.Logic.{◌≢◌}
use Prim.Native.Nat.{ℕ, zero, suc, ◌+◌, ◌*◌, ◌/◌, ◌%◌, ◌^◌, ◌<◌, ◌≤◌}
use native.Mathlib.Nat.{mod-eq_of_lt, pow-suc}
use native.Mathlib.Omega.{arith}
use borrow.Author.Tests.{ne_eqb, eqb-true, eqb-false, ltb-true, ltb-false, not-true}
use lib.Bits.{bit_and, and_mask, and_zero_r, or_zero_l}
use lib.Dec.{T, eqb, ltb, lit<}
use lib.ListN.{length, get_or, set, length-set}
use lib.Seq.{get_or-set_same, get_or-set_other}
use Rattle.bits.specs.Bits.{bit, number_of, merge_of, changes, is_beyond}
use Rattle.bits.specs.Fields.{digits_of, gather_of, replace_of, is_in, distinct, inside, apart}
use Rattle.bits.specs.declared.fields.Place.{Place}
use Rattle.bits.specs.declared.Bit.{Bit}
use Rattle.bits.specs.declared.Bit.TheVariants.{B4, B5}
use Rattle.bits.proofs.Every.{every, every_at, every_at2}
use Rattle.bits.proofs.BitLaws.{choose_ind, bit_lt}
use Rattle.bits.proofs.ChangeLaws.{or_left, or_right, and_left, and_right, changes_length}
use Rattle.bits.proofs.fields.FieldLaws.{replace_keeps, gather_gives_back, other_stays}
use Rattle.fan.specs.Count.{exponent_of, value_of, from_bits}
use Rattle.fan.specs.Divisors.{divisor_at}
use Rattle.fan.specs.declared.Divisor.{Divisor}
use Rattle.fan.specs.declared.Divisor.TheVariants.{By1, By128}
use Rattle.fan.proofs.Divisors.{exponent_lt, from_exponent, exponent_of_bits}
use Rattle.fan.specs.Plan.{some_plan, IsPlan, IsPlanned, plan_answer, answer_for}
use Rattle.fan.specs.Search.{plan_of}
use Rattle.fan.specs.declared.Plan.{Plan}
use Rattle.fan.proofs.planner.Planning.{plan_of_is}
use Rattle.fan_settings.specs.Settings.{Fan, fan_at, limit_in, divisor_in, settings}
use Rattle.fan_settings.specs.Settings.{set_answer, has_cell, is_sound, is_apart}
use Rattle.fan_settings.specs.SettingsClaims.{PlanSet}

-- ---- computed: a fan whose divisor bits share their cells with others', as fan 1 of the
-- W83782D has them, is given a plan where every bit is 1, and where every bit is 0
abbrev at : ℕ → Bit → Place
at c b = record { cell = c; bit = b }

abbrev shared : Fan
shared = fan_at 1 (at 2 B4 ∷ at 2 B5 ∷ at 3 B5 ∷ [])

all_ones : changes (0xFF ∷ 0xFF ∷ 0xFF ∷ 0xFF ∷ []) (settings shared By1 0) ≡ 0xFF ∷ 0x00 ∷ 0xCF ∷ 0xDF ∷ []
unfolding changes digits_of merge_of
all_ones = refl

all_zeros : changes (0x00 ∷ 0x00 ∷ 0x00 ∷ 0x00 ∷ []) (settings shared By128 254) ≡ 0x00 ∷ 0xFE ∷ 0x30 ∷ 0x20 ∷ []
unfolding changes digits_of merge_of
all_zeros = refl

-- ---- the tests, part by part
pub record Sound (n : ℕ) (f : Fan) : Type 0 where
  pub limit : f.limit < n
  pub inside : inside n f.places ≡ true
  pub distinct : distinct f.places ≡ true
  pub three : length f.places ≡ 3
  pub elsewhere : has_cell f.places f.limit ≡ false

pub sound_parts : (n : ℕ) (f : Fan) → is_sound n f ≡ true → Sound n f
unfolding is_sound
sound_parts n f e =
    let a = ltb f.limit n in
    let b = inside n f.places in
    let c = distinct f.places in
    let d = eqb (length f.places) 3 in
    let h = not (has_cell f.places f.limit) in
    let e₁ = and_right a (b && (c && (d && h))) e in
    let e₂ = and_right b (c && (d && h)) e₁ in
    let e₃ = and_right c (d && h) e₂ in
    record {
      limit = ltb-true f.limit n (and_left a (b && (c && (d && h))) e);
      inside = and_left b (c && (d && h)) e₁;
      distinct = and_left c (d && h) e₂;
      three = eqb-true (length f.places) 3 (and_left d h e₃);
      elsewhere = not-true (has_cell f.places f.limit) (and_right d h e₃);
    }

pub record Apart (f g : Fan) : Type 0 where
  pub limits : g.limit ≢ f.limit
  pub limit : has_cell f.places g.limit ≡ false
  pub bits : has_cell g.places f.limit ≡ false
  pub places : apart f.places g.places ≡ true

pub apart_parts : (f g : Fan) → is_apart f g ≡ true → Apart f g
unfolding is_apart
apart_parts f g e =
    let a = not (eqb f.limit g.limit) in
    let b = not (has_cell f.places g.limit) in
    let c = not (has_cell g.places f.limit) in
    let d = apart f.places g.places in
    let e₁ = and_right a (b && (c && d)) e in
    let e₂ = and_right b (c && d) e₁ in
    record {
      limits =
          λ q. eqb-false f.limit g.limit (not-true (eqb f.limit g.limit) (and_left a (b && (c && d)) e))
          (sym q);
      limit = not-true (has_cell f.places g.limit) (and_left b (c && d) e₁);
      bits = not-true (has_cell g.places f.limit) (and_left c d e₂);
      places = and_right c d e₂;
    }

-- ---- the tests, computed over the fans 1 to n
pub is_true : (b : Bool) → T b → b ≡ true
is_true true t = refl
is_true false t = absurd t

pub all_sound : (c n : ℕ) (fan : ℕ → Fan) → T (every (λ f. is_sound c (fan (suc f))) n) → (f : ℕ) → 1 ≤ f → f ≤ n
    → is_sound c (fan f) ≡ true
all_sound c n fan t zero h h' = absurd (omega arith)
all_sound c n fan t (suc f) h h' =
    is_true (is_sound c (fan (suc f))) (every_at (λ g. is_sound c (fan (suc g))) n t f (omega arith))

pub all_apart : (n : ℕ) (fan : ℕ → Fan)
    → T (every (λ f. every (λ g. eqb f g || is_apart (fan (suc f)) (fan (suc g))) n) n)
    → (f g : ℕ) → 1 ≤ f → f ≤ n → 1 ≤ g → g ≤ n → f ≢ g → is_apart (fan f) (fan g) ≡ true
all_apart n fan t zero g h h' k k' ne = absurd (omega arith)
all_apart n fan t (suc f) zero h h' k k' ne = absurd (omega arith)
all_apart n fan t (suc f) (suc g) h h' k k' ne =
    let e : (eqb f g || is_apart (fan (suc f)) (fan (suc g))) ≡ true =
    is_true _ (every_at2 (λ f g. eqb f g || is_apart (fan (suc f)) (fan (suc g))) n n t f g (omega arith)
    (omega arith)) in
    simp (ne_eqb f g (λ q. ne (ap suc q))) at e

-- ---- a field's cells, and no other
replace_other : (ps : List Place) (rs : List ℕ) (v c : ℕ) → has_cell ps c ≡ false
    → get_or (replace_of rs ps v) c 0 ≡ get_or rs c 0
unfolding changes digits_of has_cell
replace_other [] rs v c n = refl
replace_other (p ∷ ps) rs v c n =
    replace_other ps _ (v / 2) c (or_right (eqb c p.cell) (has_cell ps c) n)
    ∙ get_or-set_other rs p.cell c _ 0 (eqb-false c p.cell (or_left (eqb c p.cell) (has_cell ps c) n))

gather_other : (ps : List Place) (rs : List ℕ) (c b : ℕ) → has_cell ps c ≡ false
    → gather_of (set rs c b) ps ≡ gather_of rs ps
unfolding gather_of has_cell
gather_other [] rs c b n = refl
gather_other (p ∷ ps) rs c b n =
    ap₂ (λ (x y : ℕ). bit x (number_of p.bit) + 2 * y)
    (get_or-set_other rs c p.cell b 0
    (λ e. eqb-false c p.cell (or_left (eqb c p.cell) (has_cell ps c) n) (sym e)))
    (gather_other ps rs c b (or_right (eqb c p.cell) (has_cell ps c) n))

-- a field of k bits is below 2^k
gather_lt : (rs : List ℕ) (ps : List Place) → gather_of rs ps < 2 ^ length ps
unfolding gather_of
gather_lt rs [] = lit< tt
gather_lt rs (p ∷ ps) = rw pow-suc (omega (arith, bit_lt (get_or rs p.cell 0) (number_of p.bit), gather_lt rs ps))

merge_whole : (o l : ℕ) → l < 256 → merge_of o 255 l ≡ l
unfolding merge_of
merge_whole o l h = rw (and_zero_r, or_zero_l (bit_and l 255)) (and_mask l 8 ∙ mod-eq_of_lt h)

-- the divisor that is set is the three bits that are gathered
pub divisor_of_bits : (rs : List ℕ) (f : Fan) (d : Divisor) → gather_of rs f.places ≡ exponent_of d
    → divisor_in rs f ≡ d
unfolding divisor_at
divisor_of_bits rs f d e = ap from_bits e ∙ from_exponent d

pub bits_of_divisor : (n : ℕ) (rs : List ℕ) (f : Fan) (d : Divisor) → Sound n f → divisor_in rs f ≡ d
    → gather_of rs f.places ≡ exponent_of d
unfolding divisor_at
bits_of_divisor n rs f d s e =
    let lt : gather_of rs f.places < 8 =
    subst (λ (k : ℕ). gather_of rs f.places < 2 ^ k) s.three (gather_lt rs f.places) in
    sym (mod-eq_of_lt lt) ∙ sym (exponent_of_bits (gather_of rs f.places)) ∙ ap exponent_of e

-- ---- the settings put
module _ (rs : List ℕ) (f : Fan) (d : Divisor) (l : ℕ) where
  abbrev pub put : List ℕ
  put = changes rs (settings f d l)

  abbrev limited : List ℕ
  limited = set rs f.limit (merge_of (get_or rs f.limit 0) 255 l)

  put_is : put ≡ replace_of limited f.places (exponent_of d)
  unfolding changes
  put_is = refl

  pub put_length : length put ≡ length rs
  put_length = changes_length (settings f d l) rs

  -- no cell changes but the limit's and the field's
  pub put_other : (c : ℕ) → c ≢ f.limit → has_cell f.places c ≡ false → get_or put c 0 ≡ get_or rs c 0
  put_other c n h =
      ap (λ (ts : List ℕ). get_or ts c 0) put_is
      ∙ replace_other f.places limited (exponent_of d) c h
      ∙ get_or-set_other rs f.limit c _ 0 n

  -- and of those only the field's bits
  put_keeps : (c j : ℕ) → j < 8 → eqb c f.limit ≡ false → is_in f.places c j ≡ false
      → bit (get_or put c 0) j ≡ bit (get_or rs c 0) j
  put_keeps c j h n i =
      ap (λ (ts : List ℕ). bit (get_or ts c 0) j) put_is
      ∙ replace_keeps limited f.places (exponent_of d) c j h i
      ∙ ap (λ (x : ℕ). bit x j) (get_or-set_other rs f.limit c _ 0 (eqb-false c f.limit n))

  -- another fan's limit and divisor
  pub other_limit : (g : Fan) → Apart f g → limit_in put g ≡ limit_in rs g
  other_limit g a = put_other g.limit a.limits a.limit

  pub other_bits : (g : Fan) → Apart f g → gather_of put g.places ≡ gather_of rs g.places
  other_bits g a =
      ap (λ (ts : List ℕ). gather_of ts g.places) put_is
      ∙ other_stays limited f.places g.places (exponent_of d) a.places
      ∙ gather_other g.places rs f.limit _ a.bits

  -- what was set is there
  module _ (s : Sound (length rs) f) where
    pub put_limit : l < 256 → limit_in put f ≡ l
    put_limit k =
        ap (λ (ts : List ℕ). get_or ts f.limit 0) put_is
        ∙ replace_other f.places limited (exponent_of d) f.limit s.elsewhere
        ∙ get_or-set_same rs f.limit _ 0 s.limit
        ∙ merge_whole (get_or rs f.limit 0) l k

    pub put_bits : gather_of put f.places ≡ exponent_of d
    put_bits =
        ap (λ (ts : List ℕ). gather_of ts f.places) put_is
        ∙ gather_gives_back limited f.places (exponent_of d) s.distinct (rw (length-set rs f.limit) s.inside)
        ∙ ap (λ (k : ℕ). exponent_of d % 2 ^ k) s.three
        ∙ mod-eq_of_lt (exponent_lt d)

-- ---- the plan
pub is_plan_law : (w : ℕ) (d : Divisor) (l : ℕ) → plan_of w ≡ some_plan d l → IsPlan w (value_of d) l
is_plan_law w d l e = (subst (IsPlanned w) e (plan_of_is w)).plan refl

pub plan_set : (rs : List ℕ) (f : Fan) (w : ℕ) (d : Divisor) (l : ℕ) → Sound (length rs) f → plan_of w ≡ some_plan d l
    → PlanSet rs (put rs f d l) f w
plan_set rs f w d l s e =
    record {
      divisor = d;
      limit = l;
      planned = e;
      is_plan = is_plan_law w d l e;
      divisor_set = divisor_of_bits (put rs f d l) f d (put_bits rs f d l s);
      limit_set = put_limit rs f d l s (omega (arith, (is_plan_law w d l e).limit));
      kept = put_keeps rs f d l;
    }

-- a call that is answered as the table says and accepted names a fan, and a speed with a plan
pub record Accepted (n f w : ℕ) : Type 0 where
  pub low : 1 ≤ f
  pub high : f ≤ n
  pub divisor : Divisor
  pub limit : ℕ
  pub planned : plan_of w ≡ some_plan divisor limit

pub accepted : (n f w : ℕ) → set_answer n f w ≡ 0 → Accepted n f w
accepted n f w =
    choose_ind (λ (a : ℕ). a ≡ 0 → Accepted n f w) (is_beyond n f) 7 (answer_for w) (λ _ z. absurd (omega arith))
    (λ e z. by (plan_of w) refl ((plan_of_is w).answer ∙ z) (ltb-false f 1 (or_left (ltb f 1) (ltb n f) e))
    (ltb-false n f (or_right (ltb f 1) (ltb n f) e)))
  where
    by : (p : Option Plan) → plan_of w ≡ p → plan_answer (plan_of w) ≡ 0 → 1 ≤ f → f ≤ n → Accepted n f w
    by (Some p) e z h k = record { low = h; high = k; divisor = p.divisor; limit = p.limit; planned = e }
    by None e z h k = let six : ◌≡◌ {A = ℕ} 6 0 = sym (ap plan_answer e) ∙ z in absurd (omega arith)
