-- A number's digits: the definition by its two cases, and what the digits mean.
-- Assumes nothing.
use Prim.Native.Nat.{ℕ, zero, suc, ◌+◌, ◌-◌, ◌*◌, ◌/◌, ◌^◌, ◌≤◌, ◌<◌}
use native.Mathlib.Nat.{pow-succ'}
use native.Mathlib.Numerals.{add-one}
use native.Mathlib.Omega.{arith}
use mathlib.Core.Path.{◌≡◌, refl, sym, ap, ◌∙◌}
use mathlib.Core.Bool.{Bool, true, false}
use mathlib.Core.List.{List, [], ◌∷◌, ◌++◌, append_assoc, append-nil}
use borrow.Author.Tests.{lt-ltb, le-ltb, ltb-true, ltb-false}
use lib.Dec.{ltb}
use lib.ListN.{length, length-drop, length-set, set, take, drop}
use lib.Seq.{take_all}
use Rattle.std.proofs.lemmas.List.{drop_all, drop-set}
use Rattle.bits.specs.Bits.{choose}
use Rattle.text.specs.Pages.{Puts}
use Rattle.text.specs.declared.Page.{Page}
use Rattle.text.proofs.Puts.{◌then◌}
use Rattle.text.specs.Numbers.{digit, spell, decimal, spaced, value_after, value, Digits, NoLeadingZero, Decimals}

choose_right : (b : Bool) (x y z : List ℕ) → (b ≡ false → y ≡ z) → choose b x y ≡ choose b x z
choose_right true x y z f = refl
choose_right false x y z f = f refl

-- more room for digits than there are changes nothing
spell_enough : (k j n : ℕ) → n ≤ k → n ≤ j → spell k n ≡ spell j n
unfolding spell
spell_enough zero zero n h g = refl
spell_enough zero (suc j) n h g = let s : n < 10 = omega arith in rw (lt-ltb n 10 s)
spell_enough (suc k) zero n h g = let s : n < 10 = omega arith in rw (lt-ltb n 10 s)
spell_enough (suc k) (suc j) n h g =
    choose_right (ltb n 10) (digit n ∷ []) _ _
    (λ e.
    let ten = ltb-false n 10 e in
    ap (λ (l : List ℕ). l ++ (digit n ∷ [])) (spell_enough k j (n / 10) (omega arith) (omega arith)))

pub decimal_one : (n : ℕ) → n < 10 → decimal n ≡ digit n ∷ []
unfolding decimal spell
decimal_one zero h = refl
decimal_one (suc n) h = rw (lt-ltb (suc n) 10 h)

pub decimal_more : (n : ℕ) → 10 ≤ n → decimal n ≡ decimal (n / 10) ++ (digit n ∷ [])
unfolding decimal spell
decimal_more zero h = absurd (omega arith)
decimal_more (suc n) h =
    let e : spell n (suc n / 10) ≡ spell (suc n / 10) (suc n / 10) =
    spell_enough n (suc n / 10) (suc n / 10) (omega arith) (omega arith) in
    rw (le-ltb (suc n) 10 h, e)

-- what holds of one digit, and goes on to one digit more, holds of every number
module _ (P : ℕ → List ℕ → Type 0) (one : (n : ℕ) → n < 10 → P n (digit n ∷ []))
    (more : (n : ℕ) → 10 ≤ n → P (n / 10) (decimal (n / 10)) → P n (decimal (n / 10) ++ (digit n ∷ []))) where
  by_case : (n : ℕ) (b : Bool) → ltb n 10 ≡ b → (10 ≤ n → P (n / 10) (decimal (n / 10))) → P n (decimal n)
  by_case n true e f = rw (decimal_one n (ltb-true n 10 e)) (one n (ltb-true n 10 e))
  by_case n false e f = rw (decimal_more n (ltb-false n 10 e)) (more n (ltb-false n 10 e) (f (ltb-false n 10 e)))

  up_to : (k n : ℕ) → n ≤ k → P n (decimal n)
  up_to zero n h = by_case n (ltb n 10) refl (λ g. absurd (omega arith))
  up_to (suc k) n h = by_case n (ltb n 10) refl (λ g. up_to k (n / 10) (omega arith))

  pub decimal_ind : (n : ℕ) → P n (decimal n)
  decimal_ind n = up_to n n (omega arith)

pub value_snoc : (v : ℕ) (ds : List ℕ) (d : ℕ) → value_after v (ds ++ (d ∷ [])) ≡ 10 * value_after v ds + (d - 48)
unfolding value_after
value_snoc v [] d = refl
value_snoc v (x ∷ ds) d = value_snoc (10 * v + (x - 48)) ds d

pub digits_snoc : (ds : List ℕ) (d : ℕ) → Digits ds → 48 ≤ d → d ≤ 57 → Digits (ds ++ (d ∷ []))
digits_snoc [] d h a b = ((a, b), tt)
digits_snoc (x ∷ ds) d h a b = (h.0, digits_snoc ds d h.1 a b)

-- a list starts with "0" only as the number 0 does
abbrev Starts : ℕ → List ℕ → Type 0
Starts n [] = ⊥
Starts n (d ∷ ds) = d ≡ 48 → (n ≡ 0) × (ds ≡ [])

starts_snoc : (n : ℕ) (ds : List ℕ) (d : ℕ) → 10 ≤ n → Starts (n / 10) ds → Starts n (ds ++ (d ∷ []))
starts_snoc n [] d h s = absurd s
starts_snoc n (x ∷ ds) d h s = λ e. absurd (omega (arith, (s e).0))

starts : (n : ℕ) → Starts n (decimal n)
starts = decimal_ind Starts (λ n h e. (omega arith, refl)) (λ n h s. starts_snoc n (decimal (n / 10)) (digit n) h s)

starts_plain : (n : ℕ) (ds : List ℕ) → Starts n ds → NoLeadingZero ds
starts_plain n [] s = s
starts_plain n (d ∷ ds) s = λ e. (s e).1

-- a digit behind a number that is not 0
decimal_snoc : (v d : ℕ) → 1 ≤ v → 48 ≤ d → d ≤ 57 → decimal (10 * v + (d - 48)) ≡ decimal v ++ (d ∷ [])
decimal_snoc v d h a b =
    let ten : 10 ≤ 10 * v + (d - 48) = omega arith in
    let front : (10 * v + (d - 48)) / 10 ≡ v = omega arith in
    let back : digit (10 * v + (d - 48)) ≡ d = omega arith in
    rw (decimal_more (10 * v + (d - 48)) ten, front, back)

-- digits behind it
decimal_behind : (v : ℕ) (ds : List ℕ) → 1 ≤ v → Digits ds → decimal (value_after v ds) ≡ decimal v ++ ds
unfolding value_after
decimal_behind v [] h t = sym (append-nil (decimal v))
decimal_behind v (d ∷ ds) h t =
    decimal_behind (10 * v + (d - 48)) ds (omega arith) t.1
    ∙ ap (λ (l : List ℕ). l ++ ds) (decimal_snoc v d h t.0.0 t.0.1) ∙ append_assoc (decimal v) (d ∷ []) ds

only_digits : (ds : List ℕ) → Digits ds → NoLeadingZero ds → decimal (value ds) ≡ ds
unfolding value_after
only_digits [] t z = absurd z
only_digits (d ∷ ds) t z = by_first (ltb 48 d) refl
  where
    by_first : (b : Bool) → ltb 48 d ≡ b → decimal (value (d ∷ ds)) ≡ d ∷ ds
    by_first true e =
        let f = ltb-true 48 d e in
        let small = t.0.1 in
        let first : decimal (10 * 0 + (d - 48)) ≡ d ∷ [] =
        decimal_one (10 * 0 + (d - 48)) (omega arith) ∙ ap (λ (x : ℕ). x ∷ []) (omega arith) in
        decimal_behind (10 * 0 + (d - 48)) ds (omega arith) t.1 ∙ ap (λ (l : List ℕ). l ++ ds) first
    by_first false e =
        let zero_first : d ≡ 48 = omega (arith, ltb-false 48 d e, t.0.0) in
        rw (z zero_first, zero_first) (decimal_one 0 (omega arith))

pub decimals : Decimals
unfolding value_after
decimals =
    record {
      digits =
          decimal_ind (λ n ds. Digits ds) (λ n h. ((omega arith, omega arith), tt))
          (λ n h e. digits_snoc (decimal (n / 10)) (digit n) e (omega arith) (omega arith));
      shortest = λ n. starts_plain n (decimal n) (starts n);
      means =
          decimal_ind (λ n ds. value ds ≡ n) (λ n h. omega arith)
          (λ n h e. value_snoc 0 (decimal (n / 10)) (digit n) ∙ omega (arith, e));
      only = only_digits;
    }

-- ---- as it is put: its last digits are in a buffer from the place first + 1 on, and rest is what they leave
pub record SoFar (n rest first : ℕ) (ds : List ℕ) : Type 0 where
  pub low : first < 20
  pub size : length ds ≡ 20
  pub room : rest < 10 ^ (first + 1)
  pub digits : decimal rest ++ drop (first + 1) ds ≡ decimal n

pub no_digit : (n : ℕ) (ds : List ℕ) → length ds ≡ 20 → n < 2 ^ 64 → SoFar n n 19 ds
no_digit n ds h k =
    record {
      low = omega arith;
      size = h;
      room = omega arith;
      digits = rw (drop_all 20 ds (omega arith)) (append-nil (decimal n));
    }

module _ (n rest first : ℕ) (ds : List ℕ) (s : SoFar n rest first ds) where
  pub is_behind : drop first (set ds first (digit rest)) ≡ digit rest ∷ drop (first + 1) ds
  is_behind = drop-set ds first (digit rest) (omega (arith, s.low, s.size))

  pub room_before : 10 ≤ rest → 1 ≤ first
  room_before h = by_first first s.room
    where
      by_first : (k : ℕ) → rest < 10 ^ (k + 1) → 1 ≤ k
      by_first zero f = absurd (omega arith)
      by_first (suc k) f = omega arith

  pub digit_more : 10 ≤ rest → SoFar n (rest / 10) (first - 1) (set ds first (digit rest))
  digit_more h =
      let e : first - 1 + 1 ≡ first = omega (arith, room_before h) in
      let more = append_assoc (decimal (rest / 10)) (digit rest ∷ []) (drop (first + 1) ds) in
      record {
        low = omega (arith, s.low);
        size = simp length-set s.size;
        room = rw e (room_less first h s.room);
        digits = rw (e, is_behind) (sym more ∙ rw (decimal_more rest h) at s.digits);
      }
    where
      room_less : (k : ℕ) → 10 ≤ rest → rest < 10 ^ (k + 1) → rest / 10 < 10 ^ k
      room_less k h f = let p : 10 ^ (k + 1) ≡ 10 * 10 ^ k = rw add-one (pow-succ' 10 k) in omega (arith, p)

  pub all_digits : rest < 10 → take (20 - first) (drop first (set ds first (digit rest))) ≡ decimal n
  all_digits h =
      let all : length (drop first (set ds first (digit rest))) ≤ 20 - first =
      simp (length-drop, length-set) (omega (arith, s.size)) in
      take_all (20 - first) _ all ∙ rw is_behind (rw (decimal_one rest h) at s.digits)

-- a number behind a space
pub put_behind_space : (o p q : Page) (n : ℕ) → Puts o (32 ∷ []) p → Puts p (decimal n) q → Puts o (spaced n) q
unfolding spaced
put_behind_space o p q n f g = f then g
