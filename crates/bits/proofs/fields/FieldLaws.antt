-- Fields of bits, by induction over the list of places.
-- Assumes nothing.
use mathlib.Core.Path.{◌≡◌, ◌∙◌, ap₂, sym, refl}
use mathlib.Core.Bool.{Bool, ◌||◌, not, ◌&&◌}
use mathlib.Core.List.{List, [], ◌∷◌}
use Prim.Native.Nat.{ℕ, suc, ◌+◌, ◌*◌, ◌/◌, ◌%◌, ◌^◌, ◌<◌}
use native.Mathlib.Nat.{mod-lt, pow-suc, mod-one, div-div-eq-div-mul}
use native.Mathlib.Omega.{arith}
use lib.Arith.{mod-mul}
use lib.Pow.{pow_pos}
use lib.Bits.{bit_or}
use lib.Dec.{eqb, eqb→eq, ltb, lit<}
use lib.ListN.{get_or, length, length-set}
use borrow.Author.Tests.{ltb-true, not-true}
use Rattle.bits.specs.Bits.{bit, is_on, change, changes, touches, number_of}
use Rattle.bits.specs.Claims.{Masks}
use Rattle.bits.proofs.Every.{every, every_at, every_at2, same_below, less_below, same_below2}
use Rattle.bits.proofs.BitLaws.{bit_placed, bit_lt, number_lt, bool_same, one_if}
use Rattle.bits.proofs.ChangeLaws.{and_left, and_right, one, one_given, changes_keep}
use Rattle.bits.specs.declared.fields.Place.{Place}
use Rattle.bits.specs.Fields.{gather_of, digits_of, replace_of, is_in, distinct, apart, inside}
use Rattle.bits.specs.FieldClaims.{ReplaceKeeps, GatherGivesBack, OtherStays}

-- ---- fields
pow_byte : (j : ℕ) → j < 8 → 2 ^ j < 256
pow_byte = less_below 8 (λ j. 2 ^ j) (λ j. 256) tt

-- a mask of one bit has that bit alone
pow_bit : (a j : ℕ) → a < 8 → j < 8 → is_on (2 ^ a) j ≡ eqb j a
unfolding bit
pow_bit a j ha hj =
    bool_same _ _ (same_below2 8 8 (λ a j. one_if (is_on (2 ^ a) j)) (λ a j. one_if (eqb j a)) tt a j ha hj)

pub pow_has : (a : ℕ) → a < 8 → bit (2 ^ a) a ≡ 1
unfolding bit
pow_has = same_below 8 (λ a. bit (2 ^ a) a) (λ a. 1) tt

digits_masks : (ps : List Place) (v : ℕ) → Masks (digits_of ps v)
unfolding digits_of
digits_masks [] v = tt
digits_masks (p ∷ ps) v = (pow_byte (number_of p.bit) (number_lt p.bit), digits_masks ps (v / 2))

digits_touch : (ps : List Place) (v k j : ℕ) → j < 8 → touches (digits_of ps v) k j ≡ is_in ps k j
unfolding digits_of touches is_in
digits_touch [] v k j hj = refl
digits_touch (p ∷ ps) v k j hj =
    ap₂ (λ (x y : Bool). (eqb k p.cell && x) || y) (pow_bit (number_of p.bit) j (number_lt p.bit) hj)
    (digits_touch ps (v / 2) k j hj)

pub replace_keeps : ReplaceKeeps
replace_keeps rs ps v k j hj e =
    changes_keep rs (digits_of ps v) k j (digits_masks ps v) hj (digits_touch ps v k j hj ∙ e)

-- the digits of a value make it up again
digit_sum : (v n : ℕ) → v % 2 + 2 * (v / 2 % 2 ^ n) ≡ v % 2 ^ suc n
digit_sum v n = rw (pow-suc, mod-mul v {m = 2 ^ n} {c = 2} (pow_pos n) (lit< tt)) (omega arith)

pub gather_gives_back : GatherGivesBack
unfolding gather_of digits_of changes distinct inside
gather_gives_back rs [] v d i = sym (mod-one v)
gather_gives_back rs (p ∷ ps) v d i =
    let j = number_of p.bit in
    let hj : number_of p.bit < 8 = number_lt p.bit in
    let hm : 2 ^ number_of p.bit < 256 = pow_byte (number_of p.bit) hj in
    let next = one rs p.cell (2 ^ j) (v % 2 * 2 ^ j) hm in
    let first : bit (get_or (replace_of next ps (v / 2)) p.cell 0) (number_of p.bit) ≡ v % 2 =
    replace_keeps next ps (v / 2) p.cell j hj
    (not-true (is_in ps p.cell j) (and_left (not (is_in ps p.cell j)) (distinct ps) d))
    ∙ one_given rs p.cell (2 ^ j) (v % 2 * 2 ^ j) hm j
    (ltb-true p.cell (length rs) (and_left (ltb p.cell (length rs)) (inside (length rs) ps) i)) hj (pow_has j hj)
    ∙ bit_placed (v % 2) j (mod-lt v (lit< tt)) hj in
    let rest : gather_of (replace_of next ps (v / 2)) ps ≡ v / 2 % 2 ^ length ps =
    gather_gives_back next ps (v / 2) (and_right (not (is_in ps p.cell j)) (distinct ps) d)
    (rw (length-set rs p.cell) (and_right (ltb p.cell (length rs)) (inside (length rs) ps) i)) in
    ap₂ (λ (x y : ℕ). x + 2 * y) first rest ∙ digit_sum v (length ps)

pub other_stays : OtherStays
unfolding gather_of apart
other_stays rs ps [] v e = refl
other_stays rs ps (q ∷ qs) v e =
    let j = number_of q.bit in
    ap₂ (λ (x y : ℕ). x + 2 * y)
    (replace_keeps rs ps v q.cell j (number_lt q.bit)
    (not-true (is_in ps q.cell j) (and_left (not (is_in ps q.cell j)) (apart ps qs) e)))
    (other_stays rs ps qs v (and_right (not (is_in ps q.cell j)) (apart ps qs) e))

-- ---- what the functions compute, in the words of the definitions
digit_lt : (x n j : ℕ) → x ≡ bit n j → x < 2
digit_lt x n j e = rw e (bit_lt n j)

-- three digits joined by shifts, by all their eight values
joined : ℕ → ℕ → ℕ → Bool
joined x y z = eqb (bit_or (bit_or x (y * 2 % 256)) (z * 4 % 256)) (x + 2 * (y + 2 * (z + 2 * 0)))

pub gather_in : (rs : List ℕ) (p q r : Place) (x y z : ℕ) → x ≡ bit (get_or rs p.cell 0) (number_of p.bit)
    → y ≡ bit (get_or rs q.cell 0) (number_of q.bit)
    → z ≡ bit (get_or rs r.cell 0) (number_of r.bit)
    → bit_or (bit_or x (y * 2 % 256)) (z * 4 % 256) ≡ gather_of rs (p ∷ q ∷ r ∷ [])
unfolding gather_of joined
gather_in rs p q r x y z ex ey ez =
    eqb→eq _ _
    (every_at (joined x y) 2
    (every_at2 (λ a b. every (joined a b) 2) 2 2 tt x y (digit_lt _ _ _ ex) (digit_lt _ _ _ ey)) z (digit_lt _ _ _ ez))
    ∙ rw (ex, ey, ez)

pub replace_in : (rs s t u : List ℕ) (p q r : Place) (v : ℕ)
    → s ≡ changes rs (change p.cell (2 ^ number_of p.bit) (v % 2 * 2 ^ number_of p.bit) ∷ [])
    → t ≡ changes s (change q.cell (2 ^ number_of q.bit) (v / 2 % 2 * 2 ^ number_of q.bit) ∷ [])
    → u ≡ changes t (change r.cell (2 ^ number_of r.bit) (v / 4 % 2 * 2 ^ number_of r.bit) ∷ [])
    → u ≡ replace_of rs (p ∷ q ∷ r ∷ []) v
unfolding changes digits_of
replace_in rs s t u p q r v es et eu = eu ∙ rw (et, es, div-div-eq-div-mul v 2 2)
