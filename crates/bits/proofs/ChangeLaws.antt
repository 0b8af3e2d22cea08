-- Changes of cells, by induction over the list of changes.
-- Assumes nothing.
use mathlib.Core.Path.{◌≡◌, ◌∙◌, ap, refl}
use mathlib.Core.Bool.{Bool, true, false, ◌||◌, ◌&&◌, true≢false, false≢true}
use mathlib.Core.List.{List, [], ◌∷◌}
use Prim.Native.Nat.{ℕ, ◌<◌}
use native.Mathlib.Decide.{ℕ_discrete, dec_lt}
use native.Mathlib.Omega.{arith}
use lib.Dec.{eqb}
use lib.ListN.{get_or, set, length, length-set}
use lib.Seq.{get_or-set_same, get_or-set_other, set_out}
use borrow.Author.Tests.{eq-eqb}
use Rattle.bits.specs.Bits.{bit, is_on, merge_of, Change, changes, touches}
use Rattle.bits.specs.Claims.{ChangesKeep}
use Rattle.bits.proofs.BitLaws.{merge_kept, merge_given, bit_off}

-- ---- tests on two parts
pub or_left : (a b : Bool) → (a || b) ≡ false → a ≡ false
or_left true b e = e
or_left false b e = refl

pub or_right : (a b : Bool) → (a || b) ≡ false → b ≡ false
or_right true b e = absurd (true≢false e)
or_right false b e = e

pub and_left : (a b : Bool) → (a && b) ≡ true → a ≡ true
and_left true b e = refl
and_left false b e = e

pub and_right : (a b : Bool) → (a && b) ≡ true → b ≡ true
and_right true b e = e
and_right false b e = absurd (false≢true e)

-- ---- changes
pub changes_length : (cs : List Change) (rs : List ℕ) → length (changes rs cs) ≡ length rs
unfolding changes
changes_length [] rs = refl
changes_length (c ∷ cs) rs = changes_length cs _ ∙ length-set rs c.cell _

-- one change keeps every bit that its mask does not have, and every other cell
module _ (rs : List ℕ) (cell mask byte : ℕ) (hm : mask < 256) where
  abbrev pub one : List ℕ
  one = set rs cell (merge_of (get_or rs cell 0) mask byte)

  one_keeps : (k j : ℕ) → j < 8 → (eqb k cell && is_on mask j) ≡ false → bit (get_or one k 0) j ≡ bit (get_or rs k 0) j
  one_keeps k j hj e = go (ℕ_discrete k cell) (dec_lt cell (length rs))
    where
      go : Dec (k ≡ cell) → Dec (cell < length rs) → bit (get_or one k 0) j ≡ bit (get_or rs k 0) j
      go (no n) d = ap (λ (x : ℕ). bit x j) (get_or-set_other rs cell k _ 0 n)
      go (yes q) (no l) = ap (λ (s : List ℕ). bit (get_or s k 0) j) (set_out rs cell _ (omega arith))
      go (yes q) (yes l) =
          let off : is_on mask j ≡ false = simp (eq-eqb k cell q) at e in
          rw (q, get_or-set_same) (merge_kept (get_or rs cell 0) mask byte j hm hj (bit_off mask j off))

  -- and takes the others from its byte
  pub one_given : (j : ℕ) → cell < length rs → j < 8 → bit mask j ≡ 1 → bit (get_or one cell 0) j ≡ bit byte j
  one_given j h hj e = rw get_or-set_same (merge_given (get_or rs cell 0) mask byte j hm hj e)

pub changes_keep : ChangesKeep
unfolding changes touches
changes_keep rs [] k j m hj e = refl
changes_keep rs (c ∷ cs) k j m hj e =
    changes_keep (one rs c.cell c.mask c.byte m.0) cs k j m.1 hj
    (or_right (eqb k c.cell && is_on c.mask j) (touches cs k j) e)
    ∙ one_keeps rs c.cell c.mask c.byte m.0 k j hj
    (or_left (eqb k c.cell && is_on c.mask j) (touches cs k j) e)
