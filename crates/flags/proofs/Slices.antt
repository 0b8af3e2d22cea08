-- Eight bytes of a slice as one number; and bytes stored one after another. Assumes nothing.
use mathlib.Core.Path.{◌≡◌, refl, ap, ap₂, subst, sym, ◌∙◌}
use mathlib.Core.List.{List, ◌∷◌, ◌++◌, append_assoc}
use Prim.Native.Nat.{ℕ, zero, suc, ◌+◌, ◌-◌, ◌<◌, ◌≤◌}
use native.Mathlib.Nat.{div-div-eq-div-mul}
use native.Mathlib.Omega.{arith}
use borrow.Author.Tests.{le-leb, lt-leb}
use lib.ListN.{length, get_or, set, take, drop}
use lib.Seq.{sets, sets-eq, drop-cons, get_or-set_other}
use mir.Syntax.{w8, w64}
use mir.Val.{Fits}
use borrow.Rule.Slice.PartMut.{put_mid, post_of}
use Rattle.std.specs.Int.{from_le_bytes, to_le_bytes}
use Rattle.std.proofs.lemmas.List.{drop-drop}
use Rattle.flags.specs.Bytes.{joined, bytes_of, AreBytes}
use Rattle.flags.specs.Bytes.{flags_of, eight_from, flags_at, put_eight}
use Rattle.bits.specs.Map.{tabulate}
use Rattle.flags.proofs.Joined.{flags_joined}

-- ---- eight bytes of a slice, one after another
from_place : (s : List ℕ) (n at : ℕ) → at + n ≤ length s → take n (drop at s) ≡ tabulate n at (λ i. get_or s i 0)
from_place s zero at h = refl
from_place s (suc n) at h =
    ap (take (suc n)) (drop-cons s at 0 (omega arith))
    ∙ ap (λ (x : List ℕ). get_or s at 0 ∷ x) (from_place s n (suc at) (omega arith))

eight_is : (s : List ℕ) (at : ℕ) → at + 8 ≤ length s → take 8 (drop at s) ≡ eight_from s at
eight_is s at h =
    let one : at + 1 ≡ suc at = omega arith in
    let two : at + 2 ≡ suc (suc at) = omega arith in
    let three : at + 3 ≡ suc (suc (suc at)) = omega arith in
    let four : at + 4 ≡ suc (suc (suc (suc at))) = omega arith in
    let five : suc (suc (suc (suc at))) + 1 ≡ suc (suc (suc (suc (suc at)))) = omega arith in
    let six : suc (suc (suc (suc at))) + 2 ≡ suc (suc (suc (suc (suc (suc at))))) = omega arith in
    let seven : suc (suc (suc (suc at))) + 3 ≡ suc (suc (suc (suc (suc (suc (suc at)))))) = omega arith in
    from_place s 8 at h ∙ rw (one, two, three, four, five, six, seven) refl

number_is : (s : List ℕ) (at : ℕ) → from_le_bytes w64 (eight_from s at) ≡ joined (eight_from s at)
number_is s at = omega arith

-- ---- eight flags
pub flags_none : (s : List ℕ) (at : ℕ) → length s < at + 8 → 0 ≡ flags_at s at
unfolding flags_at
flags_none s at h = simp (lt-leb (at + 8) (length s) h)

pub flags_are : (s bs : List ℕ) (at n r : ℕ) → at + 8 ≤ length s → ((i : ℕ) → Fits w8 (get_or s i 0))
    → bs ≡ take (at + 8 - at) (drop at s) → n ≡ from_le_bytes w64 bs → r ≡ flags_of n → r ≡ flags_at s at
unfolding flags_at
flags_are s bs at n r h f e en er =
    let k : at + 8 - at ≡ 8 = omega arith in
    let w : n ≡ joined (eight_from s at) =
    en ∙ ap (from_le_bytes w64) (e ∙ ap (λ (x : ℕ). take x (drop at s)) k ∙ eight_is s at h) ∙ number_is s at in
    let b : (i : ℕ) → get_or s i 0 < 256 = λ i. (f i).fits in
    let bytes : AreBytes (eight_from s at) = (b _, (b _, (b _, (b _, (b _, (b _, (b _, (b _, tt)))))))) in
    simp (le-leb (at + 8) (length s) h) (er ∙ ap flags_of w ∙ flags_joined (eight_from s at) bytes refl)

pub put_eight_none : (s : List ℕ) (at w : ℕ) → length s < at + 8 → s ≡ put_eight s at w
unfolding put_eight
put_eight_none s at w h = simp (lt-leb (at + 8) (length s) h)

bytes_are : (w : ℕ) → to_le_bytes w64 w ≡ bytes_of 8 w
bytes_are w = simp div-div-eq-div-mul refl

pub put_eight_all : (s bs : List ℕ) (at w : ℕ) → at + 8 ≤ length s → bs ≡ to_le_bytes w64 w
    → put_mid at (at + 8 - at) s bs ≡ put_eight s at w
unfolding put_eight
put_eight_all s bs at w h e =
    let k : at + (at + 8 - at) ≡ at + 8 = omega arith in
    let rest : post_of at (at + 8 - at) s ≡ drop (at + 8) s =
    drop-drop (at + 8 - at) at s ∙ ap (λ (x : ℕ). drop x s) k in
    simp (le-leb (at + 8) (length s) h)
    (ap₂ (λ (x y : List ℕ). take at s ++ (x ++ y)) (e ∙ bytes_are w) rest
    ∙ sym (append_assoc (take at s) (bytes_of 8 w) (drop (at + 8) s))
    ∙ sym (sets-eq (bytes_of 8 w) s at h))

-- ---- bytes stored one after another from a place on, each a function of its place
module _ (f : ℕ → ℕ) where
  more : (k i : ℕ) (im : List ℕ)
      → set (sets im i (tabulate k i f)) (i + k) (f (i + k)) ≡ sets im i (tabulate (suc k) i f)
  more zero i im = ap (λ (j : ℕ). set im j (f j)) (omega arith)
  more (suc k) i im =
      ap (λ (j : ℕ). set (sets (set im i (f i)) (suc i) (tabulate k (suc i) f)) j (f j)) (omega arith)
      ∙ more k (suc i) (set im i (f i))

  -- what comes next is not stored yet
  untouched : (k i : ℕ) (im : List ℕ) → get_or (sets im i (tabulate k i f)) (i + k) 0 ≡ get_or im (i + k) 0
  untouched zero i im = refl
  untouched (suc k) i im =
      let j : i + suc k ≡ suc i + k = omega arith in
      rw j (untouched k (suc i) (set im i (f i)) ∙ get_or-set_other im i (suc i + k) (f i) 0 (λ e. omega arith))

  module _ (im s : List ℕ) (a at : ℕ) (h : a ≤ at) (es : s ≡ sets im a (tabulate (at - a) a f)) where
    place : a + (at - a) ≡ at
    place = omega arith

    pub next_byte : get_or s at 0 ≡ get_or im at 0
    next_byte =
        ap (λ (x : List ℕ). get_or x at 0) es
        ∙ subst (λ (x : ℕ). get_or (sets im a (tabulate (at - a) a f)) x 0 ≡ get_or im x 0) place (untouched (at - a) a im)

    pub fills_next : (t : List ℕ) → t ≡ set s at (f at) → t ≡ sets im a (tabulate (at + 1 - a) a f)
    fills_next t et =
        let n : suc (at - a) ≡ at + 1 - a = omega arith in
        et
        ∙ ap₂ (λ (x : List ℕ) (y : ℕ). set x y (f y)) es (sym place)
        ∙ more (at - a) a im
        ∙ ap (λ (y : ℕ). sets im a (tabulate y a f)) n
