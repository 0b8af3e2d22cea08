-- Bytes stored one after another from a place on, as far as the list goes. Assumes nothing.
use mathlib.Core.Path.{◌≡◌, refl, sym, ap, ◌∙◌}
use mathlib.Core.Bool.{Bool, true, false}
use mathlib.Core.List.{List, [], ◌∷◌, ◌++◌, append_assoc}
use Prim.Native.Nat.{ℕ, suc, ◌+◌, ◌-◌, ◌≤◌, ◌<◌, min}
use native.Mathlib.Nat.{add-zero}
use native.Mathlib.Numerals.{add-one}
use native.Mathlib.Omega.{arith}
use borrow.Author.Tests.{leb-true, leb-false}
use lib.Dec.{leb}
use lib.ListN.{length, take, drop, get_or, set, length-set, take-append-drop}
use lib.Seq.{sets, sets-eq, set_out, take-suc, take_all, length-take-le, length-sets}
use borrow.Rule.Slice.PartMut.{put_mid}
use Rattle.std.proofs.lemmas.List.{drop_all, drop-drop}

pub sets_append : (o : List ℕ) (at : ℕ) (a b : List ℕ) → sets o at (a ++ b) ≡ sets (sets o at a) (at + length a) b
sets_append o at [] b = rw add-zero refl
sets_append o at (x ∷ a) b =
    let e : suc at + length a ≡ at + suc (length a) = omega arith in
    sets_append (set o at x) (suc at) a b ∙ ap (λ (k : ℕ). sets (sets (set o at x) (suc at) a) k b) e

-- past the end nothing is stored
pub sets_out : (o : List ℕ) (at : ℕ) (w : List ℕ) → length o ≤ at → sets o at w ≡ o
sets_out o at [] h = refl
sets_out o at (x ∷ w) h = sets_out (set o at x) (suc at) w (simp length-set (omega arith)) ∙ set_out o at x h

-- one byte more
pub put_next : (o s : List ℕ) (at i : ℕ) (w : List ℕ) → i < length w → s ≡ sets o at (take i w)
    → set s (at + i) (get_or w i 0) ≡ sets o at (take (i + 1) w)
put_next o s at i w h e =
    let some : length (take i w) ≡ i = length-take-le i w (omega arith) in
    rw (e, add-one, take-suc w i 0, sets_append o at (take i w) (get_or w i 0 ∷ []), some) refl

-- a part of the bytes that goes to their end or to the list's is all that is stored of them
part_rest : (p w : List ℕ) (at k : ℕ) → k ≡ min (length w) (length p - at) → sets p (at + k) (drop k w) ≡ p
part_rest p w at k e = go (leb (length w) k) refl
  where
    go : (b : Bool) → leb (length w) k ≡ b → sets p (at + k) (drop k w) ≡ p
    go true t = rw (drop_all k w (leb-true (length w) k t)) refl
    go false t = sets_out p (at + k) (drop k w) (omega (arith, leb-false (length w) k t))

pub put_every : (o s : List ℕ) (at i : ℕ) (w : List ℕ) → length w ≤ i → s ≡ sets o at (take i w) → s ≡ sets o at w
put_every o s at i w h e = rw (take_all i w h) at e

-- the part of the bytes that the list has room for is all that is stored of them
pub put_part : (o w p : List ℕ) (at n k : ℕ) → at < length o → k ≡ min (length w) (length o - at) → p ≡ take k w
    → n ≡ k → put_mid at n o p ≡ sets o at w
put_part o w p at n k h e f g =
    let some : length (take k w) ≡ k = length-take-le k w (omega arith) in
    let part = sets-eq (take k w) o at (omega (arith, some)) in
    let rest = part_rest (sets o at (take k w)) w at k (simp length-sets e) in
    rw (f, g) (sym (ap (sets o at) (sym (take-append-drop k w)) ∙ sets_append o at (take k w) (drop k w)
    ∙ ap (λ (n : ℕ). sets (sets o at (take k w)) (at + n) (drop k w)) some ∙ rest ∙ part
    ∙ rw (some, drop-drop k at o) (append_assoc (take at o) (take k w) (drop (at + k) o))))
