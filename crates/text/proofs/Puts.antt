-- Puts follow one another: what is put behind a word is put with it (`then`), so a line is the puts of its parts.
-- Assumes nothing.
use Prim.Native.Nat.{ℕ, ◌+◌, ◌≤◌, ◌<◌, min}
use native.Mathlib.Numerals.{add-one}
use native.Mathlib.Omega.{arith}
use mathlib.Core.Path.{◌≡◌, refl, sym, ap, ◌∙◌}
use mathlib.Core.Bool.{Bool, true, false}
use mathlib.Core.List.{List, [], ◌∷◌, ◌++◌}
use borrow.Author.Tests.{leb-true, leb-false}
use lib.Dec.{leb}
use lib.ListN.{length, length-append, get_or, take}
use lib.Seq.{sets, length-sets, take-suc, take_all}
use Rattle.bits.proofs.PutAll.{sets_append, sets_out}
use Rattle.text.specs.Text.{last_place, Put}
use Rattle.text.specs.Pages.{Puts}
use Rattle.text.specs.declared.Page.{Page}

-- from the place that is answered, as from the place itself
sets_from : (o : List ℕ) (at next : ℕ) (w : List ℕ) → length o ≤ last_place → next ≡ min at last_place
    → sets o next w ≡ sets o at w
sets_from o at next w h e = go (leb at last_place) refl
  where
    go : (b : Bool) → leb at last_place ≡ b → sets o next w ≡ sets o at w
    go true t = let k : next ≡ at = omega (arith, leb-true at last_place t) in rw k refl
    go false t =
        let far = leb-false at last_place t in
        sets_out o next w (omega arith) ∙ sym (sets_out o at w (omega arith))

joined : {o p q : List ℕ} {at m n : ℕ} {a b : List ℕ} → Put o at a p m → Put p m b q n → Put o at (a ++ b) q n
joined {o} {p} {q} {at} {m} {n} {a} {b} f g =
    record {
      bytes =
          g.bytes ∙ ap (λ (x : List ℕ). sets x m b) f.bytes
          ∙ sets_from (sets o at a) (at + length a) m b (simp length-sets f.sized) f.place
          ∙ sym (sets_append o at a b);
      place = rw length-append (omega (arith, f.place, g.place));
      sized = f.sized;
    }

infixr 20 ◌then◌
pub ◌then◌ : {o p q : Page} {a b : List ℕ} → Puts o a p → Puts p b q → Puts o (a ++ b) q
f then g = record { put = joined f.put g.put; same = g.same ∙ f.same }

-- a buffer keeps its length
pub put_length : (o p : List ℕ) (at n : ℕ) (w : List ℕ) → Put o at w p n → length p ≡ length o
put_length o p at n w f = ap length f.bytes ∙ simp length-sets

-- no character
pub put_none : (o : List ℕ) (at : ℕ) → length o ≤ last_place → at ≤ last_place → Put o at [] o at
put_none o at h k = record { bytes = refl; place = omega arith; sized = h }

-- one character more of a word
pub put_more : (o p q : List ℕ) (at m n i : ℕ) (w : List ℕ) → i < length w → Put o at (take i w) p m
    → Put p m (get_or w i 0 ∷ []) q n → Put o at (take (i + 1) w) q n
put_more o p q at m n i w h f g = rw (add-one, take-suc w i 0) (joined f g)

pub put_whole : (o p : List ℕ) (at m i : ℕ) (w : List ℕ) → length w ≤ i → Put o at (take i w) p m
    → Put o at w p m
put_whole o p at m i w h f = rw (take_all i w h) at f
