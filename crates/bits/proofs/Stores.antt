-- A list of stores, cell by cell: the last byte stored to a cell, or what it held; cells that no
-- store names; and the same stores to two lists that are alike but in some bits. Assumes nothing.
use mathlib.Core.Path.{◌≡◌, refl, ap, ap₂, sym, subst, ◌∙◌}
use mathlib.Core.Bool.{Bool, true, false, not, ◌&&◌}
use mathlib.Core.List.{List, [], ◌∷◌, map}
use Prim.Native.Nat.{ℕ, ◌+◌, ◌*◌, ◌<◌}
use native.Mathlib.Decide.{ℕ_discrete, dec_lt}
use native.Mathlib.Omega.{arith}
use borrow.Author.Tests.{eqb-true, eqb-false}
use lib.Dec.{eqb, ltb}
use lib.ListN.{get_or, set, length, length-set}
use lib.Seq.{get_or-set_same, get_or-set_other, set_out}
use Rattle.bits.specs.Bits.{bit, choose, is_on, number_of}
use Rattle.bits.specs.Fields.{gather_of}
use Rattle.bits.specs.Stores.{Store, puts}
use Rattle.bits.specs.declared.fields.Place.{Place}
use Rattle.bits.proofs.BitLaws.{number_lt}
use Rattle.bits.proofs.ChangeLaws.{and_left, and_right}

-- ---- what a cell holds afterwards
abbrev pub last_of : List Store → ℕ → ℕ → ℕ
last_of [] c d = d
last_of (w ∷ ws) c d = last_of ws c (choose (eqb c w.cell) w.byte d)

set_at : (t : Bool) (rs : List ℕ) (k v c : ℕ) → eqb c k ≡ t → c < length rs
    → get_or (set rs k v) c 0 ≡ choose t v (get_or rs c 0)
set_at true rs k v c e h = subst (λ (i : ℕ). get_or (set rs i v) c 0 ≡ v) (eqb-true c k e) (get_or-set_same rs c v 0 h)
set_at false rs k v c e h = get_or-set_other rs k c v 0 (eqb-false c k e)

pub puts_at : (ws : List Store) (rs : List ℕ) (c : ℕ) → c < length rs
    → get_or (puts rs ws) c 0 ≡ last_of ws c (get_or rs c 0)
puts_at [] rs c h = refl
puts_at (w ∷ ws) rs c h =
    puts_at ws (set rs w.cell w.byte) c (rw length-set h)
    ∙ ap (last_of ws c) (set_at (eqb c w.cell) rs w.cell w.byte c refl h)

pub puts_length : (ws : List Store) (rs : List ℕ) → length (puts rs ws) ≡ length rs
puts_length [] rs = refl
puts_length (w ∷ ws) rs = puts_length ws (set rs w.cell w.byte) ∙ length-set rs w.cell w.byte

-- ---- cells that no store names
abbrev pub cells_of : List Store → List ℕ
cells_of ws = map (λ w. w.cell) ws

abbrev pub is_of : ℕ → List ℕ → Bool
is_of c [] = false
is_of c (k ∷ ks) = choose (eqb c k) true (is_of c ks)

off : (t more : Bool) → choose t true more ≡ false → (t ≡ false) × (more ≡ false)
off true more e = let z : true ≡ false = e in (cc, cc)
off false more e = (refl, e)

pub puts_other : (ws : List Store) (rs : List ℕ) (c : ℕ) → is_of c (cells_of ws) ≡ false
    → get_or (puts rs ws) c 0 ≡ get_or rs c 0
puts_other [] rs c e = refl
puts_other (w ∷ ws) rs c e =
    let o = off (eqb c w.cell) (is_of c (cells_of ws)) e in
    puts_other ws (set rs w.cell w.byte) c o.1
    ∙ get_or-set_other rs w.cell c w.byte 0 (eqb-false c w.cell o.0)

-- ---- cells of another list
abbrev pub all_of : List ℕ → List ℕ → Bool
all_of [] ts = true
all_of (k ∷ ks) ts = choose (is_of k ts) (all_of ks ts) false

on : (t more : Bool) → choose t more false ≡ true → (t ≡ true) × (more ≡ true)
on true more e = (refl, e)
on false more e = let z : false ≡ true = e in (cc, cc)

not_it : (t : Bool) (c k : ℕ) (ts : List ℕ) → eqb c k ≡ t → is_of k ts ≡ true → is_of c ts ≡ false → t ≡ false
not_it true c k ts q a n = let e : c ≡ k = eqb-true c k q in cc
not_it false c k ts q a n = refl

pub fewer : (ks ts : List ℕ) (c : ℕ) → all_of ks ts ≡ true → is_of c ts ≡ false → is_of c ks ≡ false
fewer [] ts c a n = refl
fewer (k ∷ ks) ts c a n =
    let o = on (is_of k ts) (all_of ks ts) a in
    simp (not_it (eqb c k) c k ts refl o.0 n, fewer ks ts c o.1 n)

-- ---- two lists of n cells that are alike but in the bits that a mask of each cell frees
module _ (n : ℕ) (free : ℕ → ℕ) where
  -- a cell without a free bit, and a bit that is not free
  abbrev pub is_plain : ℕ → Bool
  is_plain c = ltb c n && eqb (free c) 0

  abbrev pub is_ruled : ℕ → ℕ → Bool
  is_ruled c j = ltb c n && not (is_on (free c) j)

  abbrev pub are_ruled : List Place → Bool
  are_ruled [] = true
  are_ruled (p ∷ ps) = is_ruled p.cell (number_of p.bit) && are_ruled ps

  pub record SameBut (rs ts : List ℕ) : Type 0 where
    pub count : length rs ≡ n
    pub count' : length ts ≡ n
    pub cell : (c : ℕ) → is_plain c ≡ true → get_or rs c 0 ≡ get_or ts c 0
    pub bits : (c j : ℕ) → j < 8 → is_ruled c j ≡ true → bit (get_or rs c 0) j ≡ bit (get_or ts c 0) j

-- the same stores to both, of a whole cell or of a bit
module _ (f : ℕ → ℕ) (rs ts : List ℕ) (k v c : ℕ) (l : length rs ≡ length ts)
    (e : f (get_or rs c 0) ≡ f (get_or ts c 0)) where
  set_same : f (get_or (set rs k v) c 0) ≡ f (get_or (set ts k v) c 0)
  set_same = go (ℕ_discrete c k) (dec_lt k (length rs))
    where
      go : Dec (c ≡ k) → Dec (k < length rs) → f (get_or (set rs k v) c 0) ≡ f (get_or (set ts k v) c 0)
      go (no n) d = ap f (get_or-set_other rs k c v 0 n) ∙ e ∙ sym (ap f (get_or-set_other ts k c v 0 n))
      go (yes q) (yes h) = rw q (ap f (get_or-set_same rs k v 0 h ∙ sym (get_or-set_same ts k v 0 (omega arith))))
      go (yes q) (no h) = rw (set_out rs k v (omega arith), set_out ts k v (omega arith)) e

module _ (n : ℕ) (free : ℕ → ℕ) where
  pub puts_same : (ws : List Store) (rs ts : List ℕ) → SameBut n free rs ts → SameBut n free (puts rs ws) (puts ts ws)
  puts_same [] rs ts e = e
  puts_same (w ∷ ws) rs ts e =
      let l : length rs ≡ length ts = e.count ∙ sym e.count' in
      puts_same ws (set rs w.cell w.byte) (set ts w.cell w.byte)
      (record {
        count = length-set rs w.cell w.byte ∙ e.count;
        count' = length-set ts w.cell w.byte ∙ e.count';
        cell = λ c p. set_same (λ n. n) rs ts w.cell w.byte c l (e.cell c p);
        bits = λ c j hj p. set_same (λ n. bit n j) rs ts w.cell w.byte c l (e.bits c j hj p);
      })

  -- a field none of whose places is free
  module _ (rs ts : List ℕ) (e : SameBut n free rs ts) where
    pub gather_same : (ps : List Place) → are_ruled n free ps ≡ true → gather_of rs ps ≡ gather_of ts ps
    unfolding gather_of
    gather_same [] h = refl
    gather_same (p ∷ ps) h =
        let at : Bool = is_ruled n free p.cell (number_of p.bit) in
        ap₂ (λ (a b : ℕ). a + 2 * b)
        (e.bits p.cell (number_of p.bit) (number_lt p.bit) (and_left at (are_ruled n free ps) h))
        (gather_same ps (and_right at (are_ruled n free ps) h))
