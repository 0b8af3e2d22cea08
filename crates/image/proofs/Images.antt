-- Images of any layout: what is stored is the layout, and what a call leaves of an image.
-- Assumes nothing.
use mathlib.Core.Path.{◌≡◌, refl, ap, ap₂, sym, ◌∙◌}
use mathlib.Core.Bool.{Bool, true, false, not}
use mathlib.Core.List.{List, [], ◌++◌, append-nil, append_assoc}
use Prim.Native.Nat.{ℕ, ◌+◌, ◌-◌, ◌≤◌}
use native.Mathlib.Omega.{arith}
use borrow.Author.Tests.{eq-eqb, ne_eqb}
use lib.Dec.{eqb}
use lib.ListN.{length, get_or, take, drop, take-append-drop, drop_of_length-le, length-append, length-drop}
use lib.Seq.{sets, sets-eq, length-sets, get_or-append-add, get_or-drop}
use lib.Seq.{take_at, drop_at, drop-append-add, drop-drop, length-take-le}
use Rattle.bits.specs.Bits.{choose, flag_of}
use Rattle.flags.specs.Bytes.{is_set}
use Rattle.sensor.specs.Sensor.{is_hot, mark_if}
use Rattle.sensor.specs.declared.Mark.{Mark}
use Rattle.sensor.specs.declared.Mark.TheVariants.{Armed, Hot}
use Rattle.image.specs.Image.{Layout, cells_in, with_cells, with_both, put_in, mark_from, mark_byte}

-- bytes stored
pub put_whole : (y : Layout) (im : List ℕ) (at : ℕ) (bs : List ℕ) → length im ≡ y.size
    → put_in y im at bs ≡ sets im at bs
put_whole y im at bs h = simp (eq-eqb (length im) y.size h)

pub put_none : (y : Layout) (im : List ℕ) (at : ℕ) (bs : List ℕ) → (length im ≡ y.size → ⊥) → im ≡ put_in y im at bs
put_none y im at bs n = simp (ne_eqb (length im) y.size n)

pub put_length : (y : Layout) (im : List ℕ) (at : ℕ) (bs : List ℕ) → length im ≡ y.size
    → length (put_in y im at bs) ≡ y.size
put_length y im at bs h = ap length (put_whole y im at bs h) ∙ length-sets im at bs ∙ h

-- ---- an image of its size: cells and what is beside them lie in it
module _ (y : Layout) (fit : y.cells + y.beside ≤ y.size) (im : List ℕ) (h : length im ≡ y.size) where
  pub cells_of : length (cells_in y im) ≡ y.cells
  cells_of = length-take-le y.cells im (omega arith)

  -- other bytes beside the cells
  pub beside_placed : (bs : List ℕ) → length bs ≡ y.beside → put_in y im y.cells bs ≡ with_both y im (cells_in y im) bs
  beside_placed bs n =
      put_whole y im y.cells bs h
      ∙ sets-eq bs im y.cells (omega arith)
      ∙ ap (λ (k : ℕ). take y.cells im ++ bs ++ drop (y.cells + k) im) n

  -- other cells, of the same number
  module _ (ts : List ℕ) (k : length (with_cells y im ts) ≡ y.size) where
    pub count : length ts ≡ y.cells
    count = omega (arith, sym (length-append ts (drop y.cells im)) ∙ k, length-drop y.cells im)

    front : take y.cells (with_cells y im ts) ≡ ts
    front = take_at ts (drop y.cells im) y.cells count

    rest : drop (y.cells + y.beside) (with_cells y im ts) ≡ drop (y.cells + y.beside) im
    rest =
        ap (λ (n : ℕ). drop (n + y.beside) (with_cells y im ts)) (sym count)
        ∙ drop-append-add ts (drop y.cells im) y.beside
        ∙ drop-drop y.beside y.cells im

    -- and then other bytes beside them
    pub placed : (bs : List ℕ) → length bs ≡ y.beside → put_in y (with_cells y im ts) y.cells bs ≡ with_both y im ts bs
    placed bs n =
        put_whole y (with_cells y im ts) y.cells bs k
        ∙ sets-eq bs (with_cells y im ts) y.cells (omega arith)
        ∙ ap (λ (m : ℕ). take y.cells (with_cells y im ts) ++ bs ++ drop (y.cells + m) (with_cells y im ts)) n
        ∙ ap₂ (λ (u v : List ℕ). u ++ bs ++ v) front rest

  -- what is behind the cells is as it was
  pub beyond : (ts : List ℕ) → length ts ≡ y.cells → (p : ℕ) → y.cells ≤ p
      → get_or (with_cells y im ts) p 0 ≡ get_or im p 0
  beyond ts c p g =
      let q : length ts + (p - y.cells) ≡ p = omega (arith, c) in
      let r : y.cells + (p - y.cells) ≡ p = omega arith in
      ap (λ (k : ℕ). get_or (with_cells y im ts) k 0) (sym q) ∙ get_or-append-add ts (drop y.cells im) (p - y.cells) 0
      ∙ get_or-drop y.cells im (p - y.cells) 0 ∙ ap (λ (k : ℕ). get_or im k 0) r

  -- the same cells put back leave every byte
  pub same_cells : (ts : List ℕ) → ts ≡ cells_in y im → with_cells y im ts ≡ im
  same_cells ts e = ap (λ (u : List ℕ). with_cells y im u) e ∙ take-append-drop y.cells im

  -- ---- an image whose bytes beside the cells were stored
  module _ (bs t : List ℕ) (n : length bs ≡ y.beside) (e : t ≡ put_in y im y.cells bs) where
    pub laid : t ≡ cells_in y im ++ (bs ++ drop (y.cells + y.beside) im)
    laid = e ∙ beside_placed bs n ∙ append_assoc (cells_in y im) bs (drop (y.cells + y.beside) im)

    pub cells_kept : cells_in y t ≡ cells_in y im
    cells_kept = ap (cells_in y) laid ∙ take_at (cells_in y im) (bs ++ drop (y.cells + y.beside) im) y.cells cells_of

    pub with_cells_law : (ts : List ℕ) → with_cells y t ts ≡ with_both y im ts bs
    with_cells_law ts =
        ap (λ (u : List ℕ). with_cells y u ts) laid
        ∙ ap (λ (u : List ℕ). ts ++ u)
        (drop_at (cells_in y im) (bs ++ drop (y.cells + y.beside) im) y.cells cells_of)
        ∙ sym (append_assoc ts bs (drop (y.cells + y.beside) im))

-- ---- the spare bytes stored: all of them
pub spare_placed : (y : Layout) (im u ts bs zs : List ℕ) → y.cells + y.beside ≤ y.size → length im ≡ y.size
    → length u ≡ y.size → length ts ≡ y.cells → length bs ≡ y.beside
    → y.cells + y.beside + length zs ≡ y.size → u ≡ with_both y im ts bs
    → put_in y u (y.cells + y.beside) zs ≡ ts ++ bs ++ zs
spare_placed y im u ts bs zs fit h k c n m e =
    let l : length (ts ++ bs) ≡ y.cells + y.beside = length-append ts bs ∙ omega (arith, c, n) in
    let t : take (y.cells + y.beside) u ≡ ts ++ bs =
    ap (take (y.cells + y.beside)) e
    ∙ take_at (ts ++ bs) (drop (y.cells + y.beside) im) (y.cells + y.beside) l in
    let d : drop (y.cells + y.beside + length zs) u ≡ [] =
    drop_of_length-le u {i = y.cells + y.beside + length zs} (omega arith) in
    put_whole y u (y.cells + y.beside) zs k
    ∙ sets-eq zs u (y.cells + y.beside) (omega arith)
    ∙ ap₂ (λ (v w : List ℕ). v ++ zs ++ w) t d
    ∙ append-nil (ts ++ bs ++ zs)

-- ---- flags and marks come back as they were written
pub flag_back : (b : Bool) → is_set (flag_of b) ≡ b
flag_back true = refl
flag_back false = refl

pub mark_back : (m : Mark) → mark_from (mark_byte m) ≡ m
mark_back Armed = refl
mark_back Hot = refl

-- a mark is taken from a flag, and a flag from a mark
pub mark_of : (b : ℕ) → mark_if (is_set b) ≡ mark_from b
mark_of b = go (eqb b 0)
  where
    go : (t : Bool) → mark_if (not t) ≡ choose t Armed Hot
    go true = refl
    go false = refl

pub flag_mark : (t : Bool) → flag_of (not t) ≡ flag_of (is_hot (choose t Armed Hot))
flag_mark true = refl
flag_mark false = refl
