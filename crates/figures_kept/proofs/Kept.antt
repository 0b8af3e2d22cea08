-- A figure kept in a slice: a number that is stored or stays, the least and the greatest, and all three.
-- Assumes nothing.
use Rattle.std.proofs.Common.{◌≡◌, ℕ, ◌+◌, ◌<◌, ◌≤◌, Bool, true, false, eqb, List, get_or, set, ℤ, pos, ◌+ℤ◌, sym, refl, ◌∙◌, add-one, arith, get_or-set_other, w64, SFits, eq-eqb, ne_eqb}
use native.Mathlib.Numerals.{add-two}
use Rattle.bits.specs.Bits.{choose}
use lib.Seq.{set-get_or}
use lib.Signed.{lt_z}
use mir.ValLaws.{to_z-of_z}
use Rattle.numbers.proofs.twos_complement.Turned.{read}
use Rattle.numbers.specs.Wrapping.{wrapped}
use Rattle.figures.specs.declared.Figure.{Figure}
use Rattle.figures.specs.Figure.{lesser, greater, figure_after, figure_at}
use Rattle.figures_kept.specs.Kept.{bounds_in, figure_in}

-- ---- one number, stored where a test says so
pub put_where : (zs : List ℤ) (at : ℕ) (z : ℤ) (t : Bool) → SFits w64 z → t ≡ true
    → set zs at (read w64 z) ≡ choose t (set zs at z) zs
put_where zs at z t f e = rw (e, to_z-of_z w64 z f) refl

pub put_nowhere : (zs : List ℤ) (at : ℕ) (z : ℤ) (t : Bool) → t ≡ false → zs ≡ choose t (set zs at z) zs
put_nowhere zs at z t e = rw e refl

-- what it is then
stored_is : (zs : List ℤ) (at : ℕ) (z : ℤ) (t : Bool)
    → choose t (set zs at z) zs ≡ set zs at (choose t z (get_or zs at (pos 0)))
stored_is zs at z true = refl
stored_is zs at z false = sym (set-get_or zs at (pos 0))

-- ---- all three
sum_after : (samples : ℕ) (f : Figure) (z : ℤ) → (figure_after samples f z).sum ≡ wrapped (f.sum +ℤ z)
unfolding figure_after
sum_after samples f z = go (eqb samples 0) refl
  where
    go : (t : Bool) → eqb samples 0 ≡ t → (figure_after samples f z).sum ≡ wrapped (f.sum +ℤ z)
    go true t = rw t refl
    go false t = rw t refl

module _ (zs : List ℤ) (at samples : ℕ) (z : ℤ) (fz : SFits w64 z) where
  pub bounds_first : samples ≤ 0 → set (set zs at (read w64 z)) (at + 1) (read w64 z) ≡ bounds_in zs at samples z
  unfolding bounds_in figure_after
  bounds_first h =
      let e : samples ≡ 0 = omega arith in
      rw (eq-eqb samples 0 e, to_z-of_z w64 z fz) refl

  -- by two tests: of the least, and, once that is stored, of the greatest
  pub bounds_more : (gs hs : List ℤ) (t u : Bool) → 0 < samples
      → SFits w64 (get_or zs at (pos 0)) → t ≡ lt_z (read w64 z) (read w64 (get_or zs at (pos 0)))
      → gs ≡ choose t (set zs at (read w64 z)) zs
      → SFits w64 (get_or gs (at + 1) (pos 0)) → u ≡ lt_z (read w64 (get_or gs (at + 1) (pos 0))) (read w64 z)
      → hs ≡ choose u (set gs (at + 1) (read w64 z)) gs → hs ≡ bounds_in zs at samples z
  unfolding bounds_in figure_after lesser greater
  bounds_more gs hs t u h fl et eg fg eu eh =
      let l : ℤ = get_or zs at (pos 0) in
      let g : ℤ = get_or gs (at + 1) (pos 0) in
      let n : samples ≡ 0 → ⊥ = λ e. omega arith in
      let other : at + 1 ≡ at → ⊥ = λ e. omega arith in
      let least : gs ≡ set zs at (choose (lt_z z l) z l) =
      rw (et, to_z-of_z w64 z fz, to_z-of_z w64 l fl) at eg ∙ stored_is zs at z (lt_z z l) in
      let greatest : hs ≡ set gs (at + 1) (choose (lt_z g z) z g) =
      rw (eu, to_z-of_z w64 z fz, to_z-of_z w64 g fg) at eh ∙ stored_is gs (at + 1) z (lt_z g z) in
      let same : g ≡ get_or zs (at + 1) (pos 0) = rw least (get_or-set_other zs at (at + 1) _ (pos 0) other) in
      greatest ∙ rw (same, least, ne_eqb samples 0 n) refl

  pub kept_figure : (gs : List ℤ) (s : ℤ) → SFits w64 (get_or gs (at + 2) (pos 0)) → SFits w64 s
      → gs ≡ bounds_in zs at samples (read w64 z)
      → s ≡ wrapped (read w64 (get_or gs (at + 2) (pos 0)) +ℤ read w64 z)
      → set gs (at + 2) (read w64 s) ≡ figure_in zs at samples z
  unfolding figure_in bounds_in
  kept_figure gs s fg fs eg es =
      let f : Figure = figure_after samples (figure_at zs at) z in
      let is : gs ≡ set (set zs at f.least) (at + 1) f.greatest = rw (to_z-of_z w64 z fz) at eg in
      let a : at + 2 ≡ at → ⊥ = λ e. omega arith in
      let b : at + 2 ≡ at + 1 → ⊥ = λ e. omega arith in
      let third : get_or gs (at + 2) (pos 0) ≡ get_or zs (at + 2) (pos 0) =
      rw is
      (get_or-set_other (set zs at f.least) (at + 1) (at + 2) f.greatest (pos 0) b
      ∙ get_or-set_other zs at (at + 2) f.least (pos 0) a) in
      let sum : s ≡ f.sum =
      es ∙ rw (to_z-of_z w64 z fz, to_z-of_z w64 _ fg, third) (sym (sum_after samples (figure_at zs at) z)) in
      rw (to_z-of_z w64 s fs, is, sum, add-one, add-two) refl
