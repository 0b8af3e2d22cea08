-- A row more, reading by reading as the code goes: the figures before a place are done, those from it on still to come.
-- Assumes nothing.
use Rattle.std.proofs.Common.{◌≡◌, ℕ, zero, suc, ◌+◌, ◌*◌, ◌/◌, ◌<◌, ◌≤◌, List, [], ◌∷◌, ◌++◌, length, get_or, take, drop, ℤ, pos, sym, refl, ap, ◌∙◌, append_assoc, add-one, arith, length-append, take-append-drop, drop_of_length-le, length-take-le, drop-cons, take_at, drop_at, w64, SFits}
use native.Mathlib.Numerals.{add-two, add-three}
use lib.Seq.{sets-eq}
use mir.ValLaws.{to_z-of_z}
use Rattle.numbers.proofs.twos_complement.Turned.{read}
use Rattle.figures.specs.Figure.{figure_after, figure_at, figure_numbers}
use Rattle.figures.specs.Rows.{figures_after}
use Rattle.figures_kept.specs.Kept.{figure_in}

-- ---- values that have no figure
few_after : (n : ℕ) (fs zs : List ℤ) → length fs < 3 → figures_after n fs zs ≡ fs
unfolding figures_after
few_after n fs [] h = refl
few_after n [] (z ∷ zs) h = refl
few_after n (l ∷ []) (z ∷ zs) h = refl
few_after n (l ∷ g ∷ []) (z ∷ zs) h = refl
few_after n (l ∷ g ∷ s ∷ fs) (z ∷ zs) h = absurd (omega arith)

-- as many values are enough as there are figures
only_kept : (n k : ℕ) (fs zs : List ℤ) → length fs < 3 * (k + 1) → figures_after n fs (take k zs) ≡ figures_after n fs zs
unfolding figures_after
only_kept n zero fs zs h = sym (few_after n fs zs (omega arith))
only_kept n (suc k) fs [] h = refl
only_kept n (suc k) [] (z ∷ zs) h = refl
only_kept n (suc k) (l ∷ []) (z ∷ zs) h = refl
only_kept n (suc k) (l ∷ g ∷ []) (z ∷ zs) h = refl
only_kept n (suc k) (l ∷ g ∷ s ∷ fs) (z ∷ zs) h = rw (only_kept n k fs zs (omega arith)) refl

pub row_cut : (n k : ℕ) (fs gs zs : List ℤ) → k ≡ length fs / 3 → gs ≡ figures_after n fs (take k zs)
    → gs ≡ figures_after n fs zs
row_cut n k fs gs zs e g = g ∙ only_kept n k fs zs (omega arith)

-- ---- a figure that a place has
three_more : (fs : List ℤ) (at : ℕ) → at + 3 ≤ length fs
    → drop at fs ≡ figure_numbers (figure_at fs at) ++ drop (at + 3) fs
three_more fs at h =
    let second : drop (suc at) fs ≡ get_or fs (at + 1) (pos 0) ∷ drop (suc (suc at)) fs =
    rw add-one (drop-cons fs (suc at) (pos 0) (omega arith)) in
    let third : drop (suc (suc at)) fs ≡ get_or fs (at + 2) (pos 0) ∷ drop (at + 3) fs =
    rw (add-two, add-three) (drop-cons fs (suc (suc at)) (pos 0) (omega arith)) in
    drop-cons fs at (pos 0) (omega arith) ∙ rw (second, third) refl

figure_next : (fs : List ℤ) (at n : ℕ) (z : ℤ) (zs : List ℤ) → at + 3 ≤ length fs
    → take at fs ++ figures_after n (drop at fs) (z ∷ zs)
    ≡ take (at + 3) (figure_in fs at n z) ++ figures_after n (drop (at + 3) (figure_in fs at n z)) zs
unfolding figures_after figure_in
figure_next fs at n z zs h =
    let ns : List ℤ = figure_numbers (figure_after n (figure_at fs at) z) in
    let rest : List ℤ = drop (at + 3) fs in
    let done : List ℤ = take at fs ++ ns in
    let l : length done ≡ at + 3 =
    length-append (take at fs) ns ∙ omega (arith, length-take-le at fs (omega arith)) in
    ap (λ (x : List ℤ). take at fs ++ figures_after n x (z ∷ zs)) (three_more fs at h)
    ∙ sym (append_assoc (take at fs) ns (figures_after n rest zs))
    ∙ rw (sets-eq ns fs at h, take_at done rest (at + 3) l, drop_at done rest (at + 3) l) refl

-- what holds before value i of a row
abbrev pub AtValue : List ℤ → ℕ → List ℤ → List ℤ → ℕ → Type 0
AtValue fs₀ samples zs fs i =
    (i ≤ length zs) × (length fs ≡ length fs₀)
    × (figures_after samples fs₀ zs ≡ take (3 * i) fs ++ figures_after samples (drop (3 * i) fs) (drop i zs))

module _ (fs₀ fs zs : List ℤ) (samples i : ℕ)
    (e : figures_after samples fs₀ zs ≡ take (3 * i) fs ++ figures_after samples (drop (3 * i) fs) (drop i zs)) where
  pub figures_next : (at : ℕ) (gs : List ℤ) → i < length zs → 3 * length zs ≤ length fs → SFits w64 (get_or zs i (pos 0))
      → gs ≡ figure_in fs at samples (read w64 (get_or zs i (pos 0))) → at ≡ 3 * i
      → figures_after samples fs₀ zs
      ≡ take (3 * (i + 1)) gs ++ figures_after samples (drop (3 * (i + 1)) gs) (drop (i + 1) zs)
  figures_next at gs h room f g a =
      let z : ℤ = get_or zs i (pos 0) in
      let is : gs ≡ figure_in fs (3 * i) samples z = rw (to_z-of_z w64 z f, a) at g in
      let next : 3 * (i + 1) ≡ 3 * i + 3 = omega arith in
      e
      ∙ ap (λ (x : List ℤ). take (3 * i) fs ++ figures_after samples (drop (3 * i) fs) x) (drop-cons zs i (pos 0) h)
      ∙ figure_next fs (3 * i) samples z (drop (suc i) zs) (omega arith)
      ∙ rw (next, is, add-one) refl

  pub figures_done : length zs ≤ i → fs ≡ figures_after samples fs₀ zs
  unfolding figures_after
  figures_done h = sym (e ∙ rw (drop_of_length-le zs h) (take-append-drop (3 * i) fs))
