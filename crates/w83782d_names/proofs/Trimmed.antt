-- Spaces at the end: taken off one by one, up to the first character that is none.
-- Assumes nothing.
use Prim.Native.Nat.{ℕ}
use mathlib.Core.Path.{◌≡◌, refl, sym, ap, ◌∙◌}
use mathlib.Core.List.{List, [], ◌∷◌, ◌++◌}
use borrow.Author.Tests.{ne_eqb}
use lib.ListN.{length}
use Rattle.std.proofs.lemmas.List.{nil_from_length}
use Rattle.text.specs.Pages.{Puts}
use Rattle.text.specs.declared.Page.{Page}
use Rattle.w83782d_names.specs.Rows.{before, trimmed}

pub trimmed_space : (l : List ℕ) → trimmed (l ++ (32 ∷ [])) ≡ trimmed l
unfolding trimmed
trimmed_space [] = refl
trimmed_space (x ∷ l) = ap (before x) (trimmed_space l)

before_some : (x : ℕ) (l : List ℕ) (c : ℕ) → before x (l ++ (c ∷ [])) ≡ x ∷ (l ++ (c ∷ []))
before_some x [] c = refl
before_some x (y ∷ l) c = refl

pub trimmed_word : (l : List ℕ) (c : ℕ) → (c ≡ 32 → ⊥) → trimmed (l ++ (c ∷ [])) ≡ l ++ (c ∷ [])
unfolding trimmed
trimmed_word [] c h = rw (ne_eqb c 32 h)
trimmed_word (x ∷ l) c h = ap (before x) (trimmed_word l c h) ∙ before_some x l c

-- what is put once no space is left at the end: the last character is none, or there is none
put_end : (o p : Page) (name row : List ℕ) → trimmed name ≡ trimmed row → trimmed name ≡ name → Puts o name p
    → Puts o (trimmed row) p
put_end o p name row same all f = rw (sym same ∙ all) f

module _ (o p : Page) (name row : List ℕ) (same : trimmed name ≡ trimmed row) (f : Puts o name p) where
  pub put_whole_name : (rest : List ℕ) (last : ℕ) → name ≡ rest ++ (last ∷ []) → (last ≡ 32 → ⊥)
      → Puts o (trimmed row) p
  put_whole_name rest last e h = put_end o p name row same (rw e (trimmed_word rest last h)) f

  pub put_no_name : length name ≡ 0 → Puts o (trimmed row) p
  unfolding trimmed
  put_no_name h = put_end o p name row same (rw (nil_from_length name h) refl) f
