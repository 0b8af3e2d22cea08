-- Lines joined: what is put of each part, one behind the other, is put of the whole; counts one by one.
-- Assumes nothing.
use Prim.Native.Nat.{ℕ, suc, ◌+◌, ◌≤◌, ◌<◌}
use native.Mathlib.Nat.{add-zero}
use native.Mathlib.Numerals.{add-one}
use native.Mathlib.Omega.{arith}
use mathlib.Core.Path.{◌≡◌, refl, sym, ap, ◌∙◌}
use mathlib.Core.List.{List, [], ◌∷◌, ◌++◌, append_assoc, append-nil}
use borrow.Author.Tests.{eq-eqb, ne_eqb}
use lib.IntN.{ℤ}
use lib.ListN.{length, take, get_or}
use lib.Seq.{take-suc, take_all, length-take-le}
use mir.Syntax.{w64}
use mir.Val.{SFits, to_z, of_z}
use mir.ValLaws.{to_z-of_z}
use Rattle.figures.specs.declared.Figure.{Figure}
use Rattle.text.proofs.Puts.{◌then◌}
use Rattle.text.specs.Text.{ascii, last_place}
use Rattle.text.specs.Pages.{Puts}
use Rattle.text.specs.declared.Page.{Page}
use Rattle.text.specs.Numbers.{spaced, decimal, signed}
use Rattle.report_text.specs.Lines.{spaced_signed, extreme, reading_line}
use Rattle.report_text.specs.Lines.{count_line, count_lines_from, count_lines, end_line}

-- a number as the machine reads it back
abbrev pub back : ℤ → ℤ
back z = to_z w64 (of_z w64 z)

pub put_spaced_signed : (o p q : Page) (z : ℤ) → SFits w64 z → Puts o (32 ∷ []) p → Puts p (signed (back z)) q
    → Puts o (spaced_signed z) q
unfolding spaced_signed
put_spaced_signed o p q z s f g = f then rw (to_z-of_z w64 z s) at g

-- ---- a reading
module _ (o p : Page) (samples : ℕ) (z : ℤ) where
  pub put_dash : samples ≡ 0 → Puts o (ascii " -") p → Puts o (extreme samples z) p
  unfolding extreme
  put_dash e f = rw (eq-eqb samples 0 e) f

  pub put_some : (samples ≡ 0 → ⊥) → SFits w64 z → Puts o (spaced_signed (back z)) p → Puts o (extreme samples z) p
  unfolding extreme
  put_some e s f = rw (ne_eqb samples 0 e) (rw (to_z-of_z w64 z s) at f)

pub put_reading_line : (samples : ℕ) {name : List ℕ} (f : Figure) {o p q r t u v : Page}
    → SFits w64 f.least → SFits w64 f.greatest → SFits w64 f.sum → Puts o name p → Puts p (spaced samples) q
    → Puts q (extreme samples (back f.least)) r → Puts r (extreme samples (back f.greatest)) t
    → Puts t (spaced_signed (back f.sum)) u → Puts u (10 ∷ []) v → Puts o (reading_line name samples f) v
unfolding reading_line
put_reading_line samples f fl fg fs first second third fourth fifth last =
    let least = rw (to_z-of_z w64 f.least fl) at third in
    let greatest = rw (to_z-of_z w64 f.greatest fg) at fourth in
    let sum = rw (to_z-of_z w64 f.sum fs) at fifth in
    first then second then least then greatest then sum then last

-- ---- counts one by one
module _ (register : List ℕ) where
  pub put_count_line : (j k : ℕ) {o p q r s t : Page} → Puts o register p → Puts p (46 ∷ []) q → Puts q (decimal j) r
      → Puts r (spaced k) s → Puts s (10 ∷ []) t → Puts o (count_line register j k) t
  unfolding count_line
  put_count_line j k first second third fourth last = first then second then third then fourth then last

  lines_snoc : (ns : List ℕ) (j n : ℕ)
      → count_lines_from register j (ns ++ (n ∷ []))
      ≡ count_lines_from register j ns ++ count_line register (j + length ns) n
  unfolding count_lines_from
  lines_snoc [] j n = rw (append-nil, add-zero) refl
  lines_snoc (k ∷ ns) j n =
      let e : suc j + length ns ≡ j + suc (length ns) = omega arith in
      ap (λ (l : List ℕ). count_line register j k ++ l) (lines_snoc ns (suc j) n ∙ rw e refl)
      ∙ sym (append_assoc (count_line register j k) (count_lines_from register (suc j) ns) _)

  pub put_no_count : (o : Page) → length o.out.now ≤ last_place → o.at ≤ last_place → Puts o (count_lines register []) o
  unfolding count_lines count_lines_from
  put_no_count o h k = record { put = record { bytes = refl; place = omega arith; sized = h }; same = refl }

  module _ (counts : List ℕ) (i : ℕ) (o p : Page) (f : Puts o (count_lines register (take i counts)) p) where
    pub put_one_count : i < length counts → (q : Page) → Puts p (count_line register i (get_or counts i 0)) q
        → Puts o (count_lines register (take (i + 1) counts)) q
    unfolding count_lines
    put_one_count h q g =
        let n : 0 + length (take i counts) ≡ i = omega (arith, length-take-le i counts (omega arith)) in
        rw (add-one, take-suc counts i 0, lines_snoc, n) (f then g)

    pub put_every_count : length counts ≤ i → Puts o (count_lines register counts) p
    put_every_count h = rw (take_all i counts h) at f

-- ---- the last line
pub put_end_line : (answer accepted : ℕ) {o p q r s : Page} → Puts o (ascii "end") p → Puts p (spaced answer) q
    → Puts q (spaced accepted) r → Puts r (10 ∷ []) s → Puts o (end_line answer accepted) s
unfolding end_line
put_end_line answer accepted first second third last = first then second then third then last
