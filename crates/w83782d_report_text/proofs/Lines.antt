-- The lines of a report, put one after another. Assumes nothing.
use mathlib.Core.Path.{◌≡◌, refl, ◌∙◌}
use mathlib.Core.List.{List, []}
use Prim.Native.Nat.{ℕ, zero, suc, ◌+◌, ◌*◌, ◌≤◌, ◌<◌}
use native.Mathlib.Omega.{arith}
use native.Mathlib.Numerals.{add-one}
use lib.IntN.{ℤ}
use lib.ListN.{length, get_or, take, replicate, length-take}
use Rattle.text.specs.Text.{last_place, ascii}
use Rattle.text.specs.Pages.{Puts}
use Rattle.text.specs.declared.Page.{Page}
use Rattle.text_hex.specs.Hex.{hex_digit, hex_with, hex}
use Rattle.text.proofs.Puts.{◌then◌}
use Rattle.figures.specs.Figure.{figure_at}
use Rattle.report_text.specs.Lines.{reading_line, count_lines, end_line}
use Rattle.parts.specs.Feed.{Fed}
use Rattle.w83782d_day.specs.Day.{Day}
use Rattle.w83782d_day.specs.Report.{end_answer, summary_of}
use Rattle.w83782d_report_text.specs.ReportText.{names, reading_lines, latched_lines, report_text}

-- a name's two bytes, which a page of two lends
pub name_is : (name : List ℕ) (n : ℕ) (o p : Page) → Puts o (hex n) p → o.out.now ≡ replicate 2 0 → o.at ≡ 0
    → name ≡ p.out.now → name ≡ hex n
unfolding hex_with
name_is name n o p f h k e = e ∙ rw (h, k) at f.put.bytes

-- the indexes from 20h on, in capitals
names_are : (i : ℕ) → i < 11 → hex (32 + i) ≡ get_or names i []
unfolding hex_with hex_digit
names_are zero h = refl
names_are (suc zero) h = refl
names_are (suc (suc zero)) h = refl
names_are (suc (suc (suc zero))) h = refl
names_are (suc (suc (suc (suc zero)))) h = refl
names_are (suc (suc (suc (suc (suc zero))))) h = refl
names_are (suc (suc (suc (suc (suc (suc zero)))))) h = refl
names_are (suc (suc (suc (suc (suc (suc (suc zero))))))) h = refl
names_are (suc (suc (suc (suc (suc (suc (suc (suc zero)))))))) h = refl
names_are (suc (suc (suc (suc (suc (suc (suc (suc (suc zero))))))))) h = refl
names_are (suc (suc (suc (suc (suc (suc (suc (suc (suc (suc zero)))))))))) h = refl
names_are (suc (suc (suc (suc (suc (suc (suc (suc (suc (suc (suc i))))))))))) h = absurd (omega arith)

module _ (o : Page) (n : ℕ) (fs : List ℤ) where
  pub no_line : length o.out.now ≤ last_place → o.at ≤ last_place → Puts o (reading_lines 0 n fs) o
  unfolding reading_lines
  no_line h k = record { put = record { bytes = refl; place = omega arith; sized = h }; same = refl }

  pub one_line : (p q : Page) (w : List ℕ) (i : ℕ) → i < 11 → Puts o (reading_lines i n fs) p → w ≡ hex (32 + i)
      → Puts p (reading_line w n (figure_at fs (3 * i))) q → Puts o (reading_lines (i + 1) n fs) q
  unfolding reading_lines
  one_line p q w i h f e g = rw add-one (f then rw (e, names_are i h) at g)

  pub eleven_lines : (p : Page) (i : ℕ) → i ≤ 11 → 11 ≤ i → Puts o (reading_lines i n fs) p
      → Puts o (reading_lines 11 n fs) p
  eleven_lines p i h k f = let e : i ≡ 11 = omega arith in rw e at f

  -- with sensors 2 and 3
  pub all_readings : (p q s : Page) → Puts o (reading_lines 11 n fs) p
      → Puts p (reading_line (ascii "1.50") n (figure_at fs 33)) q
      → Puts q (reading_line (ascii "2.50") n (figure_at fs 36)) s → Puts o (reading_lines 13 n fs) s
  unfolding reading_lines
  all_readings p q s f g h = (f then g) then h

module _ (o p q : Page) where
  pub both_bytes : (cs ds : List ℕ) → Puts o (count_lines (ascii "41") cs) p
      → Puts p (count_lines (ascii "42") (take 6 ds)) q → Puts o (latched_lines cs ds) q
  unfolding latched_lines
  both_bytes cs ds f g = f then g

  pub all_lines : (x : Fed Day) (s : Page) (n : ℕ) → n ≡ end_answer x
      → Puts o (reading_lines 13 x.state.samples x.state.figures) p
      → Puts p (latched_lines x.state.first x.state.second) q → Puts q (end_line n x.state.run.accepted) s
      → Puts o (report_text (summary_of x)) s
  unfolding report_text
  all_lines x s n e f g h = f then g then rw e at h

-- eight lines and six, of a register's two characters and 43 more at most
pub both_short : (cs ds : List ℕ) (at a b : ℕ) → length cs ≡ 8 → length ds ≡ 8
    → a ≤ at + length cs * (length (ascii "41") + 43) → b ≤ a + length (take 6 ds) * (length (ascii "42") + 43)
    → b ≤ at + 630
both_short cs ds at a b h k f g =
    let six : length (take 6 ds) ≡ 6 = simp length-take (omega arith) in
    omega (arith, rw h at f, rw six at g)
