-- The report of a day as text (rule F-7).
use Rattle.std.specs.Prelude.{List, [], ◌∷◌, ◌++◌, ℕ, zero, suc, ◌*◌, ℤ, get_or, take}
use Rattle.text.specs.Text.{ascii}
use Rattle.figures.specs.Figure.{figure_at}
use Rattle.report_text.specs.Lines.{reading_line, count_lines, end_line}
use Rattle.w83782d_day.specs.Report.{Summary}

-- the readings by their registers: seven codes, sensor 1, three counts; sensors 2 and 3 by bank and index
abbrev pub names : List (List ℕ)
names =
    ascii "20" ∷ ascii "21" ∷ ascii "22" ∷ ascii "23" ∷ ascii "24" ∷ ascii "25" ∷ ascii "26"
    ∷ ascii "27"
    ∷ ascii "28" ∷ ascii "29" ∷ ascii "2A"
    ∷ ascii "1.50" ∷ ascii "2.50" ∷ []

-- a line for each of the first readings
unfoldable pub reading_lines : ℕ → ℕ → List ℤ → List ℕ
reading_lines zero n fs = []
reading_lines (suc i) n fs = reading_lines i n fs ++ reading_line (get_or names i []) n (figure_at fs (3 * i))

-- bits 0 to 7 of 41h, 0 to 5 of 42h
unfoldable pub latched_lines : List ℕ → List ℕ → List ℕ
latched_lines first second = count_lines (ascii "41") first ++ count_lines (ascii "42") (take 6 second)

-- 13 readings, the bits, the end
unfoldable pub report_text : Summary → List ℕ
report_text r =
    reading_lines 13 r.samples r.figures
    ++ (latched_lines r.first r.second ++ end_line r.answer r.accepted)

-- so many bytes are room for any report, whatever numbers it has
abbrev pub text_room : ℕ
text_room = 1811
