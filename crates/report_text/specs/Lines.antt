-- The lines of a report of figures: of a reading, of how many bytes had each bit of a register, and the last line.
use Rattle.std.specs.Prelude.{ℕ, suc, List, [], ◌∷◌, ◌++◌, eqb, ℤ}
use Rattle.bits.specs.Bits.{choose}
use Rattle.figures.specs.declared.Figure.{Figure}
use Rattle.text.specs.Text.{ascii}
use Rattle.text.specs.Numbers.{decimal, spaced, signed}

unfoldable pub spaced_signed : ℤ → List ℕ
spaced_signed z = ascii " " ++ signed z

-- ---- a reading

-- the least or the greatest behind a space: "-" where there were no samples
unfoldable pub extreme : ℕ → ℤ → List ℕ
extreme samples z = choose (eqb samples 0) (ascii " -") (spaced_signed z)

-- name, samples, least, greatest, sum
unfoldable pub reading_line : List ℕ → ℕ → Figure → List ℕ
reading_line name samples f =
    name
    ++ (spaced samples
    ++ (extreme samples f.least ++ (extreme samples f.greatest ++ (spaced_signed f.sum ++ ascii "\n"))))

-- ---- the counts of a register's bits

-- register and bit, with a point between them, and the count
unfoldable pub count_line : List ℕ → ℕ → ℕ → List ℕ
count_line register j n = register ++ (ascii "." ++ (decimal j ++ (spaced n ++ ascii "\n")))

-- the counts of the bits from j on
unfoldable pub count_lines_from : List ℕ → ℕ → List ℕ → List ℕ
count_lines_from register j [] = []
count_lines_from register j (n ∷ ns) = count_line register j n ++ count_lines_from register (suc j) ns

unfoldable pub count_lines : List ℕ → List ℕ → List ℕ
count_lines register counts = count_lines_from register 0 counts

-- ---- the last line: the answer, and how many records were accepted
unfoldable pub end_line : ℕ → ℕ → List ℕ
end_line answer accepted = ascii "end" ++ (spaced answer ++ (spaced accepted ++ ascii "\n"))
