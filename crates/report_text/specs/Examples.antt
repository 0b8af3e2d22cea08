-- Some lines of a report, worked out.
use Rattle.std.specs.Prelude.{◌≡◌, refl, [], ◌∷◌, ◌++◌, pos, negsuc}
use Rattle.figures.specs.Figure.{figure}
use Rattle.text.specs.Text.{ascii}
use Rattle.text.specs.Numbers.{spaced, spell, decimal, signed}
use Rattle.report_text.specs.Lines.{spaced_signed, extreme, reading_line}
use Rattle.report_text.specs.Lines.{count_line, count_lines_from, count_lines, end_line}

-- of three samples, the least of which is below 0
reading_20 : reading_line (ascii "20") 3 (figure (negsuc 0) (pos 7) (pos 12)) ≡ ascii "20 3 -1 7 12\n"
unfolding reading_line extreme spaced spaced_signed signed decimal spell
reading_20 = refl

-- of no sample: neither a least nor a greatest, whatever the figure has there
no_sample_20 : reading_line (ascii "20") 0 (figure (pos 0) (pos 0) (pos 0)) ≡ ascii "20 0 - - 0\n"
unfolding reading_line extreme spaced spaced_signed signed decimal spell
no_sample_20 = refl

no_sample_2_a : reading_line (ascii "2A") 0 (figure (pos 3) (negsuc 4) (pos 0)) ≡ ascii "2A 0 - - 0\n"
unfolding reading_line extreme spaced spaced_signed signed decimal spell
no_sample_2_a = refl

-- of one sample, which is the least, the greatest and the sum; a name may have a point
one_sample_150 : reading_line (ascii "1.50") 1 (figure (negsuc 0) (negsuc 0) (negsuc 0)) ≡ ascii "1.50 1 -1 -1 -1\n"
unfolding reading_line extreme spaced spaced_signed signed decimal spell
one_sample_150 = refl

count_41 : count_lines (ascii "41") (17 ∷ []) ≡ ascii "41.0 17\n"
unfolding count_lines count_lines_from count_line spaced decimal spell
count_41 = refl

-- six bits, the last of which is 5
counts_42 : count_lines (ascii "42") (9 ∷ 0 ∷ 3 ∷ 0 ∷ 100 ∷ 0 ∷ [])
    ≡ ascii "42.0 9\n42.1 0\n42.2 3\n42.3 0\n42.4 100\n" ++ ascii "42.5 0\n"
unfolding count_lines count_lines_from count_line spaced decimal spell
counts_42 = refl

no_count : count_lines (ascii "41") [] ≡ ascii ""
unfolding count_lines count_lines_from
no_count = refl

end_of_100000 : end_line 12 100000 ≡ ascii "end 12 100000\n"
unfolding end_line spaced decimal spell
end_of_100000 = refl

end_of_none : end_line 0 0 ≡ ascii "end 0 0\n"
unfolding end_line spaced decimal spell
end_of_none = refl
