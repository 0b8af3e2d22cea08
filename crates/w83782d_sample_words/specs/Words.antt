-- A sample in words, as programs print it.
use Rattle.std.specs.Prelude.{ℕ, List, [], ◌∷◌, ◌++◌, map, ℤ, pos, ◌*ℤ◌}
use Rattle.text.specs.Text.{ascii}
use Rattle.text.specs.Numbers.{spaced, signed, signed_places}
use Rattle.w83782d_layout.specs.declared.samples.Sample.{Sample}

unfoldable pub all_spaced : List ℕ → List ℕ
all_spaced [] = []
all_spaced (n ∷ ns) = spaced n ++ all_spaced ns

-- half degrees behind a space, as degrees with one decimal: a half is five tenths
unfoldable pub halves_words : ℤ → List ℕ
halves_words z = ascii " " ++ signed_places 1 (z *ℤ pos 5)

unfoldable pub all_halves : List ℤ → List ℕ
all_halves [] = []
all_halves (z ∷ zs) = halves_words z ++ all_halves zs

unfoldable pub degrees_words : ℤ → List ℤ → List ℕ
degrees_words t ts = ascii ", degrees " ++ (signed t ++ all_halves ts)

unfoldable pub sample_words : Sample → List ℕ
sample_words m =
    ascii "sample codes"
    ++ (all_spaced m.codes
    ++ (degrees_words m.sensor1 m.remote
    ++ (ascii ", counts" ++ all_spaced (map (λ u. u.0) m.counts))))
