-- A sample in words, worked out.
use Rattle.std.specs.Prelude.{◌≡◌, refl, [], ◌∷◌, pos, negsuc}
use Rattle.text.specs.Text.{ascii}
use Rattle.text.specs.Numbers.{spaced, spell, decimal, last_digits, pointed, places, signed, signed_places}
use Rattle.w83782d_layout.specs.Samples.{undivided}
use Rattle.w83782d_layout.specs.declared.samples.Sample.{Sample}
use Rattle.w83782d_sample_words.specs.Words.{all_spaced, halves_words, all_halves, degrees_words, sample_words}

-- sensor 1 at -1 degree, sensor 2 half a degree below 0, sensor 3 at 12.5 degrees
abbrev cold : Sample
cold =
    record {
      codes = 100 ∷ 93 ∷ 206 ∷ 185 ∷ 196 ∷ 35 ∷ 5 ∷ [];
      sensor1 = negsuc 0;
      remote = negsuc 0 ∷ pos 25 ∷ [];
      counts = undivided 305 ∷ undivided 0 ∷ undivided 1032 ∷ [];
    }

cold_is : sample_words cold ≡ ascii "sample codes 100 93 206 185 196 35 5, degrees -1 -0.5 12.5, counts 305 0 1032"
unfolding sample_words all_spaced spaced degrees_words all_halves halves_words signed signed_places places pointed last_digits
    decimal spell
cold_is = refl
