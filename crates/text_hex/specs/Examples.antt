-- Digits of some bytes, worked out.
use Rattle.std.specs.Prelude.{◌≡◌, refl}
use Rattle.text.specs.Text.{ascii}
use Rattle.text_hex.specs.Hex.{hex_digit, hex_with, hex, small_hex}

hex_2_a : hex 42 ≡ ascii "2A"
unfolding hex_with hex_digit
hex_2_a = refl

small_hex_2a : small_hex 42 ≡ ascii "2a"
unfolding hex_with hex_digit
small_hex_2a = refl

hex_09 : hex 9 ≡ ascii "09"
unfolding hex_with hex_digit
hex_09 = refl
