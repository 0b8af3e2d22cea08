-- Two digits of base 16: what they mean, by a test of every byte, and as they are put.
-- Assumes nothing.
use Prim.Native.Nat.{ℕ, ◌+◌, ◌*◌, ◌/◌}
use mathlib.Core.Path.{◌≡◌}
use mathlib.Core.Bool.{Bool, true, ◌&&◌, beq}
use mathlib.Core.List.{[], ◌∷◌}
use lib.Dec.{T, eqb}
use Rattle.bits.proofs.Every.{every, same_below, same_tests}
use Rattle.text.specs.Pages.{Puts}
use Rattle.text.specs.declared.Page.{Page}
use Rattle.text_hex.specs.Hex.{hex_digit, hex_with, capital, small, is_hex_digit, worth, Hexes}
use Rattle.text.proofs.Puts.{◌then◌}

abbrev both_digits : ℕ → ℕ → Bool
both_digits letter n = is_hex_digit letter (hex_digit letter (n / 16)) && is_hex_digit letter (hex_digit letter n)

abbrev read : ℕ → ℕ → ℕ
read letter n = 16 * worth letter (hex_digit letter (n / 16)) + worth letter (hex_digit letter n)

-- both tests, computed
hexes_by : (letter : ℕ) → T (every (λ n. beq (both_digits letter n) true) 256)
    → T (every (λ n. eqb (read letter n) n) 256) → Hexes letter
hexes_by letter t u =
    record {
      digits = same_tests 256 (both_digits letter) (λ n. true) t;
      means = same_below 256 (read letter) (λ n. n) u;
    }

pub capital_hexes : Hexes capital
unfolding hex_digit
capital_hexes = hexes_by capital tt tt

pub small_hexes : Hexes small
unfolding hex_digit
small_hexes = hexes_by small tt tt

pub put_hexes : (o p q : Page) (letter b x y : ℕ) → x ≡ hex_digit letter (b / 16) → y ≡ hex_digit letter b
    → Puts o (x ∷ []) p → Puts p (y ∷ []) q → Puts o (hex_with letter b) q
unfolding hex_with
put_hexes o p q letter b x y e d f g = rw (← e, ← d) (f then g)
