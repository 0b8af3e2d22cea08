-- Characters of some numbers, worked out.
use Rattle.std.specs.Prelude.{◌≡◌, refl, pos, negsuc}
use Rattle.text.specs.Text.{ascii}
use Rattle.text.specs.Numbers.{spell, decimal, last_digits, pointed, places, signed, signed_places}

decimal_0 : decimal 0 ≡ ascii "0"
unfolding decimal spell
decimal_0 = refl

decimal_44118 : decimal 44118 ≡ ascii "44118"
unfolding decimal spell
decimal_44118 = refl

-- 5 before 0: no leading zero, and none lost at the end
decimal_500 : decimal 500 ≡ ascii "500"
unfolding decimal spell
decimal_500 = refl

signed_12 : signed (pos 12) ≡ ascii "12"
unfolding signed decimal spell
signed_12 = refl

signed_128_below : signed (negsuc 127) ≡ ascii "-128"
unfolding signed decimal spell
signed_128_below = refl

-- 4,411.8 as tenths, 0.05 as hundredths, a number with no point
places_44118 : places 1 44118 ≡ ascii "4411.8"
unfolding places pointed last_digits decimal spell
places_44118 = refl

places_5 : places 2 5 ≡ ascii "0.05"
unfolding places pointed last_digits decimal spell
places_5 = refl

places_none : places 0 120 ≡ ascii "120"
unfolding places decimal spell
places_none = refl

signed_tenth_below : signed_places 1 (negsuc 0) ≡ ascii "-0.1"
unfolding signed_places places pointed last_digits decimal spell
signed_tenth_below = refl
