-- Each definition of specs/Limits at figures on either side of a limit, by computing: a wrong one fails here, in
-- this crate. A sensor's seven cells are 70 degrees, or -1, over hysteresis 60 and over limit 80. Assumes nothing.
use mathlib.Core.Path.{◌≡◌, refl}
use mathlib.Core.Bool.{true, false}
use mathlib.Core.List.{List, [], ◌∷◌}
use Prim.Native.Nat.{ℕ}
use Rattle.limits.specs.Limits.{outside_at, slow_at, whole_level_at, half_level_at, above_at, below_at}

-- value, high limit, low limit
abbrev rail : ℕ → List ℕ
rail v = v ∷ 5 ∷ 3 ∷ []

equal_is_fine : (outside_at (rail 5) 0 1 2 ≡ false) × (outside_at (rail 3) 0 1 2 ≡ false)
equal_is_fine = (refl, refl)

beyond_is_outside : (outside_at (rail 6) 0 1 2 ≡ true) × (outside_at (rail 2) 0 1 2 ≡ true)
beyond_is_outside = (refl, refl)

-- count, limit
slow_above_its_limit : (slow_at (153 ∷ 152 ∷ []) 0 1 ≡ true) × (slow_at (152 ∷ 152 ∷ []) 0 1 ≡ false)
slow_above_its_limit = (refl, refl)

-- value, configuration, hysteresis, over limit
abbrev sensor : ℕ → ℕ → List ℕ
sensor high low = high ∷ low ∷ 0 ∷ 60 ∷ 0 ∷ 80 ∷ 0 ∷ []

above_its_over_limit : (above_at (sensor 80 128) 0 ≡ true) × (above_at (sensor 80 0) 0 ≡ false)
    × (above_at (sensor 255 0) 0 ≡ false)
above_its_over_limit = (refl, refl, refl)

below_its_hysteresis : (below_at (sensor 59 128) 0 ≡ true) × (below_at (sensor 60 0) 0 ≡ false)
    × (below_at (sensor 255 0) 0 ≡ true)
below_its_hysteresis = (refl, refl, refl)

levels_from_the_lowest : (whole_level_at (128 ∷ []) 0 ≡ 0) × (half_level_at (128 ∷ 0 ∷ []) 0 ≡ 0)
levels_from_the_lowest = (refl, refl)
