-- Figures that compute: on either side of 0 and of what a signed byte holds, and sequences of samples in each new mode.
-- Assumes nothing.
use mathlib.Core.Path.{◌≡◌, refl}
use mathlib.Core.Bool.{Bool, true, false}
use mathlib.Core.List.{List, [], ◌∷◌}
use Prim.Native.Nat.{ℕ}
use lib.IntN.{ℤ, pos, negsuc}
use Rattle.sensor.specs.declared.Mark.{Mark}
use Rattle.sensor.specs.declared.Mark.TheVariants.{Armed}
use Rattle.sensor.specs.declared.Mode.TheVariants.{Interrupt}
use Rattle.sensor.specs.Sensor.{output, status_of}
use Rattle.thermal.specs.declared.StatusMode.{StatusMode}
use Rattle.thermal.specs.declared.StatusMode.TheVariants.{Plain, OneTime}
use Rattle.thermal.specs.declared.OutputMode.TheVariants.{Acpi}
use Rattle.thermal.specs.Offset.{held, held_sum}
use Rattle.thermal.specs.Quotient.{quotient_by, has_moved}
use Rattle.thermal.specs.Modes.{status_by, output_by}

-- 10 and -5, -1 and -128, 1 and 127, -1 and 63
sums : (held_sum (pos 10) (negsuc 4) ≡ pos 5) × (held_sum (negsuc 0) (negsuc 127) ≡ negsuc 127)
    × (held_sum (pos 1) (pos 127) ≡ pos 127) × (held_sum (negsuc 0) (pos 63) ≡ pos 62)
unfolding held_sum held
sums = (refl, refl, refl, refl)

-- 4, 9, -1, -5 and -6 by 5
quotients : (quotient_by 5 (pos 4) ≡ pos 0) × (quotient_by 5 (pos 9) ≡ pos 1) × (quotient_by 5 (negsuc 0) ≡ negsuc 0)
    × (quotient_by 5 (negsuc 4) ≡ negsuc 0) × (quotient_by 5 (negsuc 5) ≡ negsuc 1)
unfolding quotient_by
quotients = (refl, refl, refl, refl, refl)

-- ---- status: what is latched by samples that are above, below or neither
abbrev latches : StatusMode → Mark → List (Bool × Bool) → List Bool
latches mode m [] = []
latches mode m (s ∷ ss) =
    (status_by mode m s.0 s.1).latched ∷ latches mode (status_by mode m s.0 s.1).mark ss

-- 81, 81, 76, 70, 70 and 81, with over limit 80 and hysteresis 75
abbrev rise_and_fall : List (Bool × Bool)
rise_and_fall =
    (true, false) ∷ (true, false) ∷ (false, false) ∷ (false, true) ∷ (false, true) ∷ (true, false) ∷ []

one_time : latches OneTime Armed rise_and_fall ≡ true ∷ false ∷ false ∷ false ∷ false ∷ true ∷ []
unfolding status_by status_of
one_time = refl

two_times : latches (Plain Interrupt) Armed rise_and_fall ≡ true ∷ false ∷ false ∷ true ∷ false ∷ true ∷ []
unfolding status_by status_of
two_times = refl

-- ---- ACPI: whether samples assert, by the step and the degrees of each, from a kept quotient on; none is above
abbrev asserts : ℤ → List (ℕ × ℤ) → List Bool
asserts kept [] = []
asserts kept (s ∷ ss) =
    (output_by Acpi (output Armed false) false false (has_moved s.0 kept (quotient_by s.0 s.1))).asserted ∷
    asserts (quotient_by s.0 s.1) ss

-- 4, 5, 9, 10, 4, -1, -5, -6 and 0 by 5
through_zero :
    asserts (pos 0)
    ((5, pos 4) ∷
    (5, pos 5) ∷
    (5, pos 9) ∷
    (5, pos 10) ∷
    (5, pos 4) ∷
    (5, negsuc 0) ∷
    (5, negsuc 4) ∷
    (5, negsuc 5) ∷
    (5, pos 0) ∷
    [])
    ≡ false ∷ true ∷ false ∷ true ∷ true ∷ true ∷ false ∷ true ∷ true ∷ []
unfolding output_by has_moved quotient_by
through_zero = refl

-- 12, 12 by 5, 12 by 4, 50 by 0, 3 and 5 by 5
other_steps :
    asserts (pos 0)
    ((5, pos 12) ∷ (5, pos 12) ∷ (4, pos 12) ∷ (0, pos 50) ∷ (5, pos 3) ∷ (5, pos 5) ∷ [])
    ≡ true ∷ false ∷ true ∷ false ∷ false ∷ true ∷ []
unfolding output_by has_moved quotient_by
other_steps = refl
