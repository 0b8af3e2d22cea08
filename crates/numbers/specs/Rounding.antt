-- Rounding (rules R-1, R-2).
use Rattle.std.specs.Prelude.{ℕ, ◌+◌, ◌*◌, ◌/◌, ◌<◌, ◌≤◌}

-- nearest, halves up: n / d
unfoldable pub nearest : ℕ → ℕ → ℕ
nearest n d = (2 * n + d) / (2 * d)

-- what it means that r is n / d to the nearest, halves up: twice n lies below 2r + 1 times d, a half above r, and
-- from 2r - 1 times d up, a half that goes up
pub record IsNearest (n d r : ℕ) : Type 0 where
  pub below : 2 * n + d < 2 * (r + 1) * d
  pub at_least : 2 * r * d ≤ 2 * n + d

abbrev pub Nearest : Type 0
Nearest = (n d : ℕ) → 0 < d → IsNearest n d (nearest n d)
