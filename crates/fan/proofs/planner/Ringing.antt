-- When a divisor and a limit ring: division rounds down, so n <= u / d is n d <= u.
-- Assumes nothing.
use Prim.Native.Nat.{ℕ, ◌+◌, ◌*◌, ◌/◌, ◌≤◌, ◌<◌, min}
use native.Mathlib.Nat.{mul-le-mul_left, mul-le-mul_right, mul_assoc, div-mul-le_self, div-le_self}
use native.Mathlib.Nat.{div-lt_iff_lt-mul, le-div_iff_mul-le, le-min, min-le_right, le_trans}
use native.Mathlib.Omega.{arith}
use mathlib.Core.Path.{◌≡◌, refl}
use mathlib.Core.Bool.{Bool, true, false}
use lib.Dec.{eqb, leb}
use borrow.Author.Tests.{eqb-false, ltb-true, leb-true, leb-false, lt-ltb, le-ltb, ne_eqb}
use Rattle.bits.specs.Bits.{choose}
use Rattle.fan.specs.Count.{per_minute, stored_of, count_of}
use Rattle.fan.specs.Plan.{rings_from, asked, rings_at, plan_rings}

module _ (d l u : ℕ) (pos : 0 < d) where
  pub ring_le : rings_at d l u ≡ true → rings_from d l ≤ u
  ring_le r = (le-div_iff_mul-le pos).0 (omega (arith, ltb-true l (stored_of u d) r, min-le_right 255 (u / d)))

  pub le_ring : l ≤ 254 → rings_from d l ≤ u → rings_at d l u ≡ true
  le_ring h w =
      let q : l + 1 ≤ u / d = (le-div_iff_mul-le pos).1 w in
      lt-ltb l (stored_of u d) (omega arith)

  pub rings_as_planned : l ≤ 254 → rings_at d l u ≡ plan_rings d l u
  rings_as_planned h = go (leb (rings_from d l) u) refl
    where
      go : (t : Bool) → leb (rings_from d l) u ≡ t → rings_at d l u ≡ t
      go true e = le_ring h (leb-true _ _ e)
      go false e =
          let q : u / d < l + 1 = (div-lt_iff_lt-mul pos).1 (leb-false _ _ e) in
          le-ltb l (stored_of u d) (omega arith)

-- a speed of a / b up to w counts at least 1,350,000 / w
pub count_ge : (w a b : ℕ) → 1 ≤ b → a ≤ w * b → asked w ≤ count_of a b
count_ge w a b hb h = go (eqb a 0) refl
  where
    go : (t : Bool) → eqb a 0 ≡ t → asked w ≤ choose t 4294967295 (min 4294967295 (per_minute * b / a))
    go true e = omega (arith, div-le_self per_minute w)
    go false e =
        let z : a ≡ 0 → ⊥ = eqb-false a 0 e in
        le-min (omega (arith, div-le_self per_minute w))
        ((le-div_iff_mul-le (omega arith)).1
        (le_trans (mul-le-mul_left (asked w) h) (rw (← mul_assoc) (mul-le-mul_right b (div-mul-le_self per_minute w)))))

-- the speed w itself counts no more than that
pub count_le : (w : ℕ) → (w ≡ 0 → ⊥) → count_of w 1 ≤ asked w
count_le w h = rw (ne_eqb w 0 h) (min-le_right 4294967295 (asked w))
