-- The marked figures hold: the table is whole, and both columns compute to the same list.
-- Assumes nothing.
use mathlib.Core.Path.{refl}
use Rattle.numbers.specs.Rounding.{nearest}
use Rattle.fan.specs.Count.{from_bits}
use Rattle.fan.specs.Search.{better, best_to, plan_of}
use Rattle.fan.specs.Speed.{count_speed}
use Rattle.analog.specs.Readings.{rail_of, millivolts_of}
use Rattle.w83782d_claims.specs.Figures.{Figures}

pub figures_hold : Figures
unfolding from_bits better best_to plan_of count_speed nearest rail_of millivolts_of
figures_hold = (refl, refl)
