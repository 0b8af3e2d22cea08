use borrow.Author.Rules.{rules}
use mathlib.Core.List.{[]}
use lib.ListN.{get_or}
use Rattle.bits.proofs.Match.{arm}
use Rattle.w83782d_map.specs.Map.{power_on_at, rows}
use Rattle.w83782d_map.proofs.Cells.{power_keys, power_rest}
use Rattle.w83782d_map.proofs.power_on_byte.Goals as goal

pub returns-in-32 : goal.returns-in-32
unfolding power_on_at rows
returns-in-32 c = arm power_on_at _ (get_or power_keys 0 []) tt _ c.in-32.is

pub returns-in-39 : goal.returns-in-39
unfolding power_on_at rows
returns-in-39 c = arm power_on_at _ (get_or power_keys 1 []) tt _ c.in-39.is

pub returns-in-40 : goal.returns-in-40
unfolding power_on_at rows
returns-in-40 c = arm power_on_at _ (get_or power_keys 2 []) tt _ c.in-40.is

pub returns-in-41 : goal.returns-in-41
unfolding power_on_at rows
returns-in-41 c = arm power_on_at _ (get_or power_keys 3 []) tt _ c.in-41.is

pub returns-in-43 : goal.returns-in-43
unfolding power_on_at rows
returns-in-43 c = arm power_on_at _ (get_or power_keys 4 []) tt _ c.in-43.is

pub returns-in-45 : goal.returns-in-45
unfolding power_on_at rows
returns-in-45 c = arm power_on_at _ (get_or power_keys 5 []) tt _ c.in-45.is

pub returns-in-46 : goal.returns-in-46
unfolding power_on_at rows
returns-in-46 c = arm power_on_at _ (get_or power_keys 6 []) tt _ c.in-46.is

pub returns-in-56 : goal.returns-in-56
unfolding power_on_at rows
returns-in-56 c = arm power_on_at _ (get_or power_keys 7 []) tt _ c.in-56.is

pub returns-in-57 : goal.returns-in-57
unfolding power_on_at rows
returns-in-57 c = arm power_on_at _ (get_or power_keys 8 []) tt _ c.in-57.is

pub returns-in-59 : goal.returns-in-59
unfolding power_on_at rows
returns-in-59 c = arm power_on_at _ (get_or power_keys 9 []) tt _ c.in-59.is

pub returns-in-58 : goal.returns-in-58
unfolding power_on_at rows
returns-in-58 c = arm power_on_at _ (get_or power_keys 10 []) tt _ c.in-58.is

pub returns-in-60 : goal.returns-in-60
unfolding power_on_at rows
returns-in-60 c = arm power_on_at _ (get_or power_keys 11 []) tt _ c.in-60.is

pub returns-in-67 : goal.returns-in-67
unfolding power_on_at rows
returns-in-67 c = arm power_on_at _ (get_or power_keys 12 []) tt _ c.in-67.is

pub returns-in-69 : goal.returns-in-69
unfolding power_on_at rows
returns-in-69 c = arm power_on_at _ (get_or power_keys 13 []) tt _ c.in-69.is

pub returns-in_default : goal.returns-in_default
returns-in_default c = search (rules, power_rest)
