-- Each arm's value is what the rows say at its keys, by computing; the last arm's is what they say at every other
-- number (proofs/Cells.antt). Assumes nothing.
use borrow.Author.Rules.{rules}
use mathlib.Core.List.{[]}
use lib.ListN.{get_or}
use Rattle.bits.proofs.Match.{arm}
use Rattle.w83l784r_map.specs.Map.{rows, content_at, power_on_at}
use Rattle.w83l784r_map.proofs.Cells.{power_keys, power_rest}
use Rattle.w83l784r_map.proofs.power_on_byte.Goals as goal

pub returns-in-32 : goal.returns-in-32
unfolding power_on_at content_at rows
returns-in-32 c = arm power_on_at _ (get_or power_keys 0 []) tt _ c.in-32.is

pub returns-in-41 : goal.returns-in-41
unfolding power_on_at content_at rows
returns-in-41 c = arm power_on_at _ (get_or power_keys 1 []) tt _ c.in-41.is

pub returns-in-42 : goal.returns-in-42
unfolding power_on_at content_at rows
returns-in-42 c = arm power_on_at _ (get_or power_keys 2 []) tt _ c.in-42.is

pub returns-in-44 : goal.returns-in-44
unfolding power_on_at content_at rows
returns-in-44 c = arm power_on_at _ (get_or power_keys 3 []) tt _ c.in-44.is

pub returns-in-45 : goal.returns-in-45
unfolding power_on_at content_at rows
returns-in-45 c = arm power_on_at _ (get_or power_keys 4 []) tt _ c.in-45.is

pub returns-in-46 : goal.returns-in-46
unfolding power_on_at content_at rows
returns-in-46 c = arm power_on_at _ (get_or power_keys 5 []) tt _ c.in-46.is

pub returns-in-47 : goal.returns-in-47
unfolding power_on_at content_at rows
returns-in-47 c = arm power_on_at _ (get_or power_keys 6 []) tt _ c.in-47.is

pub returns-in-49 : goal.returns-in-49
unfolding power_on_at content_at rows
returns-in-49 c = arm power_on_at _ (get_or power_keys 7 []) tt _ c.in-49.is

pub returns-in-54 : goal.returns-in-54
unfolding power_on_at content_at rows
returns-in-54 c = arm power_on_at _ (get_or power_keys 8 []) tt _ c.in-54.is

pub returns-in-65 : goal.returns-in-65
unfolding power_on_at content_at rows
returns-in-65 c = arm power_on_at _ (get_or power_keys 9 []) tt _ c.in-65.is

pub returns-in-72 : goal.returns-in-72
unfolding power_on_at content_at rows
returns-in-72 c = arm power_on_at _ (get_or power_keys 10 []) tt _ c.in-72.is

pub returns-in-73 : goal.returns-in-73
unfolding power_on_at content_at rows
returns-in-73 c = arm power_on_at _ (get_or power_keys 11 []) tt _ c.in-73.is

pub returns-in-76 : goal.returns-in-76
unfolding power_on_at content_at rows
returns-in-76 c = arm power_on_at _ (get_or power_keys 12 []) tt _ c.in-76.is

pub returns-in-77 : goal.returns-in-77
unfolding power_on_at content_at rows
returns-in-77 c = arm power_on_at _ (get_or power_keys 13 []) tt _ c.in-77.is

pub returns-in-78 : goal.returns-in-78
unfolding power_on_at content_at rows
returns-in-78 c = arm power_on_at _ (get_or power_keys 14 []) tt _ c.in-78.is

pub returns-in-79 : goal.returns-in-79
unfolding power_on_at content_at rows
returns-in-79 c = arm power_on_at _ (get_or power_keys 15 []) tt _ c.in-79.is

pub returns-in-99 : goal.returns-in-99
unfolding power_on_at content_at rows
returns-in-99 c = arm power_on_at _ (get_or power_keys 16 []) tt _ c.in-99.is

pub returns-in_default : goal.returns-in_default
returns-in_default c = search (rules, power_rest)
