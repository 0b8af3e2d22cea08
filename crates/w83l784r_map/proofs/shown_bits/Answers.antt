-- Each arm's value is what the rows say at its keys, by computing; the last arm's is what they say at every other
-- number (proofs/Cells.antt). Assumes nothing.
use borrow.Author.Rules.{rules}
use mathlib.Core.List.{[]}
use lib.ListN.{get_or}
use Rattle.bits.proofs.Match.{arm}
use Rattle.w83l784r_map.specs.Map.{rows, content_at}
use Rattle.w83l784r_map.specs.Access.{shown_bits}
use Rattle.w83l784r_map.proofs.Cells.{shown_keys, shown_rest}
use Rattle.w83l784r_map.proofs.shown_bits.Goals as goal

pub returns-in-0 : goal.returns-in-0
unfolding shown_bits content_at rows
returns-in-0 c = arm shown_bits _ (get_or shown_keys 0 []) tt _ c.in-0.is

pub returns-in-1 : goal.returns-in-1
unfolding shown_bits content_at rows
returns-in-1 c = arm shown_bits _ (get_or shown_keys 1 []) tt _ c.in-1.is

pub returns-in-11 : goal.returns-in-11
unfolding shown_bits content_at rows
returns-in-11 c = arm shown_bits _ (get_or shown_keys 2 []) tt _ c.in-11.is

pub returns-in-12 : goal.returns-in-12
unfolding shown_bits content_at rows
returns-in-12 c = arm shown_bits _ (get_or shown_keys 3 []) tt _ c.in-12.is

pub returns-in-32 : goal.returns-in-32
unfolding shown_bits content_at rows
returns-in-32 c = arm shown_bits _ (get_or shown_keys 4 []) tt _ c.in-32.is

pub returns-in-33 : goal.returns-in-33
unfolding shown_bits content_at rows
returns-in-33 c = arm shown_bits _ (get_or shown_keys 5 []) tt _ c.in-33.is

pub returns-in-34 : goal.returns-in-34
unfolding shown_bits content_at rows
returns-in-34 c = arm shown_bits _ (get_or shown_keys 6 []) tt _ c.in-34.is

pub returns-in-36 : goal.returns-in-36
unfolding shown_bits content_at rows
returns-in-36 c = arm shown_bits _ (get_or shown_keys 7 []) tt _ c.in-36.is

pub returns-in-41 : goal.returns-in-41
unfolding shown_bits content_at rows
returns-in-41 c = arm shown_bits _ (get_or shown_keys 8 []) tt _ c.in-41.is

pub returns-in-42 : goal.returns-in-42
unfolding shown_bits content_at rows
returns-in-42 c = arm shown_bits _ (get_or shown_keys 9 []) tt _ c.in-42.is

pub returns-in-43 : goal.returns-in-43
unfolding shown_bits content_at rows
returns-in-43 c = arm shown_bits _ (get_or shown_keys 10 []) tt _ c.in-43.is

pub returns-in-44 : goal.returns-in-44
unfolding shown_bits content_at rows
returns-in-44 c = arm shown_bits _ (get_or shown_keys 11 []) tt _ c.in-44.is

pub returns-in-48 : goal.returns-in-48
unfolding shown_bits content_at rows
returns-in-48 c = arm shown_bits _ (get_or shown_keys 12 []) tt _ c.in-48.is

pub returns-in-52 : goal.returns-in-52
unfolding shown_bits content_at rows
returns-in-52 c = arm shown_bits _ (get_or shown_keys 13 []) tt _ c.in-52.is

pub returns-in-53 : goal.returns-in-53
unfolding shown_bits content_at rows
returns-in-53 c = arm shown_bits _ (get_or shown_keys 14 []) tt _ c.in-53.is

pub returns-in-54 : goal.returns-in-54
unfolding shown_bits content_at rows
returns-in-54 c = arm shown_bits _ (get_or shown_keys 15 []) tt _ c.in-54.is

pub returns-in-55 : goal.returns-in-55
unfolding shown_bits content_at rows
returns-in-55 c = arm shown_bits _ (get_or shown_keys 16 []) tt _ c.in-55.is

pub returns-in-64 : goal.returns-in-64
unfolding shown_bits content_at rows
returns-in-64 c = arm shown_bits _ (get_or shown_keys 17 []) tt _ c.in-64.is

pub returns-in-65 : goal.returns-in-65
unfolding shown_bits content_at rows
returns-in-65 c = arm shown_bits _ (get_or shown_keys 18 []) tt _ c.in-65.is

pub returns-in-72 : goal.returns-in-72
unfolding shown_bits content_at rows
returns-in-72 c = arm shown_bits _ (get_or shown_keys 19 []) tt _ c.in-72.is

pub returns-in-73 : goal.returns-in-73
unfolding shown_bits content_at rows
returns-in-73 c = arm shown_bits _ (get_or shown_keys 20 []) tt _ c.in-73.is

pub returns-in-80 : goal.returns-in-80
unfolding shown_bits content_at rows
returns-in-80 c = arm shown_bits _ (get_or shown_keys 21 []) tt _ c.in-80.is

pub returns-in-81 : goal.returns-in-81
unfolding shown_bits content_at rows
returns-in-81 c = arm shown_bits _ (get_or shown_keys 22 []) tt _ c.in-81.is

pub returns-in-96 : goal.returns-in-96
unfolding shown_bits content_at rows
returns-in-96 c = arm shown_bits _ (get_or shown_keys 23 []) tt _ c.in-96.is

pub returns-in-97 : goal.returns-in-97
unfolding shown_bits content_at rows
returns-in-97 c = arm shown_bits _ (get_or shown_keys 24 []) tt _ c.in-97.is

pub returns-in-104 : goal.returns-in-104
unfolding shown_bits content_at rows
returns-in-104 c = arm shown_bits _ (get_or shown_keys 25 []) tt _ c.in-104.is

pub returns-in-105 : goal.returns-in-105
unfolding shown_bits content_at rows
returns-in-105 c = arm shown_bits _ (get_or shown_keys 26 []) tt _ c.in-105.is

pub returns-in-98 : goal.returns-in-98
unfolding shown_bits content_at rows
returns-in-98 c = arm shown_bits _ (get_or shown_keys 27 []) tt _ c.in-98.is

pub returns-in_default : goal.returns-in_default
returns-in_default c = search (rules, shown_rest)
