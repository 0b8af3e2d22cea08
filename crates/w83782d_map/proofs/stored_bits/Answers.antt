use borrow.Author.Rules.{rules}
use mathlib.Core.List.{[]}
use lib.ListN.{get_or}
use Rattle.bits.proofs.Match.{arm}
use Rattle.w83782d_map.specs.Map.{writable_at, rows}
use Rattle.w83782d_map.specs.Access.{stored_bits}
use Rattle.w83782d_map.proofs.Cells.{stored_keys, stored_rest}
use Rattle.w83782d_map.proofs.stored_bits.Goals as goal

pub returns-in-11 : goal.returns-in-11
unfolding writable_at rows
returns-in-11 c = arm stored_bits _ (get_or stored_keys 0 []) tt _ c.in-11.is

pub returns-in-12 : goal.returns-in-12
unfolding writable_at rows
returns-in-12 c = arm stored_bits _ (get_or stored_keys 1 []) tt _ c.in-12.is

pub returns-in-19 : goal.returns-in-19
unfolding writable_at rows
returns-in-19 c = arm stored_bits _ (get_or stored_keys 2 []) tt _ c.in-19.is

pub returns-in-20 : goal.returns-in-20
unfolding writable_at rows
returns-in-20 c = arm stored_bits _ (get_or stored_keys 3 []) tt _ c.in-20.is

pub returns-in-25 : goal.returns-in-25
unfolding writable_at rows
returns-in-25 c = arm stored_bits _ (get_or stored_keys 4 []) tt _ c.in-25.is

pub returns-in-26 : goal.returns-in-26
unfolding writable_at rows
returns-in-26 c = arm stored_bits _ (get_or stored_keys 5 []) tt _ c.in-26.is

pub returns-in-32 : goal.returns-in-32
unfolding writable_at rows
returns-in-32 c = arm stored_bits _ (get_or stored_keys 6 []) tt _ c.in-32.is

pub returns-in-35 : goal.returns-in-35
unfolding writable_at rows
returns-in-35 c = arm stored_bits _ (get_or stored_keys 7 []) tt _ c.in-35.is

pub returns-in-36 : goal.returns-in-36
unfolding writable_at rows
returns-in-36 c = arm stored_bits _ (get_or stored_keys 8 []) tt _ c.in-36.is

pub returns-in-39 : goal.returns-in-39
unfolding writable_at rows
returns-in-39 c = arm stored_bits _ (get_or stored_keys 9 []) tt _ c.in-39.is

pub returns-in-40 : goal.returns-in-40
unfolding writable_at rows
returns-in-40 c = arm stored_bits _ (get_or stored_keys 10 []) tt _ c.in-40.is

pub returns-in-43 : goal.returns-in-43
unfolding writable_at rows
returns-in-43 c = arm stored_bits _ (get_or stored_keys 11 []) tt _ c.in-43.is

pub returns-in-44 : goal.returns-in-44
unfolding writable_at rows
returns-in-44 c = arm stored_bits _ (get_or stored_keys 12 []) tt _ c.in-44.is

pub returns-in-46 : goal.returns-in-46
unfolding writable_at rows
returns-in-46 c = arm stored_bits _ (get_or stored_keys 13 []) tt _ c.in-46.is

pub returns-in-55 : goal.returns-in-55
unfolding writable_at rows
returns-in-55 c = arm stored_bits _ (get_or stored_keys 14 []) tt _ c.in-55.is

pub returns-in-57 : goal.returns-in-57
unfolding writable_at rows
returns-in-57 c = arm stored_bits _ (get_or stored_keys 15 []) tt _ c.in-57.is

pub returns-in-59 : goal.returns-in-59
unfolding writable_at rows
returns-in-59 c = arm stored_bits _ (get_or stored_keys 16 []) tt _ c.in-59.is

pub returns-in-58 : goal.returns-in-58
unfolding writable_at rows
returns-in-58 c = arm stored_bits _ (get_or stored_keys 17 []) tt _ c.in-58.is

pub returns-in-61 : goal.returns-in-61
unfolding writable_at rows
returns-in-61 c = arm stored_bits _ (get_or stored_keys 18 []) tt _ c.in-61.is

pub returns-in-66 : goal.returns-in-66
unfolding writable_at rows
returns-in-66 c = arm stored_bits _ (get_or stored_keys 19 []) tt _ c.in-66.is

pub returns-in-67 : goal.returns-in-67
unfolding writable_at rows
returns-in-67 c = arm stored_bits _ (get_or stored_keys 20 []) tt _ c.in-67.is

pub returns-in-83 : goal.returns-in-83
unfolding writable_at rows
returns-in-83 c = arm stored_bits _ (get_or stored_keys 21 []) tt _ c.in-83.is

pub returns-in-68 : goal.returns-in-68
unfolding writable_at rows
returns-in-68 c = arm stored_bits _ (get_or stored_keys 22 []) tt _ c.in-68.is

pub returns-in-84 : goal.returns-in-84
unfolding writable_at rows
returns-in-84 c = arm stored_bits _ (get_or stored_keys 23 []) tt _ c.in-84.is

pub returns-in_default : goal.returns-in_default
returns-in_default c = search (rules, stored_rest)
