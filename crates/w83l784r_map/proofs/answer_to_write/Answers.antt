-- What each test found is what the rows say of the cell, by computing; then the answer is one case of its definition
-- (proofs/Cells.antt). Assumes nothing.
use mathlib.Core.Path.{◌∙◌}
use borrow.Author.Rules.{rules}
use Rattle.bits.specs.Bits.{bit}
use Rattle.w83l784r_map.specs.Map.{rows, content_at, present_at, writable_at, offset_at}
use Rattle.w83l784r_map.specs.Access.{write_answer}
use Rattle.w83l784r_map.proofs.Cells.{offset_set, read_only_set}
use Rattle.w83l784r_map.proofs.Cells.{answer_absent, answer_locked, answer_read_only, answer_accepted}
use Rattle.w83l784r_map.proofs.answer_to_write.Goals as goal

pub returns-then-not-is_present : goal.returns-then-not-is_present
returns-then-not-is_present c = search (rules, answer_absent)

pub returns-then-contains : goal.returns-then-contains
unfolding offset_at content_at bit
returns-then-contains c =
    let n = c.args.cell in
    let locked = c.contains.ensures ∙ offset_set _ _ tt n in
    search (rules, answer_locked)

pub returns-then-contains-2 : goal.returns-then-contains-2
unfolding write_answer present_at writable_at offset_at content_at rows bit
returns-then-contains-2 c =
    let n = c.args.cell in
    let read_only = c.contains-2.ensures ∙ read_only_set _ _ tt n in
    search (rules, answer_read_only)

pub returns : goal.returns
unfolding write_answer present_at writable_at offset_at content_at rows bit
returns c =
    let n = c.args.cell in
    let locked = c.contains.ensures ∙ offset_set _ _ tt n in
    let read_only = c.contains-2.ensures ∙ read_only_set _ _ tt n in
    search (rules, answer_accepted)
