use mathlib.Core.Path.{◌∙◌}
use borrow.Author.Rules.{rules}
use Rattle.bits.specs.Bits.{bit}
use Rattle.w83782d_map.specs.Map.{rows, present_at, writable_at}
use Rattle.w83782d_map.specs.Access.{write_answer}
use Rattle.w83782d_map.proofs.Cells.{read_only_set, answer_absent, answer_read_only, answer_accepted}
use Rattle.w83782d_map.proofs.answer_to_write.Goals as goal

pub returns-then-not-is_present : goal.returns-then-not-is_present
returns-then-not-is_present c = search (rules, answer_absent)

pub returns-then-contains : goal.returns-then-contains
unfolding write_answer present_at writable_at rows bit
returns-then-contains c =
    let read_only = c.contains.ensures ∙ read_only_set _ _ tt c.args.cell in
    search (rules, answer_read_only)

pub returns : goal.returns
unfolding write_answer present_at writable_at rows bit
returns c =
    let read_only = c.contains.ensures ∙ read_only_set _ _ tt c.args.cell in
    search (rules, answer_accepted)
