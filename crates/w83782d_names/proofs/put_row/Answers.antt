use Prim.Native.Nat.{ℕ}
use mathlib.Core.Path.{◌≡◌, sym, ◌∙◌}
use borrow.Author.Rules.{rules}
use Rattle.w83782d_names.proofs.Trimmed.{trimmed_space, put_whole_name, put_no_name}
use Rattle.w83782d_names.proofs.put_row.Goals.{in_default, in_default-2}
use Rattle.w83782d_names.proofs.put_row.Goals as goal

pub loop-rest-preserved : goal.loop-rest-preserved
loop-rest-preserved c =
    let some = c.in-Some-eq32-default in
    sym (trimmed_space some.rest.now) ∙ rw (some.ensures.cases.0, some.field-0-0-test) at c.loop-rest.invariant

pub returns : goal.returns
returns c =
    elim c.match-split_last.branch [
      | in_default w ↦
          let some = w.in_default in
          let last = rw some.is at c.split_last.ensures.cases in
          let other : ◌≡◌ {A = ℕ} some.field-0.0.now 32 → ⊥ = λ e. search rules in
          put_whole_name _ _ _ _ c.loop-rest.invariant c.put_bytes.ensures _ _ last.0 other
      | in_default-2 w ↦
          let none = rw w.in_default.is at c.split_last.ensures.cases in
          put_no_name _ _ _ _ c.loop-rest.invariant c.put_bytes.ensures none
    ]
