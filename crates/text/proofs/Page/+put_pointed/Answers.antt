-- With no digit behind the point it is the number and the point, and otherwise its last digit is behind what is put of
-- a tenth of it with a digit less.
use native.Mathlib.Omega.{arith}
use borrow.Author.Rules.{rules}
use Rattle.text.proofs.Point.{put_point, put_behind}
use Rattle.text.proofs.Page.+put_pointed.Goals as goal

pub returns-then-digits-eq0 : goal.returns-then-digits-eq0
returns-then-digits-eq0 t c = search (rules, put_point)

pub returns : goal.returns
returns t c =
    put_behind _ _ _ c.args.digits c.args.n (λ e. omega arith) c.put_pointed.ensures
    (rw c.last_digit.ensures at c.put_byte-2.ensures)
