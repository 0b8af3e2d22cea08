use native.Mathlib.Omega.{arith}
use Rattle.report_text.proofs.Joined.{put_dash, put_some}
use borrow.Author.Rules.{rules}
use Rattle.report_text.proofs.put_extreme.Goals as goal

pub returns-in-0 : goal.returns-in-0
returns-in-0 c = put_dash _ _ _ _ (omega arith) c.put_bytes.ensures

pub returns-in_default : goal.returns-in_default
returns-in_default c =
    put_some _ _ _ _ (λ e. omega arith) (record { sfits = search rules }) c.put_signed_number.ensures
