use native.Mathlib.Omega.{arith}
use Rattle.w83782d_names.proofs.Cases.{put_below, put_of_reading, put_of_control, put_of_bank}
use Rattle.w83782d_names.proofs.Cases.{put_again, put_above, names}
use borrow.Author.Rules.{rules}
use Rattle.w83782d_names.proofs.put_name.Goals as goal

pub returns-in-0-to-31 : goal.returns-in-0-to-31
returns-in-0-to-31 c = (search (rules, put_below), names)

pub returns-in-32-to-63 : goal.returns-in-32-to-63
returns-in-32-to-63 c =
    (put_of_reading _ _ c.args.bank c.args.index (omega arith) (omega arith) c.put_reading.ensures, names)

pub returns-in-64-to-79 : goal.returns-in-64-to-79
returns-in-64-to-79 c =
    (put_of_control _ _ c.args.bank c.args.index (omega arith) (omega arith) c.put_control.ensures, names)

pub returns-in-80-to-95 : goal.returns-in-80-to-95
returns-in-80-to-95 c =
    (put_of_bank _ _ c.args.bank c.args.index (omega arith) (omega arith) c.put_banked.ensures, names)

pub returns-in-96-to-127 : goal.returns-in-96-to-127
returns-in-96-to-127 c =
    (put_again _ _ c.args.bank c.args.index (omega arith) (omega arith) c.put_reading-in-96-to-127.ensures, names)

pub returns-in_default : goal.returns-in_default
returns-in_default c = (search (rules, put_above), names)
