use Rattle.text.proofs.Decimal.{decimal_one, digit_more, all_digits}
use Rattle.text.proofs.Page.put_decimal.Goals as goal

pub returns-then-n-lt10 : goal.returns-then-n-lt10
returns-then-n-lt10 c = rw (decimal_one _ c.if-n-lt10.true) (rw c.last_digit.ensures at c.put_byte.ensures)

pub loop-rest-preserved : goal.loop-rest-preserved
loop-rest-preserved c =
    rw c.last_digit-in-loop-rest.ensures (digit_more _ _ _ _ c.loop-rest.invariant c.loop-rest-test.true)

pub returns : goal.returns
returns c =
    let all = all_digits _ _ _ _ c.loop-rest.invariant c.loop-rest-test.false in
    rw (c.last_digit-2.ensures, all) at c.put_bytes.ensures
