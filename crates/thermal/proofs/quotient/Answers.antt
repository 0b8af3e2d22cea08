use Rattle.thermal.proofs.Quotients.{quotient_down, by_none, by_euclid}
use Rattle.thermal.proofs.quotient.Goals as goal

pub returns-then-step-eq0 : goal.returns-then-step-eq0
returns-then-step-eq0 c = record { equation = by_none _ _ c.if-step-eq0.true; claims = quotient_down }

pub returns : goal.returns
returns c =
    record {
      equation = by_euclid _ _ _ c.ranges.degrees c.ranges.step.fits c.if-step-eq0.false c.div_euclid.ensures;
      claims = quotient_down;
    }
