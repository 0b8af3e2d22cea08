-- Each branch is a case of the definition, by the mode, the mark and the tests.
-- Assumes nothing.
use Rattle.sensor.specs.Sensor.{output_of}
use Rattle.sensor.proofs.output_step.Goals as goal

pub returns-then-above : goal.returns-then-above
unfolding output_of
returns-then-above c = simp (c.in-Comparator-default.is-0, c.mark_if.ensures, c.if-above.true)

pub returns-then-not-below : goal.returns-then-not-below
unfolding output_of
returns-then-not-below c =
    simp (c.in-Comparator-default.is-0, c.mark_if.ensures, c.if-above.false, c.if-not-below.true)

pub returns-else-not-below : goal.returns-else-not-below
unfolding output_of
returns-else-not-below c =
    simp (c.in-Comparator-default.is-0, c.mark_if.ensures, c.if-above.false, c.if-not-below.false)

pub returns-in-Interrupt-Armed : goal.returns-in-Interrupt-Armed
unfolding output_of
returns-in-Interrupt-Armed c = simp (c.in-Interrupt-Armed.is-0, c.in-Interrupt-Armed.is-1, c.if-above-2.true)

pub returns-in-Interrupt-Hot : goal.returns-in-Interrupt-Hot
unfolding output_of
returns-in-Interrupt-Hot c = simp (c.in-Interrupt-Hot.is-0, c.in-Interrupt-Hot.is-1, c.if-below.true)

pub returns-in-Interrupt-default : goal.returns-in-Interrupt-default
unfolding output_of
returns-in-Interrupt-default c = simp (c.in-Interrupt-Armed.is-0, c.in-Interrupt-Armed.is-1, c.if-above-2.false)

pub returns-in-Interrupt-default-2 : goal.returns-in-Interrupt-default-2
unfolding output_of
returns-in-Interrupt-default-2 c = simp (c.in-Interrupt-Hot.is-0, c.in-Interrupt-Hot.is-1, c.if-below.false)
