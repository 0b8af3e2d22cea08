-- Each branch is a case of the definition, by the mode, the mark and the tests.
-- Assumes nothing.
use Rattle.sensor.specs.Sensor.{status_of}
use Rattle.sensor.proofs.status_step.Goals as goal

pub returns-in-Comparator-default : goal.returns-in-Comparator-default
unfolding status_of
returns-in-Comparator-default c = simp (c.in-Comparator-default.is-0, c.mark_if.ensures)

pub returns-in-Interrupt-Armed : goal.returns-in-Interrupt-Armed
unfolding status_of
returns-in-Interrupt-Armed c = simp (c.in-Interrupt-Armed.is-0, c.in-Interrupt-Armed.is-1, c.if-above.true)

pub returns-in-Interrupt-Hot : goal.returns-in-Interrupt-Hot
unfolding status_of
returns-in-Interrupt-Hot c = simp (c.in-Interrupt-Hot.is-0, c.in-Interrupt-Hot.is-1, c.if-below.true)

pub returns-in-Interrupt-default : goal.returns-in-Interrupt-default
unfolding status_of
returns-in-Interrupt-default c = simp (c.in-Interrupt-Armed.is-0, c.in-Interrupt-Armed.is-1, c.if-above.false)

pub returns-in-Interrupt-default-2 : goal.returns-in-Interrupt-default-2
unfolding status_of
returns-in-Interrupt-default-2 c = simp (c.in-Interrupt-Hot.is-0, c.in-Interrupt-Hot.is-1, c.if-below.false)
