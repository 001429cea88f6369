-- By whether name 63 is closed.
use Rattle.machine.proofs.Rules.{eq-eqb, ne_eqb}
use Rattle.ranges.specs.Tests.{name_limit}
use Rattle.ranges.proofs.processes.name_limit.Goals as goal

pub returns-then-setup-eq0 : goal.returns-then-setup-eq0
unfolding name_limit
returns-then-setup-eq0 c = rw (eq-eqb _ 0 (rw c.setup.ensures.value at c.if-setup-eq0.true), c.names.ensures)

pub returns-else-setup-eq0 : goal.returns-else-setup-eq0
unfolding name_limit
returns-else-setup-eq0 c = rw (ne_eqb _ 0 (rw c.setup.ensures.value at c.if-setup-eq0.false))
