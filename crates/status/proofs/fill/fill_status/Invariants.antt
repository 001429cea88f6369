-- The loop keeps that the records of the first processes are written.
use Rattle.std.proofs.Common.{◌≡◌}
use Rattle.machine.specs.Reports.{status_of}
use Rattle.status.proofs.Written.{written}
use Rattle.status.proofs.fill.fill_status.Given as goal

abbrev pub invariant-loop-i : goal.invariant-loop-i
invariant-loop-i l = l.lent ≡ written status_of l.fn.state.process l.i l.initial.lent
