-- The first p processes are fresh.
use Rattle.std.proofs.Common.{◌≡◌}
use Rattle.machine.specs.Below.{tabulate}
use Rattle.fresh.proofs.Filled.{first_fresh}
use Rattle.fresh.proofs.accepted.Accepted.processes.Given as goal

abbrev pub invariant-loop-p : goal.invariant-loop-p
invariant-loop-p l = l.process ≡ tabulate 64 (first_fresh l.p)
