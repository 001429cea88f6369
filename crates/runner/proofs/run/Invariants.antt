-- What is written after i events, and what the rest of the list will do, are the whole run.
use Rattle.runner.proofs.Going.{Going}
use Rattle.runner.proofs.run.Given as goal

abbrev pub invariant-loop-i : goal.invariant-loop-i
invariant-loop-i l = Going l.pairs l.events l.fn.journal l.fn.s l.journal l.s l.i
