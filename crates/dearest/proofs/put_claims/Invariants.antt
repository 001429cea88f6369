-- The claims of the processes so far stand behind what was there.
use Rattle.lent.specs.Text.{Appends}
use Rattle.machine.specs.Lists.{list_bytes}
use Rattle.dearest_claim.specs.Dearest.{claims}
use Rattle.dearest.proofs.put_claims.Given as goal

abbrev pub invariant-loop-p : goal.invariant-loop-p
invariant-loop-p l = Appends l.initial.text l.text (list_bytes (claims l.fn.setup l.p))
