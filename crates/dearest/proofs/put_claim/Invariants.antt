-- So many steps stand behind the request.
use Rattle.lent.specs.Text.{Appends}
use Rattle.dearest.proofs.Writing.{step_bytes}
use Rattle.dearest.proofs.put_claim.Given as goal

abbrev pub invariant-loop : goal.invariant-loop
invariant-loop l = Appends l.initial.text l.text (step_bytes l.p l.counter)
