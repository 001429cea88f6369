-- The counters from node v on are filled: those of a count of L - v.
use Rattle.std.proofs.Common.{◌≡◌, ◌≤◌, ◌-◌}
use Rattle.machine.proofs.Laws.Partial.{counters}
use Rattle.fresh.proofs.accepted.Accepted.counters.Given as goal

abbrev pub invariant-loop-v : goal.invariant-loop-v
invariant-loop-v l = (l.first ≤ l.v) × (l.counters ≡ counters l.self (l.leaves - l.v))
