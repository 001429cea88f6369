-- The two comparisons, by cases on the gate word's sign.
use Rattle.std.proofs.Common.{arith}
use Rattle.std.proofs.lemmas.Grind.{common_steps}
use Rattle.machine.specs.Range.{gate_in_range}
use Rattle.ranges.proofs.range.gate_in_range.Goals as goal

pub returns : goal.returns
unfolding gate_in_range
returns c = grind (arith, common_steps)
