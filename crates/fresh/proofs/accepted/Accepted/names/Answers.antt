-- The limits of an accepted setup keep both products small.
use Rattle.std.proofs.Common.{arith}
use Rattle.machine.proofs.Ranges.{limits_of}
use Rattle.fresh.proofs.Sizes.{words_64}
use Rattle.fresh.proofs.accepted.Accepted.names.Goals as goal

pub overflow_mul-result : goal.overflow_mul-result
overflow_mul-result c = omega (arith, words_64 (limits_of c.self.inside.setup c.self.invariant))

pub overflow_mul-result-2 : goal.overflow_mul-result-2
overflow_mul-result-2 c = omega (arith, (limits_of c.self.inside.setup c.self.invariant).k64)
