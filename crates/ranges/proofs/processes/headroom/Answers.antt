-- The four bytes are those of `headroom`.
use Rattle.std.proofs.Common.{refl, arith}
use Rattle.machine.proofs.Ranges.{limits_of}
use Rattle.fresh.proofs.Sizes.{same_answer, leaves_1, leaves_16}
use Rattle.ranges.specs.Tests.{headroom}
use Rattle.ranges.proofs.Names.{limit_64}
use Rattle.ranges.proofs.processes.headroom.Goals as goal

pub overflow_mul-setup : goal.overflow_mul-setup
overflow_mul-setup c = omega (arith, leaves_16 (limits_of c.setup-setup.result c.setup-setup.ensures.accepted))

pub overflow_sub-setup : goal.overflow_sub-setup
overflow_sub-setup c = omega (arith, leaves_1 (limits_of c.setup-setup.result c.setup-setup.ensures.accepted))

pub overflow_sub-setup-2 : goal.overflow_sub-setup-2
overflow_sub-setup-2 c = omega (arith, leaves_16 (limits_of c.setup-setup.result c.setup-setup.ensures.accepted))

pub overflow_sub-setup-3 : goal.overflow_sub-setup-3
overflow_sub-setup-3 c = (limits_of c.setup-setup.result c.setup-setup.ensures.accepted).g1

pub overflow_sub-setup-4 : goal.overflow_sub-setup-4
overflow_sub-setup-4 c = omega (arith, (limits_of c.setup-setup.result c.setup-setup.ensures.accepted).g8)

pub overflow_sub-name_limit : goal.overflow_sub-name_limit
overflow_sub-name_limit c =
    let accepted = same_answer c.setup-setup.ensures.value c.setup-setup.ensures.accepted in
    omega (arith, c.name_limit.ensures, limit_64 c.args.accepted accepted)

pub returns-clause-value : goal.returns-clause-value
unfolding headroom
returns-clause-value c = rw (c.from_le_bytes.ensures, c.name_limit.ensures, c.setup-setup.ensures.value) refl
