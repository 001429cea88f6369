-- N and b are at least 1 in an accepted setup. Assumes nothing.
use Rattle.machine.proofs.Ranges.{limits_of}
use Rattle.dearest.proofs.tried_of.Goals as goal

pub overflow_sub-setup : goal.overflow_sub-setup
overflow_sub-setup c = (limits_of _ c.setup-setup.ensures.accepted).n1

pub nonzero_div-setup : goal.nonzero_div-setup
nonzero_div-setup c = (limits_of _ c.setup-setup.ensures.accepted).b1
