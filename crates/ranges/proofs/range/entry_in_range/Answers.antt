-- The limits of an accepted setup are what the tests of the gate word and of the queue ask for.
use Rattle.machine.proofs.Ranges.{limits_of}
use Rattle.fresh.proofs.Counted.{open_64}
use Rattle.fresh.proofs.Sizes.{same_answer}
use Rattle.ranges.proofs.range.entry_in_range.Goals as goal

pub gate_in_range-requires : goal.gate_in_range-requires
gate_in_range-requires c =
    let accepted = same_answer c.setup-setup.ensures.value c.setup-setup.ensures.accepted in
    rw c.open_names.ensures (open_64 c.args.accepted (limits_of c.args.accepted accepted))

pub queue_in_range-requires : goal.queue_in_range-requires
queue_in_range-requires c = (limits_of c.setup-setup.result c.setup-setup.ensures.accepted).n1
