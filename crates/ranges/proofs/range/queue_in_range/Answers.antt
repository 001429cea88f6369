-- The greatest number, and the bits past the end.
use Rattle.std.proofs.Common.{◌∙◌, sym}
use Rattle.machine.proofs.Rules.{le-ltb}
use Rattle.ranges.proofs.Bounds.{entry_out, past_decides}
use Rattle.ranges.proofs.range.queue_in_range.Goals as goal

pub returns-then-greatest-n : goal.returns-then-greatest-n
returns-then-greatest-n c =
    c.is_zero_from.ensures
    ∙ sym (past_decides c.args.queue.now c.args.m c.args.n (rw c.told-queue at c.greatest.ensures) c.if-greatest-n.true)

pub returns-else-greatest-n : goal.returns-else-greatest-n
returns-else-greatest-n c =
    le-ltb _ _ c.if-greatest-n.false
    ∙ sym (entry_out c.args.queue.now c.args.m c.args.n c.requires (rw c.told-queue at c.greatest.ensures) c.if-greatest-n.false)
