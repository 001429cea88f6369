-- The highest bits of the four bytes.
use Rattle.ranges.proofs.Bytes.{top_bits}
use Rattle.ranges.proofs.processes.bytes_below_128.Goals as goal

pub returns : goal.returns
returns c = top_bits c.args.x
