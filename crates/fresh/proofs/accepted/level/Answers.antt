-- The logarithm of a node is its depth, by the test of all.
use Rattle.std.proofs.Common.{arith}
use Rattle.fresh.proofs.Levels.{depth_between}
use Rattle.fresh.proofs.accepted.level.Goals as goal

pub returns : goal.returns
returns c =
    let e = c.ilog2.ensures in
    omega (arith, depth_between c.args.v c.ilog2.result c.requires.1 e.bound e.power_le e.next_power_gt)
