-- The four numbers are tested side by side.
use Rattle.std.proofs.Common.{◌∙◌, sym, arith}
use Rattle.ranges.proofs.Bytes.{first_fails, second_decides}
use Rattle.ranges.proofs.processes.ranks_fit.Goals as goal

pub returns-then-bytes_below_128 : goal.returns-then-bytes_below_128
returns-then-bytes_below_128 c s accepted lacks =
    let n = c.ranges in
    c.bytes_below_128-then-bytes_below_128.ensures
    ∙ second_decides s accepted c.args.stage c.args.node c.args.segment c.args.name
    (omega (arith, n.stage.fits), omega (arith, n.node.fits), omega (arith, n.segment.fits), omega (arith, n.name.fits))
    c.from_le_bytes-ranks.ensures lacks (sym c.bytes_below_128.ensures ∙ c.if-bytes_below_128.true)

pub returns-else-bytes_below_128 : goal.returns-else-bytes_below_128
returns-else-bytes_below_128 c s accepted lacks =
    let n = c.ranges in
    c.if-bytes_below_128.false
    ∙ first_fails s accepted c.args.stage c.args.node c.args.segment c.args.name
    (omega (arith, n.stage.fits), omega (arith, n.node.fits), omega (arith, n.segment.fits), omega (arith, n.name.fits))
    c.from_le_bytes-ranks.ensures lacks (sym c.bytes_below_128.ensures ∙ c.if-bytes_below_128.false)
