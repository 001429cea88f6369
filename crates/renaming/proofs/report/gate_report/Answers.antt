-- The gate word of a state in range, and its negation, are at most 64. Assumes nothing.
use mir.Facts.{to_z-of_z}
use mir.Syntax.{w8}
use Rattle.fresh.proofs.Counted.{open_64}
use Rattle.machine.proofs.Ranges.{ranges_of}
use Rattle.machine.proofs.Rules.{rules}
use Rattle.machine.specs.Reports.{gate_report}
use Rattle.machine.specs.Setup.{open_names}
use Rattle.renaming.proofs.Signs.{zero_minus, neg_fits, gate_64}
use Rattle.renaming.proofs.report.gate_report.Goals as goal

pub overflow_sub-state : goal.overflow_sub-state
overflow_sub-state c =
    let s = c.args.state.now in
    let k = ranges_of s c.in_ok-check.ensures in
    rw (to_z-of_z {w = w8} {z = s.gate} (search rules), zero_minus s.gate)
    (neg_fits s.gate (gate_64 (open_names s.setup) s.gate k.gate (open_64 s.setup k.limits)))

pub returns : goal.returns
unfolding gate_report
returns c =
    let s = c.args.state.now in
    let k = ranges_of s c.in_ok-check.ensures in
    let z = to_z-of_z {w = w8} {z = s.gate} (search rules) in
    let n = to_z-of_z (neg_fits s.gate (gate_64 (open_names s.setup) s.gate k.gate (open_64 s.setup k.limits))) in
    rw (c.in_ok-check.ensures, c.positive_part.ensures, c.positive_part-2.ensures, z, zero_minus s.gate, n)
