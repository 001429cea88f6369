-- At most 64 open names are the gate word as they stand.
use Rattle.std.proofs.Common.{◌^◌, ◌<◌, arith}
use mir.Facts.{to_z_pos}
use mir.Syntax.{w8}
use Rattle.machine.specs.State.{fresh, partial}
use Rattle.machine.proofs.Ranges.{limits_of}
use Rattle.fresh.proofs.Counted.{open_64}
use Rattle.fresh.proofs.Sizes.{same_answer}
use Rattle.fresh.proofs.accepted.Accepted.state.Goals as goal

pub overflow_cast-result : goal.overflow_cast-result
overflow_cast-result c =
    let accepted = same_answer c.self.view_is c.self.invariant in
    omega (arith, open_64 c.args.self (limits_of c.args.self accepted), c.open_names.ensures)

pub returns : goal.returns
unfolding fresh partial
returns c =
    let accepted = same_answer c.self.view_is c.self.invariant in
    let small : c.open_names.result < 2 ^ 7 = omega (arith, open_64 c.args.self (limits_of c.args.self accepted), c.open_names.ensures) in
    rw (to_z_pos w8 small, c.counters.ensures, c.processes.ensures, c.open_names.ensures, c.self.view_is)
