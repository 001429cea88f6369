-- With each turn one process more is fresh.
use Rattle.std.proofs.Common.{◌≡◌, ◌∙◌, ◌<◌, ℕ, ap, arith, rules}
use Rattle.machine.specs.Below.{tabulate}
use Rattle.machine.specs.State.{no_process, fresh_process_at}
use Rattle.machine.proofs.Ranges.{limits_of}
use Rattle.fresh.proofs.Filled.{first_fresh, fresh_none, fresh_more}
use Rattle.fresh.proofs.accepted.Accepted.processes.Goals as goal

pub loop-p-init : goal.loop-p-init
loop-p-init c =
    let none : c.default-process.result ≡ no_process = search rules in
    rw none fresh_none

pub bounds-process-from : goal.bounds-process-from
bounds-process-from c = omega (arith, (limits_of c.self.inside.setup c.self.invariant).n64)

pub loop-p-preserved : goal.loop-p-preserved
loop-p-preserved c =
    let small : c.loop-p.p < 64 = omega (arith, (limits_of c.self.inside.setup c.self.invariant).n64) in
    rw (c.loop-p.invariant, c.from.ensures) (fresh_more c.loop-p.p c.fresh_process.result small c.fresh_process.ensures)

pub returns : goal.returns
unfolding fresh_process_at
returns c =
    let ended : c.loop-p.p ≡ c.self.inside.setup.processes = omega arith in
    c.loop-p.invariant ∙ ap (λ (p : ℕ). tabulate 64 (first_fresh p)) (rw c.self.view_is at ended)
