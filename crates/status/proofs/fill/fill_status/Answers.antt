-- In a state in range the processes are at most 64 and each figure is a byte, and each record stored is one more written. Assumes nothing.
use Rattle.std.proofs.Common.{length, take, drop, [], ◌≡◌, ◌<◌, ℕ, arith, add-one, append-nil, length-take, drop_of_length-le}
use Rattle.machine.proofs.Ranges.{ranges_of}
use Rattle.machine.proofs.Rules.{rules, le-leb, refl}
use Rattle.machine.specs.Reports.{status_of, status_records}
use Rattle.machine.specs.State.{no_process}
use Rattle.status.proofs.Written.{written_more}
use Rattle.status.proofs.fill.fill_status.Goals as goal

pub loop-i-init : goal.loop-i-init
loop-i-init c = refl

pub bounds-state-i : goal.bounds-state-i
bounds-state-i c =
    let n64 = (ranges_of c.args.state.now c.in_ok-check.ensures).limits.n64 in
    omega (arith, n64, c.from-n.ensures, length-take c.from-n.result c.args.records.now, c.loop-i-test.true)

pub figure-requires : goal.figure-requires
figure-requires c =
    let k = ranges_of c.args.state.now c.in_ok-check.ensures in
    (k.process c.loop-i.i (omega (arith, c.from-n.ensures, length-take c.from-n.result c.args.records.now, c.loop-i-test.true))).shown

pub loop-i-preserved : goal.loop-i-preserved
loop-i-preserved c =
    let s = c.args.state.now in
    let i : ℕ = c.loop-i.i in
    let n64 = (ranges_of s c.in_ok-check.ensures).limits.n64 in
    let near : i < s.setup.processes
    = omega (arith, c.from-n.ensures, length-take c.from-n.result c.args.records.now, c.loop-i-test.true) in
    rw (c.figure.ensures, c.loop-i.invariant, add-one i)
    (written_more status_of s.process no_process i (take c.from-n.result c.args.records.now) (search (rules, n64, near)) c.loop-i-test.true)

pub returns-clause-filled : goal.returns-clause-filled
unfolding status_records
returns-clause-filled c =
    let s = c.args.state.now in
    let records = c.args.records.now in
    let size = length-take c.from-n.result records in
    let all : c.loop-i.i ≡ s.setup.processes
    = omega (arith, c.from-n.ensures, size, c.if-records-n.false, c.loop-i-test.false, c.loop-i.auto.i-end) in
    let rest : drop c.loop-i.i (take c.from-n.result records) ≡ [] = drop_of_length-le _ c.loop-i-test.false in
    rw (
      c.in_ok-check.ensures,
      le-leb s.setup.processes (length records) (omega (arith, c.from-n.ensures, c.if-records-n.false)),
      c.loop-i.invariant,
      rest,
      append-nil,
      all,
      c.from-n.ensures,
    ) refl
