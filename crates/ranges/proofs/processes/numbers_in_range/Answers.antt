-- With each turn what was found takes in one process more.
use Rattle.std.proofs.Common.{◌≡◌, ◌∙◌, ℕ, ◌≤◌, Bool, ◌&&◌, get_or, ap, refl, sym, arith, add-one, below_none, below_more}
use Rattle.machine.specs.Below.{all_below}
use Rattle.machine.specs.State.{no_process}
use Rattle.machine.proofs.Ranges.{limits_of}
use Rattle.fresh.proofs.Sizes.{leaves_1, leaves_16}
use Rattle.ranges.specs.Tests.{ranked}
use Rattle.ranges.proofs.Ranks.{found_none, one_more, found_one}
use Rattle.ranges.proofs.processes.numbers_in_range.Goals as goal

both-sides : {a b x y : Bool} → a ≡ x → b ≡ y → (a && b) ≡ (x && y)
both-sides e f = rw (e, f) refl

pub loop-p-init : goal.loop-p-init
unfolding all_below
loop-p-init c =
    let k = limits_of c.args.accepted c.headroom-room.ensures.accepted in
    record { passed = found_none c.args.accepted k.g1; bytes = below_none _ }

pub loop-p-preserved : goal.loop-p-preserved
unfolding all_below
loop-p-preserved c =
    let s = c.args.accepted in
    let loop = c.loop-p in
    let h = get_or c.args.process.now loop.p-index no_process in
    let k = limits_of s c.headroom-room.ensures.accepted in
    let node = c.node_rank.ensures s.leaves (leaves_1 k) (leaves_16 k) in
    let name = c.name_rank.ensures in
    let v = c.node_rank.result in
    let m = c.name_rank.result in
    let x = c.sum_fits-fits.result in
    let one = found_one s h v m x node name.0 c.sum_fits-fits.ensures in
    record {
      passed = rw (c.max-stage.ensures, c.max-node.ensures, c.max-segment.ensures, c.max-name.ensures, add-one)
          (one_more s loop.stage loop.node loop.segment loop.name loop.fits h.stage v h.segment m x
          ∙ both-sides one loop.invariant.passed);
      bytes = below_more _ _ loop.invariant.bytes name.1;
    }

-- past the last process, what was found is that of all
all_passed : {m n : ℕ} {a : Bool} (f : ℕ → Bool) → m ≤ n → n ≤ m → a ≡ all_below m f → a ≡ all_below n f
all_passed f l k e = e ∙ ap (λ (i : ℕ). all_below i f) (omega (arith, l, k))

pub returns-then-ranks_fit-clause-tests : goal.returns-then-ranks_fit-clause-tests
returns-then-ranks_fit-clause-tests c =
    let loop = c.loop-p in
    let room = c.headroom-room.ensures in
    let fit = sym (c.ranks_fit.ensures c.args.accepted room.accepted room.value) ∙ c.if-ranks_fit.true in
    sym (ap (λ (t : Bool). t && loop.fits) fit)
    ∙ all_passed (λ p. ranked c.args.accepted (get_or c.args.process.now p no_process)) loop.auto.p-index-end c.loop-p-test.false
    loop.invariant.passed

pub returns-else-ranks_fit-clause-tests : goal.returns-else-ranks_fit-clause-tests
returns-else-ranks_fit-clause-tests c =
    let loop = c.loop-p in
    let room = c.headroom-room.ensures in
    let fit = sym (c.ranks_fit.ensures c.args.accepted room.accepted room.value) ∙ c.if-ranks_fit.false in
    c.if-ranks_fit.false
    ∙ sym (ap (λ (t : Bool). t && loop.fits) fit)
    ∙ all_passed (λ p. ranked c.args.accepted (get_or c.args.process.now p no_process)) loop.auto.p-index-end c.loop-p-test.false
    loop.invariant.passed
