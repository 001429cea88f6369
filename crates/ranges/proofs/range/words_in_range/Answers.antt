-- The greatest word in use against the first number past b bits.
use Rattle.std.proofs.Common.{◌*◌, ◌≤◌, length, sym, arith}
use Rattle.machine.proofs.Ranges.{limits_of}
use Rattle.fresh.proofs.Sizes.{words_64}
use Rattle.ranges.proofs.Bounds.{of_front, shifted_16, words_decide}
use Rattle.ranges.proofs.range.words_in_range.Goals as goal

pub overflow_mul-setup : goal.overflow_mul-setup
overflow_mul-setup c = omega (arith, words_64 (limits_of c.setup-setup.result c.setup-setup.ensures.accepted))

pub shared_ref_as_front-used : goal.shared_ref_as_front-used
shared_ref_as_front-used c = rw c.from.ensures (words_64 (limits_of c.setup-setup.result c.setup-setup.ensures.accepted))

pub overflow_shl-result : goal.overflow_shl-result
overflow_shl-result c = omega (arith, (limits_of c.setup-setup.result c.setup-setup.ensures.accepted).b8)

pub returns : goal.returns
returns c =
    let k = limits_of c.setup-setup.result c.setup-setup.ensures.accepted in
    let used : c.setup-setup.result.leaves * c.setup-setup.result.segments ≤ length c.args.words.now = omega (arith, words_64 k) in
    let top = of_front used (rw c.from.ensures at c.greatest.ensures) in
    rw (c.from-2.ensures, shifted_16 c.setup-setup.result.bits k.b8, c.setup-setup.ensures.value)
    (sym (words_decide c.args.accepted (rw c.setup-setup.ensures.value at top)))
