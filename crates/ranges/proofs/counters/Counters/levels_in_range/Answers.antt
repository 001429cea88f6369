-- A level lies below L, and the levels together are the nodes below a power of 2, which is L.
use Rattle.std.proofs.Common.{◌∙◌, ℕ, ◌+◌, ◌^◌, ◌<◌, ap, refl, arith, add-one, pow_mono, pow_pos, rules, tests}
use native.Mathlib.Nat.{pow-succ'}
use Rattle.std.proofs.lemmas.Iterator.{YieldsList-from_range, serves_from_Range}
use Rattle.std.proofs.lemmas.Iterator.Search.{all_from_yields_List}
use Rattle.machine.specs.Below.{all_below}
use Rattle.machine.proofs.Ranges.{limits_of}
use Rattle.fresh.proofs.Sizes.{leaves_1, leaves_16}
use Rattle.ranges.specs.Tests.{node_test}
use Rattle.ranges.proofs.Level.{levels, power_of, depth_4}
use Rattle.ranges.proofs.Lists.{numbers_below}
use Rattle.ranges.proofs.counters.Counters.levels_in_range.Goals as goal

pub ilog2-height-requires : goal.ilog2-height-requires
ilog2-height-requires c = leaves_1 (limits_of c.setup.result c.setup.ensures.accepted)

pub all-requires-clause-callable : goal.all-requires-clause-callable
all-requires-clause-callable c =
    let h = c.ilog2-height.result in
    let leaves = c.setup.result.leaves in
    serves_from_Range (λ d q k. search (rules, tests))
    (λ d low high.
    let more = pow_mono {i = d + 1} {j = h} (omega (arith, high)) in
    let twice = ap (λ (x : ℕ). 2 ^ x) (add-one d) ∙ pow-succ' 2 d in
    let below : 2 ^ d < leaves = omega (arith, more, twice, pow_pos d, c.ilog2-height.ensures.power_le) in
    let near : d < 4 = depth_4 leaves d (leaves_16 (limits_of c.setup.result c.setup.ensures.accepted)) below in
    let used : 2 ^ d < c.args.self.now.accepted.leaves = rw c.setup.ensures.value at below in
    search rules)

pub returns : goal.returns
returns c =
    let s = c.args.self.now.accepted in
    let k = limits_of c.setup.result c.setup.ensures.accepted in
    let h = c.ilog2-height.result in
    let f = node_test s c.args.self.now.counters.now in
    let test = (λ (d : ℕ). all_below (2 ^ d) (λ i. f (2 ^ d + i))) in
    let log = c.ilog2-height.ensures in
    let all = power_of c.setup.result.leaves h k.leaves log.bound log.power_le log.next_power_gt in
    all_from_yields_List test _ _ _ c.all.ensures.ran (YieldsList-from_range 0 h h (search rules) (omega arith))
    (λ d t g k. search (rules, tests))
    ∙ numbers_below test h
    ∙ levels h f refl
    ∙ ap (λ (n : ℕ). all_below n f) (rw c.setup.ensures.value at all)
