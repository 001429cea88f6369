-- The test of every node is that of the nodes below L, and the others pass.
use Rattle.std.proofs.Common.{◌∙◌, ◌≤◌, ℕ, leb, rules, tests}
use Rattle.std.proofs.lemmas.Iterator.{YieldsList-from_range}
use Rattle.std.proofs.lemmas.Iterator.Search.{all_from_yields_List}
use Rattle.machine.proofs.Ranges.{limits_of}
use Rattle.machine.proofs.Rules.{◌||◌}
use Rattle.fresh.proofs.Sizes.{leaves_16}
use Rattle.ranges.specs.Tests.{node_test}
use Rattle.ranges.proofs.Lists.{numbers_below, padded}
use Rattle.ranges.proofs.counters.Counters.each_in_range.Goals as goal

pub returns : goal.returns
returns c =
    let s = c.args.self.now.accepted in
    let few : s.leaves ≤ 16 = rw c.setup-leaves.ensures.value at (leaves_16 (limits_of _ c.setup-leaves.ensures.accepted)) in
    let test = (λ (v : ℕ). leb s.leaves v || node_test s c.args.self.now.counters.now v) in
    all_from_yields_List test _ _ _ c.all.ensures.ran (YieldsList-from_range 0 16 16 (search rules) (search rules))
    (λ v t f k. search (rules, tests))
    ∙ numbers_below test 16
    ∙ padded s.leaves 16 (node_test s c.args.self.now.counters.now) few
