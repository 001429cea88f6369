-- Each node of the level passes its test where they all do.
use Rattle.std.proofs.Common.{◌≡◌, ◌∙◌, ℕ, ◌*◌, ◌%◌, ◌^◌, ◌+◌, refl, arith, rules, tests}
use Rattle.std.proofs.lemmas.Iterator.{YieldsList-from_range}
use Rattle.std.proofs.lemmas.Iterator.Search.{all_from_yields_List}
use Rattle.fresh.proofs.Levels.{shifted_is}
use Rattle.ranges.specs.Tests.{node_test}
use Rattle.ranges.proofs.Lists.{numbers_below}
use Rattle.ranges.proofs.counters.Counters.level_in_range.Goals as goal

pub returns : goal.returns
returns c =
    let d = c.args.d in
    let nodes : (1 * 2 ^ d) % 256 ≡ 2 ^ d = shifted_is d (omega (arith, c.requires.0)) in
    let test = (λ (i : ℕ). node_test c.args.self.now.accepted c.args.self.now.counters.now (2 ^ d + i)) in
    all_from_yields_List test _ _ _ c.all.ensures.ran (YieldsList-from_range 0 (2 ^ d) (2 ^ d) (rw nodes refl) (omega arith))
    (λ i t f k. search (rules, tests))
    ∙ numbers_below test (2 ^ d)
