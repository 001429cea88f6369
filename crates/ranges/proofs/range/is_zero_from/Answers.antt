-- The fold of the numbers beside their places is the test of each place.
use Rattle.std.proofs.Common.{◌∙◌, ℕ, Bool, true, ◌&&◌, ◌||◌, eqb, ltb, arith, rules, tests}
use Rattle.std.proofs.lemmas.Iterator.{YieldsList-from_slice, YieldsList-from_range, YieldsList-from_zip}
use Rattle.std.proofs.lemmas.Iterator.Consumers.{fold_from_yields_List}
use Rattle.std.specs.List.{range_with_len, zip}
use Rattle.ranges.proofs.Lists.{fold_all, placed_below}
use Rattle.ranges.proofs.range.is_zero_from.Goals as goal

pub returns : goal.returns
returns c =
    let xs = c.args.xs.now in
    let m = c.args.m in
    let test = (λ (p : ℕ × ℕ). ltb p.1 m || eqb p.0 0) in
    fold_from_yields_List _ (λ (b : Bool) (p : ℕ × ℕ). b && test p) true _ c.fold.ensures.ran
    (YieldsList-from_zip (YieldsList-from_slice xs (search rules)) (YieldsList-from_range 0 64 64 (search rules) (search rules)))
    (λ b x r f k. search (rules, tests))
    ∙ fold_all test true (zip xs (range_with_len 0 64))
    ∙ placed_below test xs 64 (omega (arith, c.told-xs))
