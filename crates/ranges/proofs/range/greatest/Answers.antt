-- The greatest of the items that are folded.
use Rattle.std.proofs.Common.{max, rules, tests}
use Rattle.std.proofs.lemmas.Iterator.{YieldsList-from_slice}
use Rattle.std.proofs.lemmas.Iterator.Consumers.{fold_from_yields_List}
use Rattle.ranges.proofs.Lists.{greatest_of}
use Rattle.ranges.proofs.range.greatest.Goals as goal

pub returns : goal.returns
returns c =
    let xs = c.args.xs.now in
    let top = fold_from_yields_List _ max 0 c.fold.result c.fold.ensures.ran (YieldsList-from_slice xs cc)
    (λ a x r f k. search (rules, tests)) in
    rw top (greatest_of xs)
