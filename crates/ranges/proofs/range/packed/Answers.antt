-- The fold of the words from the last on.
use Rattle.std.proofs.Common.{◌∙◌, rules, tests}
use Rattle.std.proofs.lemmas.Iterator.Adapters.{YieldsList-from_rev_slice}
use Rattle.std.proofs.lemmas.Iterator.Consumers.{fold_from_yields_List}
use Rattle.ranges.proofs.Packed.{put, packed_fold}
use Rattle.ranges.proofs.range.packed.Goals as goal

pub returns : goal.returns
returns c =
    let words = c.args.words.now in
    fold_from_yields_List _ (put c.args.bits) 0 _ c.fold.ensures.ran (YieldsList-from_rev_slice words (search rules))
    (λ p w q f k. search (rules, tests))
    ∙ packed_fold c.args.bits words
