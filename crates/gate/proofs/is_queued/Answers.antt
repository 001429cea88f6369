-- The fold of the queue's taken places is the test of each of them.
use lib.Dec.{eqb}
use lib.ListN.{take}
use Rattle.std.proofs.lemmas.Iterator.{YieldsList-from_slice}
use Rattle.std.proofs.lemmas.Iterator.Consumers.{fold_from_yields_List}
use Rattle.machine.proofs.Rules.{◌∙◌, ◌||◌, false, rules, tests}
use Rattle.gate.proofs.Queue.{fold-take}
use Rattle.gate.proofs.is_queued.Goals as goal

pub returns : goal.returns
returns c =
    let q = c.args.s.now.queue in
    let n = c.args.s.now.queued in
    fold_from_yields_List _ (λ found x. found || eqb x c.args.p) false _ c.fold.ensures.ran
    (YieldsList-from_slice (take n q) (search rules))
    (λ found x b f k. search (rules, tests))
    ∙ fold-take n c.args.p q (search rules)
