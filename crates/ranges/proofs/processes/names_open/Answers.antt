-- The fold of the tests of the names is the test of every name.
use Rattle.std.proofs.Common.{◌∙◌, Bool, true, ◌&&◌, rules, tests}
use Rattle.std.proofs.lemmas.Iterator.{YieldsList-from_slice}
use Rattle.std.proofs.lemmas.Iterator.Consumers.{fold_from_yields_List}
use Rattle.machine.specs.State.{no_process}
use Rattle.machine.specs.declared.Process.{Process}
use Rattle.ranges.specs.Tests.{shut_test}
use Rattle.ranges.proofs.Lists.{fold_all, list_all_below}
use Rattle.ranges.proofs.processes.names_open.Goals as goal

pub returns : goal.returns
returns c =
    let ps = c.args.process.now in
    let test = (λ (h : Process). shut_test c.args.closed h.name) in
    fold_from_yields_List _ (λ (b : Bool) (h : Process). b && test h) true _ c.fold.ensures.ran (YieldsList-from_slice ps (search rules))
    (λ b p t f k. search (rules, tests))
    ∙ fold_all test true ps
    ∙ list_all_below test no_process ps
