-- Of each accepted number of leaves the zeros at the end are its height: computed for the five. Assumes nothing.
use lib.Dec.{eqb}
use Rattle.machine.proofs.Facts.Leaves.{by_leaves}
use Rattle.machine.proofs.Ranges.{limits_of}
use Rattle.machine.proofs.Rules.{◌∙◌, ap, refl, eqb-true}
use Rattle.machine.specs.Below.{all_below}
use Rattle.machine.specs.Setup.{is_leaves, log2, height}
use lib.Count.{count_trailing_zeros}
use Rattle.dearest.proofs.height_of.Goals as goal

pub returns : goal.returns
unfolding all_below is_leaves log2 count_trailing_zeros
returns c =
    let leaves = (limits_of _ c.setup.ensures.accepted).leaves in
    let zeros = by_leaves (λ l. eqb (count_trailing_zeros 8 l) (height l)) refl c.setup.result.leaves leaves in
    eqb-true _ _ zeros ∙ ap (λ (s : _). height s.leaves) c.setup.ensures.value
