-- The fold is the figure.
use Rattle.std.proofs.Common.{rules}
use Rattle.cases.proofs.Digests.{digest-fold}
use Rattle.cases.proofs.image.mix.Goals as goal

pub returns : goal.returns
returns c = rw digest-fold (search rules)
