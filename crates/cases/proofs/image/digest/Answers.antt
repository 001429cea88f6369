-- The parts mixed one after the other, and then the processes, are the image mixed.
use Rattle.std.proofs.Common.{rules}
use Rattle.cases.proofs.Digests.{digest_of-fold}
use Rattle.cases.proofs.image.digest.Goals as goal

pub returns : goal.returns
returns c = rw digest_of-fold (search rules)
