-- The ones of a part.
use Rattle.std.proofs.Common.{ap}
use lib.Count.{ones}
use Rattle.fresh.specs.Counts.{closed_in}
use Rattle.fresh.proofs.closed.closed_in.Goals as goal

pub returns : goal.returns
unfolding closed_in
returns c = ap ones c.part.ensures
