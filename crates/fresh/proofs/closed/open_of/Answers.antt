-- The open names of k are those that the ones among the closed bits leave, of which there are no more than k.
use lib.Count.{ones-le}
use Rattle.fresh.proofs.Counted.{names_open}
use Rattle.fresh.proofs.closed.open_of.Goals as goal

pub overflow_sub-result : goal.overflow_sub-result
overflow_sub-result c = ones-le c.args.k c.args.setup.closed c.requires.2

pub returns : goal.returns
returns c = rw (names_open c.args.setup (rw c.requires.0 at c.requires.2), c.requires.0)
