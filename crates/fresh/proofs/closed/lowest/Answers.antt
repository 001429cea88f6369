-- A number's low bits are its remainder.
use Rattle.std.proofs.Common.{arith}
use Rattle.std.proofs.lemmas.Nat.{and_mask}
use Rattle.fresh.proofs.Counted.{shifted_64}
use Rattle.fresh.proofs.closed.lowest.Goals as goal

pub returns : goal.returns
returns c = rw (shifted_64 c.args.n (omega (arith, c.requires))) (and_mask c.args.w c.args.n)
