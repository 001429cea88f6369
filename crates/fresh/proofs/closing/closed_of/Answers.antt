-- The fold closes one name after another.
use Rattle.std.proofs.Common.{sym, rules}
use Rattle.fresh.proofs.Listed.{closed_fold}
use Rattle.fresh.proofs.closing.closed_of.Goals as goal

pub returns : goal.returns
returns c =
    rw (sym (closed_fold c.args.k 0 c.args.list.now c.requires.0 c.requires.1)) (search rules)
