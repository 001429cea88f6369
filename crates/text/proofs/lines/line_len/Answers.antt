-- A line is as long as its four figures.
use Rattle.std.proofs.Common.{arith}
use Rattle.text.proofs.Entries.{line-length}
use Rattle.text.proofs.lines.line_len.Goals as goal

pub returns : goal.returns
returns c = grind (arith, line-length)
