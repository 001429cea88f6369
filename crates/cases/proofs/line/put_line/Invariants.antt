-- After so many numbers the line holds the word and their figures, in the buffer that was lent.
use Rattle.std.proofs.Common.{◌≡◌, ◌++◌, take}
use Rattle.cases.specs.Line.{figures}
use Rattle.cases.proofs.Lines.{Holds}
use Rattle.cases.proofs.line.put_line.Given as goal

abbrev pub invariant-loop-n : goal.invariant-loop-n
invariant-loop-n l =
    record {
      same_buffer : l.line.buffer.ghost_name ≡ l.initial.line.buffer.ghost_name;
      so_far : Holds l.fn.bytes (l.word ++ figures (take l.n-index l.numbers)) l.line;
    }
