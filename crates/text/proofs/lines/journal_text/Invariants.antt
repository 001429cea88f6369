-- The text so far is that of the entries so far, put into the lent buffer.
use Rattle.std.proofs.Common.{take}
use Rattle.std.specs.List.{flat_map}
use Rattle.text.specs.Lines.{entry_line}
use Rattle.lent.specs.Text.{Appends}
use Rattle.text.proofs.lines.journal_text.Given as goal

abbrev pub invariant-loop-entry : goal.invariant-loop-entry
invariant-loop-entry l = Appends l.initial.text l.text (flat_map entry_line (take l.entry-index l.entries))
