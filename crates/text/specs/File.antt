-- What the program `pads` prints for a day file: a line for each event, or only `refused n`.
use Rattle.std.specs.Prelude.{cond, List, ℕ, eqb}
use Rattle.machine.specs.Answer as answer
use Rattle.machine.specs.Lists.{events_of, journal}
use Rattle.day_file.specs.Layout.{file_answer, read_setup, read_events}
use Rattle.text.specs.Lines.{lines, refused}

-- the journal of an accepted file's events
abbrev pub file_journal : List ℕ → List ℕ
file_journal f = journal (read_setup f).state (events_of (read_events f))

unfoldable pub file_text : List ℕ → List ℕ
file_text f = cond (eqb (file_answer f) answer.accepted) (lines (file_journal f)) (refused (file_answer f))
