-- The part begins where the file's answer says. Assumes nothing.
use Rattle.machine.proofs.Rules.{rules}
use Rattle.day_file.proofs.Accepted.{begins, begins_nowhere}
use Rattle.day_file.proofs.reader.read_events.Goals as goal

pub returns-then-refused-clause-start : goal.returns-then-refused-clause-start
returns-then-refused-clause-start c =
    rw (begins_nowhere c.args.file.now c.file_answer.result c.file_answer.ensures (search rules))

pub returns-clause-start : goal.returns-clause-start
returns-clause-start c =
    rw (begins c.args.file.now c.file_answer.result c.file_answer.ensures (search rules))
