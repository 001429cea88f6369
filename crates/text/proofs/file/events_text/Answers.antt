-- The run is not refused, and the part of the journal that has lines is what it left.
use Rattle.std.proofs.Common.{◌∙◌, ap, arith}
use Rattle.text.specs.Lent.{given, lent_after}
use Rattle.text.specs.Lines.{lines}
use Rattle.text.proofs.FileRuns.{not_refused, journal-taken}
use Rattle.text.proofs.file.events_text.Goals as goal

pub returns-in_err-run-clause-value : goal.returns-in_err-run-clause-value
returns-in_err-run-clause-value c =
    absurd (not_refused _ _ _ c.requires.even (omega arith) c.requires.in_range c.in_err-run.was c.run.ensures.state)

pub returns-in_err-run-clause-buffer : goal.returns-in_err-run-clause-buffer
returns-in_err-run-clause-buffer c =
    absurd (not_refused _ _ _ c.requires.even (omega arith) c.requires.in_range c.in_err-run.was c.run.ensures.state)

pub returns-clause-value : goal.returns-clause-value
returns-clause-value c =
    let taken = journal-taken _ _ _ c.requires.even (omega arith) c.requires.in_range c.run.ensures.journal in
    c.journal_text.ensures.value ∙ ap (λ journal. given (lines journal) c.args.out.now) taken

pub returns-clause-buffer : goal.returns-clause-buffer
returns-clause-buffer c =
    let taken = journal-taken _ _ _ c.requires.even (omega arith) c.requires.in_range c.run.ensures.journal in
    c.journal_text.ensures.buffer ∙ ap (λ journal. lent_after (lines journal) c.args.out.now) taken
