-- Refused by the checks, nothing is written; otherwise the head is, and the events behind it.
use Rattle.std.proofs.Common.{length, sym, refl, rules}
use Rattle.machine.specs.Setup.{plain_of}
use Rattle.day_file.specs.Writer.{head_bytes}
use Rattle.day_writer.proofs.Writing.{refused, written, events_behind}
use Rattle.day_writer.proofs.write_file.Goals as goal

pub returns-in_err-check-clause-value : goal.returns-in_err-check-clause-value
returns-in_err-check-clause-value c =
    let no = refused (plain_of c.args.numbers) c.args.events.now c.args.out.now _ c.in_err-check.ensures in
    search (rules, no.0)

pub returns-in_err-check-clause-buffer : goal.returns-in_err-check-clause-buffer
returns-in_err-check-clause-buffer c =
    (refused (plain_of c.args.numbers) c.args.events.now c.args.out.now _ c.in_err-check.ensures).1

pub returns-clause-value : goal.returns-clause-value
returns-clause-value c = (written (plain_of c.args.numbers) c.args.events.now c.args.out.now (sym c.in_ok-check.ensures) refl refl).0

pub returns-clause-buffer : goal.returns-clause-buffer
unfolding head_bytes
returns-clause-buffer c =
    let head = head_bytes (plain_of c.args.numbers) (length c.args.events.now) in
    let put = events_behind head c.args.events.now c.args.out.now refl in
    (written (plain_of c.args.numbers) c.args.events.now c.args.out.now (sym c.in_ok-check.ensures) refl
    (rw (c.copy_from_slice.ensures.after, c.head.ensures, c.copy_from_slice-2.ensures.after) put)).1
