-- Where there is room for all lines there is room for each, and they are put one after the other; otherwise nothing is.
use Rattle.std.proofs.Common.{List, [], ℕ, length, ap, sym, arith, rules}
use Rattle.std.proofs.lemmas.List.Folds.{length-flat_map-take}
use Rattle.text.specs.Lines.{entry_line, lines}
use Rattle.text.proofs.Entries.{lines-entries, lines-more, lines-all}
use Rattle.text.proofs.Lent.{given-short, lent_after-short}
use Rattle.lent.proofs.Texts.{same_room, appends_append}
use Rattle.text.proofs.Texts.{given-put, lent_after-put}
use Rattle.text.proofs.lines.journal_text.Goals as goal

pub returns-in_err-check_room-clause-value : goal.returns-in_err-check_room-clause-value
returns-in_err-check_room-clause-value c =
    let all = lines-entries c.args.journal.now c.as_chunks.ensures.front in
    let short = given-short (lines c.args.journal.now) c.args.out.now (rw all c.in_err-check_room.ensures.1) in
    search (rules, short)

pub returns-in_err-check_room-clause-buffer : goal.returns-in_err-check_room-clause-buffer
returns-in_err-check_room-clause-buffer c =
    let all = lines-entries c.args.journal.now c.as_chunks.ensures.front in
    sym (lent_after-short (lines c.args.journal.now) c.args.out.now (rw all c.in_err-check_room.ensures.1))

pub put_line-requires : goal.put_line-requires
put_line-requires c =
    let each = length-flat_map-take entry_line c.as_chunks.result.0.now c.loop-entry.entry-index [] (omega arith) in
    let whole = ap (λ (lent : List ℕ). length lent) c.new-text.ensures.bytes in
    omega (arith, each, same_room c.loop-entry.invariant, whole, c.in_ok-check_room.ensures)

pub loop-entry-preserved : goal.loop-entry-preserved
loop-entry-preserved c =
    rw (lines-more c.as_chunks.result.0.now c.loop-entry.entry-index (omega arith))
    (appends_append c.loop-entry.invariant c.put_line.ensures)

pub returns-clause-value : goal.returns-clause-value
returns-clause-value c =
    let all = lines-all c.args.journal.now c.loop-entry.entry-index c.as_chunks.ensures.front (omega arith) in
    given-put c.new-text.ensures.empty c.new-text.ensures.bytes (rw all at c.loop-entry.invariant)

pub returns-clause-buffer : goal.returns-clause-buffer
returns-clause-buffer c =
    let all = lines-all c.args.journal.now c.loop-entry.entry-index c.as_chunks.ensures.front (omega arith) in
    let put = lent_after-put c.new-text.ensures.empty c.new-text.ensures.bytes (rw all at c.loop-entry.invariant) in
    search (rules, put)
