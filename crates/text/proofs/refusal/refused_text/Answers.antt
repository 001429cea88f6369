-- The word and the number put one after the other, where there is room for both.
use Rattle.std.proofs.Common.{sym, arith, rules}
use Rattle.machine.specs.Refusal.{number}
use Rattle.text.specs.Lines.{refused}
use Rattle.text.proofs.Entries.{figure-length}
use Rattle.text.proofs.Lent.{given-short, lent_after-short}
use Rattle.lent.proofs.Texts.{same_room}
use Rattle.text.proofs.Texts.{refused-put, given-put, lent_after-put}
use Rattle.text.proofs.refusal.refused_text.Goals as goal

pub returns-then-out-figure_len-clause-value : goal.returns-then-out-figure_len-clause-value
unfolding refused
returns-then-out-figure_len-clause-value c =
    sym (given-short (refused (number c.args.why)) c.args.out.now (grind (arith, figure-length)))

pub returns-then-out-figure_len-clause-buffer : goal.returns-then-out-figure_len-clause-buffer
unfolding refused
returns-then-out-figure_len-clause-buffer c =
    sym (lent_after-short (refused (number c.args.why)) c.args.out.now (grind (arith, figure-length)))

pub put_figure-requires : goal.put_figure-requires
put_figure-requires c = grind (arith, figure-length, same_room c.put.ensures)

pub returns-clause-value : goal.returns-clause-value
returns-clause-value c =
    let wrote = rw c.from-n.ensures at (refused-put _ c.put.ensures c.put_figure.ensures) in
    given-put c.new-text.ensures.empty c.new-text.ensures.bytes wrote

pub returns-clause-buffer : goal.returns-clause-buffer
returns-clause-buffer c =
    let wrote = rw c.from-n.ensures at (refused-put _ c.put.ensures c.put_figure.ensures) in
    let put = lent_after-put c.new-text.ensures.empty c.new-text.ensures.bytes wrote in
    search (rules, put)
