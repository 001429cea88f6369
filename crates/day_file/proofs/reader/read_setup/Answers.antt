-- A file that has not the layout is refused with its number; otherwise its setup decides. Assumes nothing.
use Rattle.std.proofs.lemmas.Result.{err_from_is_err_and}
use Rattle.machine.proofs.Facts.Refusals.{number_above}
use Rattle.machine.proofs.Rules.{◌∙◌, sym, ap}
use Rattle.machine.specs.State.{done, blank, setup}
use Rattle.day_file.proofs.Accepted.{reads, reads_lost}
use Rattle.day_file.proofs.reader.read_setup.Goals as goal

pub returns-in_err-numbers_in : goal.returns-in_err-numbers_in
returns-in_err-numbers_in c =
    let p = err_from_is_err_and c.from_residual.result c.from_residual.ensures.1 in
    let is = c.in_err-numbers_in.ensures.answer in
    rw (p.1, p.2)
    (ap (λ a. done a blank) is ∙ sym (reads_lost c.args.file.now (λ z. number_above c.in_err-numbers_in.field-0.0 (is ∙ z))))

pub returns : goal.returns
returns c =
    c.setup.ensures
    ∙ ap setup c.in_ok-numbers_in.ensures.numbers
    ∙ sym (reads c.args.file.now (sym c.in_ok-numbers_in.ensures.answer))
