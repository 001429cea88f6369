-- The layout decides first, then the setup. Assumes nothing.
use Rattle.std.proofs.lemmas.Result.{err_from_is_err_and}
use Rattle.machine.proofs.Facts.Refusals.{number_above}
use Rattle.machine.proofs.Rules.{◌∙◌, sym, ap}
use Rattle.machine.specs.Setup.{setup_answer}
use Rattle.day_file.proofs.Accepted.{answers, answers_lost}
use Rattle.day_file.proofs.reader.file_answer.Goals as goal

pub returns-in_err-numbers_in : goal.returns-in_err-numbers_in
returns-in_err-numbers_in c =
    let p = err_from_is_err_and c.from_residual.result c.from_residual.ensures.1 in
    let is = c.in_err-numbers_in.ensures.answer in
    rw (p.1, p.2) (is ∙ sym (answers_lost c.args.file.now (λ z. number_above c.in_err-numbers_in.field-0.0 (is ∙ z))))

pub returns-in_err-try_from : goal.returns-in_err-try_from
returns-in_err-try_from c =
    let p = err_from_is_err_and c.from_residual-in_err-try_from.result c.from_residual-in_err-try_from.ensures.1 in
    rw (p.1, p.2)
    (c.in_err-try_from.ensures.answer
    ∙ ap setup_answer (c.from.ensures ∙ c.in_ok-numbers_in.ensures.numbers)
    ∙ sym (answers c.args.file.now (sym c.in_ok-numbers_in.ensures.answer)))

pub returns : goal.returns
returns c =
    c.in_ok-try_from.ensures.answer
    ∙ ap setup_answer (c.from.ensures ∙ c.in_ok-numbers_in.ensures.numbers)
    ∙ sym (answers c.args.file.now (sym c.in_ok-numbers_in.ensures.answer))
