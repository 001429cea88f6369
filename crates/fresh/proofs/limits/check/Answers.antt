-- Refused by the four numbers, or past them what the closed names decide.
use Rattle.std.proofs.Common.{rules, sym, ◌∙◌, arith}
use Rattle.std.proofs.lemmas.Result.{err_from_is_err_and}
use Rattle.machine.proofs.Laws.Setup.{numbers-refused, numbers_passed}
use Rattle.machine.proofs.Facts.Refusals.{number_pos}
use Rattle.fresh.proofs.limits.check.Goals as goal

pub returns-in_err-k : goal.returns-in_err-k
returns-in_err-k c =
    let p = err_from_is_err_and c.from_residual.result c.from_residual.ensures.1 in
    let number = c.in_err-k.ensures.answer in
    rw (p.1, p.2) (number ∙ sym (numbers-refused c.args.setup (λ e. omega (arith, number_pos c.in_err-k.field-0.0, number, e))))

pub returns-then-not-is_below : goal.returns-then-not-is_below
returns-then-not-is_below c = rw (numbers_passed c.args.setup (sym c.in_ok-k.ensures.answer)) (search rules)

pub returns-then-open_of-eq0 : goal.returns-then-open_of-eq0
returns-then-open_of-eq0 c = rw (numbers_passed c.args.setup (sym c.in_ok-k.ensures.answer)) (search rules)

pub returns : goal.returns
returns c = rw (numbers_passed c.args.setup (sym c.in_ok-k.ensures.answer)) (search rules)
