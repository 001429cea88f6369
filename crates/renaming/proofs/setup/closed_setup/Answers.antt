-- The four numbers refuse as their own setup does, then a name of the list that is not below k; past both the list is the number that it
-- closes, and the rest is the setup's. Assumes nothing.
use Rattle.std.proofs.lemmas.Result.{err_from_is_err_and}
use Rattle.machine.proofs.Facts.Refusals.{number_above}
use Rattle.machine.proofs.Laws.Setup.{setup-refused}
use Rattle.machine.proofs.Ranges.{limits_of}
use Rattle.machine.proofs.Rules.{◌≡◌, ◌≢◌, ◌∙◌, sym, ap, arith}
use Rattle.machine.specs.Closed.{lists_below}
use Rattle.machine.specs.Refusal.{number}
use Rattle.machine.specs.Setup.{names, setup_answer, plain_of, closing_of, given_of}
use Rattle.machine.specs.State.{done, blank, partial_setup}
use Rattle.renaming.proofs.Listed.{every_counter, numbers_fail, list_fails}
use Rattle.renaming.proofs.setup.closed_setup.Goals as goal

pub returns-in_err-try_from : goal.returns-in_err-try_from
returns-in_err-try_from c =
    let p = err_from_is_err_and c.from_residual.result c.from_residual.ensures.1 in
    let n = c.args.numbers in
    let is : number c.in_err-try_from.field-0.0 ≡ setup_answer (plain_of n)
    = c.in_err-try_from.ensures.answer ∙ ap setup_answer c.from.ensures in
    let fails : setup_answer (plain_of n) ≢ 0 = λ z. number_above c.in_err-try_from.field-0.0 (is ∙ z) in
    let same = numbers_fail n c.args.closed.now fails in
    rw (p.1, p.2)
    (ap (λ a. done a blank) (is ∙ sym same) ∙ sym (setup-refused (given_of c.args.closed.now n) (λ z. fails (sym same ∙ z))))

pub returns-then-not-are_below : goal.returns-then-not-are_below
returns-then-not-are_below c =
    let n = c.args.numbers in
    let accepted = sym (c.in_ok-try_from.ensures.answer ∙ ap setup_answer c.from.ensures) in
    let k = c.names-k.ensures ∙ ap (λ s. names s) (c.in_ok-try_from.ensures.value ∙ c.from.ensures) in
    let fails = sym (ap (λ k. lists_below k c.args.closed.now) k) ∙ sym c.are_below.ensures ∙ c.if-not-are_below.true in
    let is = list_fails n c.args.closed.now accepted fails in
    ap (λ a. done a blank) (sym is) ∙ sym (setup-refused (given_of c.args.closed.now n) (λ z. omega (arith, is, z)))

pub closed_of-requires : goal.closed_of-requires
closed_of-requires c =
    let accepted = sym (c.in_ok-try_from.ensures.answer ∙ ap setup_answer c.from.ensures) in
    let k = c.names-k.ensures ∙ ap (λ s. names s) (c.in_ok-try_from.ensures.value ∙ c.from.ensures) in
    (omega (arith, k, (limits_of (plain_of c.args.numbers) accepted).k64), sym c.are_below.ensures ∙ c.if-not-are_below.false)

pub returns : goal.returns
returns c =
    let is = c.closing.ensures ∙ ap (λ w. closing_of w c.args.numbers) c.closed_of.ensures in
    c.made.ensures ∙ ap (λ s. partial_setup s 15) is ∙ every_counter (given_of c.args.closed.now c.args.numbers)
