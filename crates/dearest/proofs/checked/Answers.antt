-- The setup is checked first, and then the buffer, as the list of checks has it. Assumes nothing.
use Rattle.std.proofs.lemmas.Result.{err_from_is_err_and}
use Rattle.machine.proofs.Facts.Refusals.{number_above}
use Rattle.machine.proofs.Rules.{◌≡◌, ◌∙◌, sym, ap, refl, le-leb, lt-leb}
use Rattle.machine.specs.Refusal.{number}
use Rattle.machine.specs.Setup.{plain_of, setup_answer}
use Rattle.dearest_claim.proofs.Call.{answer_setup, answer_buffer}
use Rattle.dearest.proofs.checked.Goals as goal

pub returns-in_err-setup-clause-answer : goal.returns-in_err-setup-clause-answer
returns-in_err-setup-clause-answer c =
    let p = err_from_is_err_and c.from_residual.result c.from_residual.ensures.1 in
    let e = c.in_err-setup.field-0.0 in
    let is : number e ≡ setup_answer (plain_of c.args.numbers) = c.in_err-setup.ensures.answer ∙ ap setup_answer c.from.ensures in
    rw (p.1, p.2) (is ∙ sym (answer_setup (plain_of c.args.numbers) c.args.room (λ z. number_above e (is ∙ z))))

pub returns-then-room-lt-ROOM-clause-answer : goal.returns-then-room-lt-ROOM-clause-answer
returns-then-room-lt-ROOM-clause-answer c =
    let ok = sym c.in_ok-setup.ensures.answer in
    rw (answer_buffer (plain_of c.args.numbers) c.args.room (rw c.from.ensures at ok), lt-leb 4096 c.args.room c.if-room-lt-ROOM.true) refl

pub returns-clause-answer : goal.returns-clause-answer
returns-clause-answer c =
    let ok = sym c.in_ok-setup.ensures.answer in
    rw (answer_buffer (plain_of c.args.numbers) c.args.room (rw c.from.ensures at ok), le-leb 4096 c.args.room c.if-room-lt-ROOM.false) refl
