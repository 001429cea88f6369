-- The setup's refusal, or past it that of the list and the buffer.
use Rattle.std.proofs.Common.{sym, rules}
use Rattle.machine.proofs.Rules.{tests}
use Rattle.day_writer.proofs.Writing.{answer_setup, answer_list}
use Rattle.day_writer.proofs.check.Goals as goal

pub returns-in_err-try_from : goal.returns-in_err-try_from
returns-in_err-try_from c = search (rules, answer_setup)

pub returns-then-size-ne0 : goal.returns-then-size-ne0
returns-then-size-ne0 c = answer_list _ _ _ (rw (← c.from.ensures) (sym c.in_ok-try_from.ensures.answer)) (search tests)

pub returns-then-size : goal.returns-then-size
returns-then-size c = answer_list _ _ _ (rw (← c.from.ensures) (sym c.in_ok-try_from.ensures.answer)) (search tests)

pub returns-then-room-size : goal.returns-then-room-size
returns-then-room-size c = answer_list _ _ _ (rw (← c.from.ensures) (sym c.in_ok-try_from.ensures.answer)) (search tests)

pub returns : goal.returns
returns c = answer_list _ _ _ (search rules) (search tests)
