-- All names where none is closed, otherwise those that the closed ones leave.
use Rattle.std.proofs.Common.{◌∙◌, sym, refl}
use Rattle.machine.specs.Setup.{names}
use Rattle.machine.proofs.Laws.Plain.{open_all}
use Rattle.machine.proofs.Ranges.{limits_of, closed_of}
use Rattle.fresh.proofs.Sizes.{same_answer}
use Rattle.fresh.proofs.accepted.Accepted.open_names.Goals as goal

pub returns-then-all_open : goal.returns-then-all_open
returns-then-all_open c = c.names-k.ensures ∙ sym (open_all c.args.self (rw c.self.view_is at c.if-all_open.true) 0 (names c.args.self))

pub open_of-requires : goal.open_of-requires
open_of-requires c =
    let accepted = same_answer c.self.view_is c.self.invariant in
    rw (c.names-k.ensures, c.self.view_is) (refl, (limits_of c.args.self accepted).k64, (closed_of c.args.self accepted).inside)

pub returns : goal.returns
returns c = rw c.self.view_is at c.open_of.ensures
